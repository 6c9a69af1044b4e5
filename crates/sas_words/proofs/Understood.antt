-- Which words clap takes, and what it finds in them.
use Rattle.std.proofs.Common.{◌≡◌, ◌∙◌, ◌≤◌, inl, inr, ℕ, Bool, true, false, cond, refl, sym, ap, subst, subst₂, arith, List, [], ◌∷◌, length, drop, codes, bytes_eq}
use Rattle.std.proofs.lemmas.Slice.Eq.{bytes_eq-Decides}
use Rattle.clap.specs.Lexer.{usize_max}
use Rattle.clap.specs.Walk.{Text}
use Rattle.clap.specs.Simple.{Shape, subcommand_of}
use Rattle.clap.specs.Faults.{fault_of}
use Rattle.clap.proofs.OnLiterals.{clap_on_literals}
use Rattle.sas_words.specs.Grammar.{Among, HasFound, request_names, sas_app}
use Rattle.sas_words.specs.Usage.{IsAccepted, IsCall, operands, options, options_of, spelled}
use Rattle.sas_words.proofs.Options.{HaveCharacters}
use Rattle.sas_words.proofs.Machines.{Follows, Machine, complete, head, same_why, sound, tail}
use Rattle.sas_words.proofs.Requests.{IsRequest, first_word, request_faults, request_rows}
use Rattle.sas_words.proofs.OneFile.{task_follows, task_shape, plan_follows as steps_follows, plan_shape as steps_shape}
use Rattle.sas_words.proofs.TwoFiles.{plan_follows, plan_shape}
use Rattle.sas_words.proofs.ManyFiles.{plans_follows, plans_shape}

-- clap takes the words, and has found what they say
abbrev Sound : Text → Text → List Text → Type 0
Sound w0 v vs = fault_of sas_app (w0 ∷ v ∷ vs) ≡ [] → (why : Bool) × (options vs ≡ options_of why) × IsAccepted v why (operands vs)
    × HasFound v why (operands vs) (subcommand_of sas_app (w0 ∷ v ∷ vs))

-- a request, by its machine
module _ {Seen : Type 0} (name : Text) (shape : Shape) (m : Machine Seen) (IsWell : Bool → List Text → Type 0) (is : IsRequest name shape) (follows : Follows shape name m IsWell) where
  takes_well : (w0 : Text) (vs : List Text) → HaveCharacters vs → length vs ≤ usize_max → (why : Bool) → options vs ≡ options_of why → IsWell why (operands vs)
      → fault_of sas_app (w0 ∷ name ∷ vs) ≡ []
  takes_well w0 vs has few why eo well = request_faults name shape is w0 vs ∙ complete shape name m IsWell follows vs has few why eo well

  is_sound : ((why : Bool) (files : List Text) → IsWell why files → IsAccepted name why files) → (w0 : Text) (vs : List Text) → HaveCharacters vs → length vs ≤ usize_max → Sound w0 name vs
  is_sound accepts w0 vs has few e =
      let s = sound shape name m IsWell follows vs has few (sym (request_faults name shape is w0 vs) ∙ e) in
      (s.0, s.1, accepts s.0 (operands vs) s.2, subst (HasFound name s.0 (operands vs)) (sym (request_rows name shape is w0 vs)) (refl, s.3))

plan_request : IsRequest (codes "plan") (plan_shape (codes "plan"))
unfolding clap_on_literals
plan_request = record { met = refl; turns = refl; found = refl; named = refl }

plans_request : IsRequest (codes "plans") plans_shape
unfolding clap_on_literals
plans_request = record { met = refl; turns = refl; found = refl; named = refl }

trace_request : IsRequest (codes "trace") (plan_shape (codes "trace"))
unfolding clap_on_literals
trace_request = record { met = refl; turns = refl; found = refl; named = refl }

mutex_request : IsRequest (codes "mutex") (task_shape (codes "mutex"))
unfolding clap_on_literals
mutex_request = record { met = refl; turns = refl; found = refl; named = refl }

show_request : IsRequest (codes "show") (task_shape (codes "show"))
unfolding clap_on_literals
show_request = record { met = refl; turns = refl; found = refl; named = refl }

check_request : IsRequest (codes "check") (task_shape (codes "check"))
unfolding clap_on_literals
check_request = record { met = refl; turns = refl; found = refl; named = refl }

print_request : IsRequest (codes "print") (task_shape (codes "print"))
unfolding clap_on_literals
print_request = record { met = refl; turns = refl; found = refl; named = refl }

steps_request : IsRequest (codes "steps") steps_shape
unfolding clap_on_literals
steps_request = record { met = refl; turns = refl; found = refl; named = refl }

plan_known : Among request_names (codes "plan")
plan_known = inl refl

trace_known : Among request_names (codes "trace")
trace_known = inr (inr (inl refl))

mutex_known : Among request_names (codes "mutex")
mutex_known = inr (inr (inr (inl refl)))

show_known : Among request_names (codes "show")
show_known = inr (inr (inr (inr (inl refl))))

check_known : Among request_names (codes "check")
check_known = inr (inr (inr (inr (inr (inl refl)))))

print_known : Among request_names (codes "print")
print_known = inr (inr (inr (inr (inr (inr (inl refl))))))

-- ---- calls that name a request

sound_at : (w0 v : Text) (vs : List Text) → HaveCharacters vs → length vs ≤ usize_max → Among request_names v → Sound w0 v vs
sound_at w0 v vs has few (inl e) = subst (λ n. Sound w0 n vs) e (is_sound _ _ _ _ plan_request (plan_follows _ plan_known refl) (λ why files well. inl (refl, well)) w0 vs has few)
sound_at w0 v vs has few (inr (inl e)) = subst (λ n. Sound w0 n vs) e (is_sound _ _ _ _ plans_request plans_follows (λ why files well. inr (inl (refl, well))) w0 vs has few)
sound_at w0 v vs has few (inr (inr (inl e))) = subst (λ n. Sound w0 n vs) e (is_sound _ _ _ _ trace_request (plan_follows _ trace_known refl) (λ why files well. inr (inr (inl (refl, well)))) w0 vs has few)
sound_at w0 v vs has few (inr (inr (inr (inl e)))) = subst (λ n. Sound w0 n vs) e
    (is_sound _ _ _ _ mutex_request (task_follows _ mutex_known refl) (λ why files well. inr (inr (inr (inl (refl, well))))) w0 vs has few)
sound_at w0 v vs has few (inr (inr (inr (inr (inl e))))) = subst (λ n. Sound w0 n vs) e
    (is_sound _ _ _ _ show_request (task_follows _ show_known refl) (λ why files well. inr (inr (inr (inr (inl (refl, well)))))) w0 vs has few)
sound_at w0 v vs has few (inr (inr (inr (inr (inr (inl e)))))) = subst (λ n. Sound w0 n vs) e
    (is_sound _ _ _ _ check_request (task_follows _ check_known refl) (λ why files well. inr (inr (inr (inr (inr (inl (refl, well))))))) w0 vs has few)
sound_at w0 v vs has few (inr (inr (inr (inr (inr (inr (inl e))))))) = subst (λ n. Sound w0 n vs) e
    (is_sound _ _ _ _ print_request (task_follows _ print_known refl) (λ why files well. inr (inr (inr (inr (inr (inr (inl (refl, well)))))))) w0 vs has few)
sound_at w0 v vs has few (inr (inr (inr (inr (inr (inr (inr (inl e)))))))) = subst (λ n. Sound w0 n vs) e
    (is_sound _ _ _ _ steps_request steps_follows (λ why files well. inr (inr (inr (inr (inr (inr (inr (refl, well)))))))) w0 vs has few)
sound_at w0 v vs has few (inr (inr (inr (inr (inr (inr (inr (inr e)))))))) = absurd e

abbrev Well : Text → List Text → Text → Type 0
Well w0 vs v = fault_of sas_app (w0 ∷ v ∷ vs) ≡ []

well_at : (w0 v : Text) (vs : List Text) → HaveCharacters vs → length vs ≤ usize_max → (why : Bool) → options vs ≡ options_of why → IsAccepted v why (operands vs) → Well w0 vs v
well_at w0 v vs has few why eo (inl a) = subst (Well w0 vs) (sym a.0) (takes_well _ _ _ _ plan_request (plan_follows _ plan_known refl) w0 vs has few why eo a.1)
well_at w0 v vs has few why eo (inr (inl a)) = subst (Well w0 vs) (sym a.0) (takes_well _ _ _ _ plans_request plans_follows w0 vs has few why eo a.1)
well_at w0 v vs has few why eo (inr (inr (inl a))) = subst (Well w0 vs) (sym a.0) (takes_well _ _ _ _ trace_request (plan_follows _ trace_known refl) w0 vs has few why eo a.1)
well_at w0 v vs has few why eo (inr (inr (inr (inl a)))) = subst (Well w0 vs) (sym a.0) (takes_well _ _ _ _ mutex_request (task_follows _ mutex_known refl) w0 vs has few why eo a.1)
well_at w0 v vs has few why eo (inr (inr (inr (inr (inl a))))) = subst (Well w0 vs) (sym a.0) (takes_well _ _ _ _ show_request (task_follows _ show_known refl) w0 vs has few why eo a.1)
well_at w0 v vs has few why eo (inr (inr (inr (inr (inr (inl a)))))) = subst (Well w0 vs) (sym a.0) (takes_well _ _ _ _ check_request (task_follows _ check_known refl) w0 vs has few why eo a.1)
well_at w0 v vs has few why eo (inr (inr (inr (inr (inr (inr (inl a))))))) = subst (Well w0 vs) (sym a.0)
    (takes_well _ _ _ _ print_request (task_follows _ print_known refl) w0 vs has few why eo a.1)
well_at w0 v vs has few why eo (inr (inr (inr (inr (inr (inr (inr a))))))) = subst (Well w0 vs) (sym a.0) (takes_well _ _ _ _ steps_request steps_follows w0 vs has few why eo a.1)

accepted_name : (v : Text) (why : Bool) (files : List Text) → IsAccepted v why files → Among request_names v
accepted_name v why files (inl a) = inl (sym a.0)
accepted_name v why files (inr (inl a)) = inr (inl (sym a.0))
accepted_name v why files (inr (inr (inl a))) = inr (inr (inl (sym a.0)))
accepted_name v why files (inr (inr (inr (inl a)))) = inr (inr (inr (inl (sym a.0))))
accepted_name v why files (inr (inr (inr (inr (inl a))))) = inr (inr (inr (inr (inl (sym a.0)))))
accepted_name v why files (inr (inr (inr (inr (inr (inl a)))))) = inr (inr (inr (inr (inr (inl (sym a.0))))))
accepted_name v why files (inr (inr (inr (inr (inr (inr (inl a))))))) = inr (inr (inr (inr (inr (inr (inl (sym a.0)))))))
accepted_name v why files (inr (inr (inr (inr (inr (inr (inr a))))))) = inr (inr (inr (inr (inr (inr (inr (inl (sym a.0))))))))

not_dashes : (v : Text) → Among request_names v → bytes_eq v (codes "--") ≡ false
not_dashes v (inl e) = subst (λ n. bytes_eq n (codes "--") ≡ false) e refl
not_dashes v (inr (inl e)) = subst (λ n. bytes_eq n (codes "--") ≡ false) e refl
not_dashes v (inr (inr (inl e))) = subst (λ n. bytes_eq n (codes "--") ≡ false) e refl
not_dashes v (inr (inr (inr (inl e)))) = subst (λ n. bytes_eq n (codes "--") ≡ false) e refl
not_dashes v (inr (inr (inr (inr (inl e))))) = subst (λ n. bytes_eq n (codes "--") ≡ false) e refl
not_dashes v (inr (inr (inr (inr (inr (inl e)))))) = subst (λ n. bytes_eq n (codes "--") ≡ false) e refl
not_dashes v (inr (inr (inr (inr (inr (inr (inl e))))))) = subst (λ n. bytes_eq n (codes "--") ≡ false) e refl
not_dashes v (inr (inr (inr (inr (inr (inr (inr (inl e)))))))) = subst (λ n. bytes_eq n (codes "--") ≡ false) e refl
not_dashes v (inr (inr (inr (inr (inr (inr (inr (inr e)))))))) = absurd e

-- ---- all calls

abbrev Met : List Text → Text → Bool → List Text → Type 0
Met words request why files = HasFound request why files (subcommand_of sas_app words)

spelled_so : (v : Text) (vs : List Text) → bytes_eq v (codes "--") ≡ false → spelled (v ∷ vs) ≡ v ∷ vs
spelled_so v [] e = ap (λ b. cond b (codes "steps" ∷ codes "-" ∷ []) (v ∷ [])) e
spelled_so v (u ∷ us) e = refl

-- no words, or `--` alone
none_named : Met [] (codes "steps") false (codes "-" ∷ [])
unfolding clap_on_literals
none_named = (refl, refl, refl)

name_alone : (w0 : Text) → Met (w0 ∷ []) (codes "steps") false (codes "-" ∷ [])
unfolding clap_on_literals
name_alone w0 = (refl, refl, refl)

dashes_alone : (w0 : Text) → Met (w0 ∷ codes "--" ∷ []) (codes "steps") false (codes "-" ∷ [])
unfolding clap_on_literals
dashes_alone w0 = (refl, refl, refl)

none_well : fault_of sas_app [] ≡ []
unfolding clap_on_literals
none_well = refl

alone_well : (w0 : Text) → fault_of sas_app (w0 ∷ []) ≡ []
unfolding clap_on_literals
alone_well w0 = refl

dashes_well : (w0 : Text) → fault_of sas_app (w0 ∷ codes "--" ∷ []) ≡ []
unfolding clap_on_literals
dashes_well w0 = refl

steps_call : (words : List Text) → spelled (drop 1 words) ≡ codes "steps" ∷ codes "-" ∷ [] → IsCall words (codes "steps") false (codes "-" ∷ [])
steps_call words e = record {
  rest = codes "-" ∷ [];
  named = e;
  optional = refl;
  names = refl;
  accepted = inr (inr (inr (inr (inr (inr (inr (refl, (codes "-", refl))))))));
}

-- what clap takes is a call, and clap has found what it says
pub taken_is_call : (words : List Text) → HaveCharacters words → length words ≤ usize_max → fault_of sas_app words ≡ []
    → (request : List ℕ) × (why : Bool) × (files : List Text) × IsCall words request why files × Met words request why files
taken_is_call [] has few e = (codes "steps", false, codes "-" ∷ [], steps_call [] refl, none_named)
taken_is_call (w0 ∷ []) has few e = (codes "steps", false, codes "-" ∷ [], steps_call (w0 ∷ []) refl, name_alone w0)
taken_is_call (w0 ∷ v ∷ vs) has few e = elim (first_word w0 v vs has.1 e) [
  | inl among ↦
      let s = sound_at w0 v vs has.1.1 (omega (arith, few)) among e in
      (v, s.0, operands vs, record { rest = vs; named = spelled_so v vs (not_dashes v among); optional = s.1; names = refl; accepted = s.2 }, s.3)
  | inr alone ↦ subst₂ (λ n l. (request : List ℕ) × (why : Bool) × (files : List Text) × IsCall (w0 ∷ n ∷ l) request why files × Met (w0 ∷ n ∷ l) request why files) (sym alone.0) (sym alone.1)
      (codes "steps", false, codes "-" ∷ [], steps_call (w0 ∷ codes "--" ∷ []) refl, dashes_alone w0)
]

-- clap takes each call, and finds what it says
abbrev Taken : List Text → Text → Bool → List Text → Type 0
Taken words request why files = (fault_of sas_app words ≡ []) × Met words request why files

none_taken : (words : List Text) → Taken words (codes "steps") false (codes "-" ∷ []) → (request : List ℕ) (why : Bool) (files rest : List Text)
    → codes "steps" ∷ codes "-" ∷ [] ≡ request ∷ rest → options rest ≡ options_of why → operands rest ≡ files → Taken words request why files
none_taken words is request why files rest named optional names =
    let rest_is : codes "-" ∷ [] ≡ rest = ap tail named in
    let request_is : codes "steps" ≡ request = ap head named in
    let why_is : false ≡ why = same_why false why (ap options rest_is ∙ optional) in
    let files_are : codes "-" ∷ [] ≡ files = ap operands rest_is ∙ names in
    subst (λ l. Taken words request why l) files_are (subst₂ (λ n b. Taken words n b (codes "-" ∷ [])) request_is why_is is)

named_taken : (w0 v : Text) (vs : List Text) → HaveCharacters vs → length vs ≤ usize_max → (request : List ℕ) (why : Bool) (files rest : List Text)
    → v ∷ vs ≡ request ∷ rest → options rest ≡ options_of why → operands rest ≡ files → IsAccepted request why files → Taken (w0 ∷ v ∷ vs) request why files
named_taken w0 v vs has few request why files rest named optional names accepted =
    let rest_is : vs ≡ rest = ap tail named in
    let request_is : v ≡ request = ap head named in
    let optional' : options vs ≡ options_of why = ap options rest_is ∙ optional in
    let files_are : operands vs ≡ files = ap operands rest_is ∙ names in
    let accepted' : IsAccepted v why (operands vs) = subst₂ (λ n l. IsAccepted n why l) (sym request_is) (sym files_are) accepted in
    let well = well_at w0 v vs has few why optional' accepted' in
    let s = sound_at w0 v vs has few (accepted_name v why (operands vs) accepted') well in
    let why_is : s.0 ≡ why = same_why s.0 why (sym s.1 ∙ optional') in
    (well, subst (λ b. Met (w0 ∷ v ∷ vs) request b files) why_is (subst₂ (λ n l. Met (w0 ∷ v ∷ vs) n s.0 l) request_is files_are s.3))

pub call_is_taken : (words : List Text) → HaveCharacters words → length words ≤ usize_max → (request : List ℕ) (why : Bool) (files : List Text)
    → IsCall words request why files → Taken words request why files
call_is_taken [] has few request why files call = none_taken [] (none_well, none_named) request why files call.rest call.named call.optional call.names
call_is_taken (w0 ∷ []) has few request why files call = none_taken (w0 ∷ []) (alone_well w0, name_alone w0) request why files call.rest call.named call.optional call.names
call_is_taken (w0 ∷ v ∷ u ∷ us) has few request why files call =
    named_taken w0 v (u ∷ us) has.1.1 (omega (arith, few)) request why files call.rest call.named call.optional call.names call.accepted
call_is_taken (w0 ∷ v ∷ []) has few request why files call = go (bytes_eq v (codes "--")) refl call.named
  where
    go : (b : Bool) → bytes_eq v (codes "--") ≡ b → cond b (codes "steps" ∷ codes "-" ∷ []) (v ∷ []) ≡ request ∷ call.rest → Taken (w0 ∷ v ∷ []) request why files
    go true is named = subst (λ n. Taken (w0 ∷ n ∷ []) request why files) (sym ((bytes_eq-Decides v (codes "--")).0 is))
        (none_taken (w0 ∷ codes "--" ∷ []) (dashes_well w0, dashes_alone w0) request why files call.rest named call.optional call.names)
    go false is named = named_taken w0 v [] has.1.1 (omega (arith, few)) request why files call.rest named call.optional call.names call.accepted
