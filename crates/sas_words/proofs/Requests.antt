-- What clap makes of the words of a whole call, by what it makes of those behind the request's name.
use Rattle.std.proofs.Common.{◌≡◌, ◌∙◌, ◌⊎◌, inl, inr, Bool, true, false, refl, sym, ap, subst, List, [], ◌∷◌, ◌++◌, Option, Some, None, codes, fold, is_some, option_map, map, find, bytes_eq}
use Rattle.std.specs.Option.{option_map_or}
use Rattle.std.proofs.lemmas.Slice.Eq.{bytes_eq-Decides}
use Rattle.clap.specs.Walk.{Names, Text, Walk, answers_to, finished, idle, nothing_held, rows_after, settled, subcommand_met, walk, walked}
use Rattle.clap.specs.Simple.{App, Shape, built, entered, label_of, names_of, rows_at, subcommand_of}
use Rattle.clap.specs.Faults.{check_fault, defaults_fault, entered_fault, fault_of, level_fault, settle_fault, stray_fault, turn_fault, walk_fault}
use Rattle.clap.specs.Kinds.{Kinds, or_else}
use Rattle.clap.proofs.WalkLemmas.{walk_stopped}
use Rattle.sas_words.specs.Grammar.{Among, request_names, sas_app}
use Rattle.sas_words.specs.Usage.{is_option}
use Rattle.sas_words.proofs.Turns.{IsValue, is_value, standing}
use Rattle.sas_words.proofs.Options.{AreHarmless, HaveCharacters, cons≢nil, first, option_refused, second}

abbrev pub sas_built : App
sas_built = built sas_app

abbrev top : Shape
top = sas_built.top

abbrev sas_names : Names
sas_names = names_of sas_built

abbrev top_walk : Walk
top_walk = standing false 1 false nothing_held

-- behind the name of a request
abbrev stopped_at : Text → List Text → Walk
stopped_at name seen = record top_walk { stopped = Some (name, seen) }

no_fault_behind : (name : Text) (seen vs : List Text) → walk_fault top sas_names (stopped_at name seen) vs ≡ []
unfolding walk_fault walked
no_fault_behind name seen [] = refl
no_fault_behind name seen (v ∷ vs) = no_fault_behind name (seen ++ v ∷ []) vs

or_nil : (k : Kinds) → or_else k [] ≡ k
or_nil [] = refl
or_nil (k ∷ ks) = refl

abbrev below_top : Walk → Kinds
below_top z = or_else (entered_fault sas_built z.stopped) (or_else (settle_fault top.rules false z.held)
    (or_else (defaults_fault (settled top.rules z.held).rows top.rules)
    (check_fault top (finished top.rules z.held) (is_some (entered sas_built z.stopped)))))

-- the name of a request, and what it is
pub record IsRequest (name : Text) (shape : Shape) : Type 0 where
  pub met : walked top.rules sas_names top_walk name ≡ stopped_at name []
  pub turns : turn_fault top sas_names top_walk name ≡ []
  pub found : find (λ s. answers_to name (label_of s)) sas_built.subs ≡ Some shape
  pub named : shape.name ≡ name

module _ (name : Text) (shape : Shape) (is : IsRequest name shape) where
  request_walk : (vs : List Text) → walk top.rules sas_names nothing_held (name ∷ vs) ≡ stopped_at name vs
  request_walk vs = ap (λ (z : Walk). fold (walked top.rules sas_names) z vs) is.met ∙ sym (walk_stopped top.rules sas_names top_walk name [] vs)

  request_fault : (vs : List Text) → walk_fault top sas_names top_walk (name ∷ vs) ≡ []
  unfolding walk_fault
  request_fault vs = ap (λ k. or_else k (walk_fault top sas_names (walked top.rules sas_names top_walk name) vs)) is.turns
      ∙ ap (λ (z : Walk). walk_fault top sas_names z vs) is.met ∙ no_fault_behind name [] vs

  abbrev below_found : List Text → Option Shape → Kinds
  below_found vs o = or_else (option_map_or (λ s. level_fault s [] nothing_held vs false []) o [])
      (or_else [] (or_else (defaults_fault [] top.rules) (check_fault top (finished top.rules nothing_held) (is_some (option_map (λ s. rows_at s vs) o)))))

  below_is : (vs : List Text) → below_top (stopped_at name vs) ≡ level_fault shape [] nothing_held vs false []
  unfolding defaults_fault
  below_is vs = ap (below_found vs) is.found ∙ or_nil (level_fault shape [] nothing_held vs false [])

  -- what is wrong with a call of the request is what is wrong with the words behind its name
  pub request_faults : (w0 : Text) (vs : List Text) → fault_of sas_app (w0 ∷ name ∷ vs) ≡ level_fault shape [] nothing_held vs false []
  request_faults w0 vs = ap (λ k. or_else k (below_top (walk top.rules sas_names nothing_held (name ∷ vs)))) (request_fault vs)
      ∙ ap below_top (request_walk vs) ∙ below_is vs

  pub request_rows : (w0 : Text) (vs : List Text) → subcommand_of sas_app (w0 ∷ name ∷ vs) ≡ Some (name, rows_after shape.rules [] vs)
  request_rows w0 vs = ap (λ (z : Walk). entered sas_built z.stopped) (request_walk vs)
      ∙ ap (λ o. option_map (λ s. rows_at s vs) o) is.found ∙ ap (λ n. Some (n, rows_after shape.rules [] vs)) is.named

-- ---- other first words

abbrev leaf : Text → Text × List Text
leaf t = (t, [])

met_among : (ts : List Text) (v : Text) → (subcommand_met (map leaf ts) idle v ≡ None) ⊎ Among ts v
met_among [] v = inl refl
met_among (t ∷ ts) v = go (bytes_eq t v) refl (met_among ts v)
  where
    go : (b : Bool) → bytes_eq t v ≡ b → (subcommand_met (map leaf ts) idle v ≡ None) ⊎ Among ts v → (subcommand_met (map leaf (t ∷ ts)) idle v ≡ None) ⊎ Among (t ∷ ts) v
    go true e below = inr (inl ((bytes_eq-Decides t v).0 e))
    go false e (inl none) = inl (rw e none)
    go false e (inr among) = inr (inr among)

among_last : (ts : List Text) (l v : Text) → Among (ts ++ l ∷ []) v → Among ts v ⊎ (l ≡ v)
among_last [] l v (inl e) = inr e
among_last [] l v (inr e) = absurd e
among_last (t ∷ ts) l v (inl e) = inl (inl e)
among_last (t ∷ ts) l v (inr a) = elim (among_last ts l v a) [
  | inl here ↦ inl (inr here)
  | inr last ↦ inr last
]

top_harmless : AreHarmless top top.rules
top_harmless = (inr (inr (refl, λ h e. cons≢nil _ _ (second _ _ e))), (inr (inr (refl, λ h e. cons≢nil _ _ (second _ _ e))), tt))

-- a value is a stray word
stray : (v : Text) → IsValue v → subcommand_met sas_names idle v ≡ None → turn_fault top sas_names top_walk v ≡ stray_fault top
stray v is none = rw (none, is.dashes, is.long, is.short) refl

help_refused : turn_fault top sas_names top_walk (codes "help") ≡ [] → ⊥
help_refused = cons≢nil _ _

why_refused : turn_fault top sas_names top_walk (codes "--why") ≡ [] → ⊥
why_refused = cons≢nil _ _

trailing_refused : (v : Text) (vs : List Text) → walk_fault top sas_names (walked top.rules sas_names top_walk (codes "--")) (v ∷ vs) ≡ [] → ⊥
unfolding walk_fault walked
trailing_refused v vs e = cons≢nil _ _ e

turn_well : (v : Text) (us : List Text) → walk_fault top sas_names top_walk (v ∷ us) ≡ [] → turn_fault top sas_names top_walk v ≡ []
unfolding walk_fault
turn_well v us e = first (turn_fault top sas_names top_walk v) (walk_fault top sas_names (walked top.rules sas_names top_walk v) us) e

rest_well : (v : Text) (us : List Text) → walk_fault top sas_names top_walk (v ∷ us) ≡ [] → walk_fault top sas_names (walked top.rules sas_names top_walk v) us ≡ []
unfolding walk_fault
rest_well v us e = second (turn_fault top sas_names top_walk v) (walk_fault top sas_names (walked top.rules sas_names top_walk v) us) e

-- the first word behind the program's name is the name of a request, or it is `--` alone
pub first_word : (w0 v : Text) (vs : List Text) → HaveCharacters (v ∷ vs) → fault_of sas_app (w0 ∷ v ∷ vs) ≡ [] → Among request_names v ⊎ ((v ≡ codes "--") × (vs ≡ []))
unfolding walk_fault
first_word w0 v vs has e = elim (met_among (request_names ++ codes "help" ∷ []) v) [
  | inl none ↦ inr (other (bytes_eq v (codes "--")) (bytes_eq v (codes "--why")) (is_option v) refl refl refl vs none walks)
  | inr among ↦ elim (among_last request_names (codes "help") v among) [
    | inl here ↦ inl here
    | inr help ↦ absurd (help_refused (subst (λ u. turn_fault top sas_names top_walk u ≡ []) (sym help) (turn_well v vs walks)))
  ]
]
  where
    walks : walk_fault top sas_names top_walk (v ∷ vs) ≡ []
    walks = first _ _ e

    other : (a b c : Bool) → bytes_eq v (codes "--") ≡ a → bytes_eq v (codes "--why") ≡ b → is_option v ≡ c → (us : List Text)
        → subcommand_met sas_names idle v ≡ None → walk_fault top sas_names top_walk (v ∷ us) ≡ [] → (v ≡ codes "--") × (us ≡ [])
    other true b c ea eb ec [] none w = ((bytes_eq-Decides v (codes "--")).0 ea, refl)
    other true b c ea eb ec (u ∷ us) none w = absurd (trailing_refused u us (rest_well (codes "--") (u ∷ us) (subst (λ x. walk_fault top sas_names top_walk (x ∷ u ∷ us) ≡ [])
        ((bytes_eq-Decides v (codes "--")).0 ea) w)))
    other false true c ea eb ec us none w = absurd (why_refused (subst (λ x. turn_fault top sas_names top_walk x ≡ []) ((bytes_eq-Decides v (codes "--why")).0 eb) (turn_well v us w)))
    other false false true ea eb ec us none w = absurd (option_refused top top_harmless sas_names false 1 nothing_held refl v none ec ea eb has.0 (turn_well v us w))
    other false false false ea eb ec us none w = absurd (cons≢nil _ _ (sym (stray v (is_value v ec ea) none) ∙ turn_well v us w))
