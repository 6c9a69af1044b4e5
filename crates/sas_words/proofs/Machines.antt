-- Machines that go over the words behind a request, as clap does.
use Rattle.std.proofs.Common.{◌≡◌, ◌∙◌, ◌⊎◌, ◌≤◌, ◌+◌, ◌||◌, inl, inr, ℕ, Bool, true, false, true≢false, cond, refl, sym, ap, subst, subst₂, arith, List, [], ◌∷◌, ◌++◌, length, length-append, append_assoc, append-nil, Option, Some, None, codes, bytes_eq, fold, option_map, option_and_then}
use Rattle.std.specs.Prelude.{⊤}
use Rattle.std.proofs.lemmas.Slice.Eq.{bytes_eq-Decides}
use Rattle.clap.specs.Lexer.{usize_max}
use Rattle.clap.specs.Walk.{Held, Row, Text, Walk, value, arg_by_index, finished, nothing_held, rows_after, settled, to_positional, walk, walk_from, walked}
use Rattle.clap.specs.Simple.{Shape}
use Rattle.clap.specs.Faults.{check_fault, defaults_fault, level_fault, settle_fault, step_fault, turn_fault, walk_fault}
use Rattle.clap.specs.Kinds.{Kinds, or_else}
use Rattle.sas_words.specs.Grammar.{HasRows}
use Rattle.sas_words.specs.Usage.{is_option, operands, options, options_of}
use Rattle.sas_words.proofs.Options.{AreHarmless, HasCharacter, HaveCharacters, cons≢nil, first, second, option_refused}
use Rattle.sas_words.proofs.Turns.{standing, is_value, value_walked, value_fault, trailing_walked, dashes_walked, dashes_fault, none_met}

-- What is kept of the words so far, and what clap holds then: its rows, the values that are pending, whether the last positional may have
-- more values, and the positional whose turn it is. A file or the flag leads on, or is one too many.
pub record Machine (Seen : Type 0) : Type 0 where
  pub start : Seen
  pub files : Seen → List Text
  pub flag : Seen → Bool
  pub taken : Seen → Text → Option Seen
  pub flagged : Seen → Option Seen
  pub held : Seen → List Row × Option (Text × List Text)
  pub more : Seen → Bool
  pub position : Seen → ℕ

-- ---- what clap does

abbrev State : Type 0 → Type 0
State Seen = Bool × Seen

module _ {Seen : Type 0} (shape : Shape) (m : Machine Seen) where
  abbrev pub held_of : Seen → Held
  held_of s = record { rows = (m.held s).0; pending = (m.held s).1; skip = 0 }

  abbrev pub walk_of : Bool → Seen → Walk
  walk_of trailing s = standing (m.more s) (m.position s) trailing (held_of s)

  abbrev pub with_trailing : Bool → Option Seen → Option (State Seen)
  with_trailing b = option_map (λ s. (b, s))

  -- it does as the machine does
  abbrev pub Sim : Option (State Seen) → Kinds → Walk → Type 0
  Sim None k z = k ≡ [] → ⊥
  Sim (Some q) k z = (k ≡ []) × (z ≡ walk_of q.0 q.1)

  abbrev pub sim_of : Option (State Seen) → Bool → Seen → Text → Type 0
  sim_of o b s v = Sim o (turn_fault shape [] (walk_of b s) v) (walked shape.rules [] (walk_of b s) v)

  -- with a file
  abbrev pub Places : Seen → Text → Bool → Type 0
  Places s v b = Sim (with_trailing (b || false) (m.taken s v)) (step_fault shape (m.position s) (held_of s) value)
      (to_positional shape.rules (arg_by_index shape.rules (m.position s)) v (walk_of b s) (held_of s))

  -- with the flag
  abbrev pub Flags : Seen → Type 0
  Flags s = sim_of (with_trailing false (m.flagged s)) false s (codes "--why")

  abbrev pub rest_fault : Held → Kinds
  rest_fault end = or_else (settle_fault shape.rules shape.args_override_self end)
      (or_else (defaults_fault (settled shape.rules end).rows shape.rules) (check_fault shape (finished shape.rules end) false))

-- ---- what it has to meet

-- a request with these files is well, with the flag or without
module _ {Seen : Type 0} (m : Machine Seen) (IsWell : Bool → List Text → Type 0) where
  -- a file more, or one too many
  abbrev pub Takes : Seen → Text → Option Seen → Type 0
  Takes s v None = (why : Bool) (rest : List Text) → IsWell why (m.files s ++ v ∷ rest) → ⊥
  Takes s v (Some r) = (m.files r ≡ m.files s ++ v ∷ []) × (m.flag r ≡ m.flag s)

  -- the flag, or one too many
  abbrev pub TakesFlag : Seen → Option Seen → Type 0
  TakesFlag s None = (m.flag s ≡ true) ⊎ ((files : List Text) → IsWell true files → ⊥)
  TakesFlag s (Some r) = (m.files r ≡ m.files s) × (m.flag s ≡ false) × (m.flag r ≡ true)

  -- all words were seen
  module _ (shape : Shape) (name : Text) where
    abbrev pub Ends : Seen → Type 0
    Ends s = ((length (m.files s) ≤ usize_max → rest_fault shape m (held_of shape m s) ≡ []) × IsWell (m.flag s) (m.files s)
        × HasRows name (m.flag s) (m.files s) (finished shape.rules (held_of shape m s)))
        ⊎ ((rest_fault shape m (held_of shape m s) ≡ [] → ⊥) × (IsWell (m.flag s) (m.files s) → ⊥))

pub record Follows {Seen : Type 0} (shape : Shape) (name : Text) (m : Machine Seen) (IsWell : Bool → List Text → Type 0) : Type 0 where
  pub harmless : AreHarmless shape shape.rules
  pub begins : (m.files m.start ≡ []) × (m.flag m.start ≡ false) × (walk_of shape m false m.start ≡ walk_from nothing_held)
  pub places : (s : Seen) (v : Text) (b : Bool) → Places shape m s v b
  pub flags : (s : Seen) → length (m.files s) ≤ usize_max → Flags shape m s
  pub takes : (s : Seen) (v : Text) → Takes m IsWell s v (m.taken s v)
  pub takes_flag : (s : Seen) → TakesFlag m IsWell s (m.flagged s)
  pub ends : (s : Seen) → Ends m IsWell shape name s

abbrev later_files : Bool → List Text → List Text
later_files true vs = vs
later_files false vs = operands vs

abbrev later_options : Bool → List Text → List Text
later_options true vs = []
later_options false vs = options vs

abbrev pub tail : List Text → List Text
tail [] = []
tail (x ∷ xs) = xs

abbrev pub head : List Text → Text
head [] = []
head (x ∷ xs) = x

-- of the options, none is another, and the flag isn't there twice
other_option : (b why : Bool) (v : Text) (rest : List Text) → bytes_eq v (codes "--why") ≡ false → options_of b ++ v ∷ rest ≡ options_of why → ⊥
other_option false false v rest other e = cons≢nil _ _ e
other_option false true v rest other e = true≢false (sym ((bytes_eq-Decides v (codes "--why")).1 (ap head e)) ∙ other)
other_option true false v rest other e = cons≢nil _ _ e
other_option true true v rest other e = cons≢nil _ _ (ap tail e)

twice : (why : Bool) (v : Text) (rest : List Text) → options_of true ++ v ∷ rest ≡ options_of why → ⊥
twice false v rest e = cons≢nil _ _ e
twice true v rest e = cons≢nil _ _ (ap tail e)

pub same_why : (a b : Bool) → options_of a ≡ options_of b → a ≡ b
same_why true true e = refl
same_why true false e = absurd (cons≢nil _ _ e)
same_why false true e = absurd (cons≢nil _ _ (sym e))
same_why false false e = refl

module _ {Seen : Type 0} (shape : Shape) (name : Text) (m : Machine Seen) (IsWell : Bool → List Text → Type 0) (is : Follows shape name m IsWell) where
  abbrev next_word : Seen → Text → Option (State Seen)
  next_word s v = cond (bytes_eq v (codes "--")) (Some (true, s))
      (cond (is_option v) (cond (bytes_eq v (codes "--why")) (with_trailing shape m false (m.flagged s)) None) (with_trailing shape m false (m.taken s v)))

  abbrev next : Bool → Seen → Text → Option (State Seen)
  next true s v = with_trailing shape m true (m.taken s v)
  next false s v = next_word s v

  word_sim : (s : Seen) (v : Text) → HasCharacter v → length (m.files s) ≤ usize_max → sim_of shape m (next_word s v) false s v
  word_sim s v has few = go (bytes_eq v (codes "--")) (is_option v) (bytes_eq v (codes "--why")) refl refl refl
    where
      go : (a b c : Bool) → bytes_eq v (codes "--") ≡ a → is_option v ≡ b → bytes_eq v (codes "--why") ≡ c
          → sim_of shape m (cond a (Some (true, s)) (cond b (cond c (with_trailing shape m false (m.flagged s)) None) (with_trailing shape m false (m.taken s v)))) false s v
      go true b c ea eb ec = subst (λ u. sim_of shape m (Some (true, s)) false s u) (sym ((bytes_eq-Decides v (codes "--")).0 ea))
          (dashes_fault shape (m.more s) (m.position s) (held_of shape m s), dashes_walked shape.rules (m.more s) (m.position s) (held_of shape m s))
      go false true true ea eb ec = subst (λ u. sim_of shape m (with_trailing shape m false (m.flagged s)) false s u) (sym ((bytes_eq-Decides v (codes "--why")).0 ec)) (is.flags s few)
      go false true false ea eb ec = option_refused shape is.harmless [] (m.more s) (m.position s) (held_of shape m s) refl v (none_met (m.more s) v) eb ea ec has
      go false false c ea eb ec = subst₂ (Sim shape m (with_trailing shape m false (m.taken s v))) (sym (value_fault shape (m.more s) (m.position s) (held_of shape m s) v (is_value v eb ea)))
          (sym (value_walked shape.rules (m.more s) (m.position s) (held_of shape m s) v (is_value v eb ea))) (is.places s v false)

  next_sim : (b : Bool) (s : Seen) (v : Text) → HasCharacter v → length (m.files s) ≤ usize_max → sim_of shape m (next b s v) b s v
  next_sim true s v has few = subst (Sim shape m (with_trailing shape m true (m.taken s v)) (turn_fault shape [] (walk_of shape m true s) v))
      (sym (trailing_walked shape.rules (m.more s) (m.position s) (held_of shape m s) v)) (is.places s v true)
  next_sim false s v has few = word_sim s v has few

  -- a word is one file at most
  abbrev OneMore : Seen → Option (State Seen) → Type 0
  OneMore s None = ⊤
  OneMore s (Some q) = length (m.files q.1) ≤ length (m.files s) + 1

  file_more : (b : Bool) (s : Seen) (v : Text) (o : Option Seen) → Takes m IsWell s v o → OneMore s (with_trailing shape m b o)
  file_more b s v None takes = tt
  file_more b s v (Some r) takes = omega (arith, ap length takes.0, length-append (m.files s) (v ∷ []))

  flag_more : (s : Seen) (o : Option Seen) → TakesFlag m IsWell s o → OneMore s (with_trailing shape m false o)
  flag_more s None takes = tt
  flag_more s (Some r) takes = omega (arith, ap length takes.0)

  next_more : (b : Bool) (s : Seen) (v : Text) → OneMore s (next b s v)
  next_more true s v = file_more true s v (m.taken s v) (is.takes s v)
  next_more false s v = go (bytes_eq v (codes "--")) (is_option v) (bytes_eq v (codes "--why"))
    where
      go : (a b c : Bool) → OneMore s (cond a (Some (true, s)) (cond b (cond c (with_trailing shape m false (m.flagged s)) None) (with_trailing shape m false (m.taken s v))))
      go true b c = omega arith
      go false true true = flag_more s (m.flagged s) (is.takes_flag s)
      go false true false = tt
      go false false c = file_more false s v (m.taken s v) (is.takes s v)

  abbrev run : Bool → Seen → List Text → Option (State Seen)
  run b s [] = Some (b, s)
  run b s (v ∷ vs) = option_and_then (λ q. run q.0 q.1 vs) (next b s v)

  abbrev Goes : Option (State Seen) → Walk → List Text → Type 0
  Goes o z vs = Sim shape m o (walk_fault shape [] z vs) (fold (walked shape.rules []) z vs)

  walk_sim : (vs : List Text) (b : Bool) (s : Seen) → HaveCharacters vs → length (m.files s) + length vs ≤ usize_max → Goes (run b s vs) (walk_of shape m b s) vs
  unfolding walk_fault
  walk_sim [] b s has few = (refl, refl)
  walk_sim (v ∷ vs) b s has few = go (next b s v) (next_sim b s v has.0 (omega (arith, few))) (next_more b s v) (λ q most. walk_sim vs q.0 q.1 has.1 (omega (arith, few, most)))
    where
      go : (o : Option (State Seen)) → sim_of shape m o b s v → OneMore s o
          → ((q : State Seen) → length (m.files q.1) ≤ length (m.files s) + 1 → Goes (run q.0 q.1 vs) (walk_of shape m q.0 q.1) vs)
          → Sim shape m (option_and_then (λ q. run q.0 q.1 vs) o)
          (or_else (turn_fault shape [] (walk_of shape m b s) v) (walk_fault shape [] (walked shape.rules [] (walk_of shape m b s) v) vs))
          (fold (walked shape.rules []) (walked shape.rules [] (walk_of shape m b s) v) vs)
      go None here one below = λ e. here (first _ _ e)
      go (Some q) here one below = subst₂ (λ (k : Kinds) (z : Walk). Sim shape m (run q.0 q.1 vs) (or_else k (walk_fault shape [] z vs)) (fold (walked shape.rules []) z vs))
          (sym here.0) (sym here.1) (below q one)

  -- ---- what the machine sees

  -- the files and the options that it saw, with those that follow, are no call; or they are all
  abbrev Meets : Seen → List Text → List Text → Option (State Seen) → Type 0
  Meets s fs os None = (why : Bool) → options_of (m.flag s) ++ os ≡ options_of why → IsWell why (m.files s ++ fs) → ⊥
  Meets s fs os (Some q) = (m.files q.1 ≡ m.files s ++ fs) × (options_of (m.flag q.1) ≡ options_of (m.flag s) ++ os)

  after_file : (s r : Seen) (v : Text) (fs os : List Text) (o : Option (State Seen)) → Takes m IsWell s v (Some r) → Meets r fs os o → Meets s (v ∷ fs) os o
  after_file s r v fs os None takes meets = λ why eo well. meets why (ap (λ b. options_of b ++ os) takes.1 ∙ eo)
      (subst (IsWell why) (sym (ap (λ l. l ++ fs) takes.0 ∙ append_assoc (m.files s) (v ∷ []) fs)) well)
  after_file s r v fs os (Some q) takes meets = (meets.0 ∙ ap (λ l. l ++ fs) takes.0 ∙ append_assoc (m.files s) (v ∷ []) fs, meets.1 ∙ ap (λ b. options_of b ++ os) takes.1)

  after_flag : (s r : Seen) (fs os : List Text) (o : Option (State Seen)) → TakesFlag m IsWell s (Some r) → Meets r fs os o → Meets s fs (codes "--why" ∷ os) o
  after_flag s r fs os None flags meets = λ why eo well. meets why
      (ap (λ b. options_of b ++ os) flags.2 ∙ sym (ap (λ b. options_of b ++ codes "--why" ∷ os) flags.1) ∙ eo) (subst (IsWell why) (sym (ap (λ l. l ++ fs) flags.0)) well)
  after_flag s r fs os (Some q) flags meets = (
    meets.0 ∙ ap (λ l. l ++ fs) flags.0,
    meets.1 ∙ ap (λ b. options_of b ++ os) flags.2 ∙ sym (ap (λ b. options_of b ++ codes "--why" ∷ os) flags.1),
  )

  abbrev Seeing : Seen → List Text → Bool → Option (State Seen) → Type 0
  Seeing s vs b o = Meets s (later_files b vs) (later_options b vs) o

  file_step : (b : Bool) (s : Seen) (v : Text) (vs : List Text) (o : Option Seen) → Takes m IsWell s v o → ((r : Seen) → Seeing r vs b (run b r vs))
      → Meets s (v ∷ later_files b vs) (later_options b vs) (option_and_then (λ q. run q.0 q.1 vs) (with_trailing shape m b o))
  file_step b s v vs None takes below = λ why eo well. takes why (later_files b vs) well
  file_step b s v vs (Some r) takes below = after_file s r v (later_files b vs) (later_options b vs) (run b r vs) takes (below r)

  no_flag : (b why : Bool) (rest : List Text) → options_of b ++ codes "--why" ∷ rest ≡ options_of why → why ≡ true
  no_flag b true rest e = refl
  no_flag true false rest e = absurd (cons≢nil _ _ e)
  no_flag false false rest e = absurd (cons≢nil _ _ e)

  flag_step : (s : Seen) (vs : List Text) (o : Option Seen) → TakesFlag m IsWell s o → ((r : Seen) → Seeing r vs false (run false r vs))
      → Meets s (operands vs) (codes "--why" ∷ options vs) (option_and_then (λ q. run q.0 q.1 vs) (with_trailing shape m false o))
  flag_step s vs None (inl there) below = λ why eo well. twice why (codes "--why") (options vs) (sym (ap (λ b. options_of b ++ codes "--why" ∷ options vs) there) ∙ eo)
  flag_step s vs None (inr never) below = λ why eo well. never _ (subst (λ b. IsWell b (m.files s ++ operands vs)) (no_flag (m.flag s) why (options vs) eo) well)
  flag_step s vs (Some r) flags below = after_flag s r (operands vs) (options vs) (run false r vs) flags (below r)

  run_meets : (vs : List Text) (b : Bool) (s : Seen) → Seeing s vs b (run b s vs)
  run_meets [] true s = (sym (append-nil (m.files s)), sym (append-nil (options_of (m.flag s))))
  run_meets [] false s = (sym (append-nil (m.files s)), sym (append-nil (options_of (m.flag s))))
  run_meets (v ∷ vs) true s = file_step true s v vs (m.taken s v) (is.takes s v) (λ r. run_meets vs true r)
  run_meets (v ∷ vs) false s = go (bytes_eq v (codes "--")) (is_option v) (bytes_eq v (codes "--why")) refl (λ b r. run_meets vs b r)
    where
      go : (a b c : Bool) → bytes_eq v (codes "--why") ≡ c → ((d : Bool) (r : Seen) → Seeing r vs d (run d r vs))
          → Meets s (cond a vs (cond b (operands vs) (v ∷ operands vs))) (cond a [] (cond b (v ∷ options vs) (options vs)))
          (option_and_then (λ q. run q.0 q.1 vs)
          (cond a (Some (true, s)) (cond b (cond c (with_trailing shape m false (m.flagged s)) None) (with_trailing shape m false (m.taken s v)))))
      go true b c ec below = below true s
      go false true true ec below = subst (λ u. Meets s (operands vs) (u ∷ options vs) (option_and_then (λ q. run q.0 q.1 vs) (with_trailing shape m false (m.flagged s))))
          (sym ((bytes_eq-Decides v (codes "--why")).0 ec)) (flag_step s vs (m.flagged s) (is.takes_flag s) (below false))
      go false true false ec below = λ why eo well. other_option (m.flag s) why v (options vs) ec eo
      go false false c ec below = file_step false s v vs (m.taken s v) (is.takes s v) (below false)

  -- ---- all words

  abbrev pub level : List Text → Kinds
  level vs = level_fault shape [] nothing_held vs false []

  abbrev Begun : Option (State Seen) → List Text → Type 0
  Begun o vs = Goes o (walk_from nothing_held) vs

  begun : (vs : List Text) → HaveCharacters vs → length vs ≤ usize_max → Begun (run false m.start vs) vs
  begun vs has few = subst (λ (z : Walk). Goes (run false m.start vs) z vs) is.begins.2 (walk_sim vs false m.start has (omega (arith, few, ap length is.begins.0)))

  -- the machine began with nothing
  seen_files : (q : State Seen) (vs : List Text) → Seeing m.start vs false (Some q) → m.files q.1 ≡ operands vs
  seen_files q vs meets = meets.0 ∙ ap (λ l. l ++ operands vs) is.begins.0

  seen_options : (q : State Seen) (vs : List Text) → Seeing m.start vs false (Some q) → options_of (m.flag q.1) ≡ options vs
  seen_options q vs meets = meets.1 ∙ ap (λ b. options_of b ++ options vs) is.begins.1

  -- clap takes the words only if they are a call, and then it has its files
  pub sound : (vs : List Text) → HaveCharacters vs → length vs ≤ usize_max → level vs ≡ []
      → (why : Bool) × (options vs ≡ options_of why) × IsWell why (operands vs) × HasRows name why (operands vs) (rows_after shape.rules [] vs)
  sound vs has few e = go (run false m.start vs) (begun vs has few) (run_meets vs false m.start)
    where
      go : (o : Option (State Seen)) → Begun o vs → Seeing m.start vs false o
          → (why : Bool) × (options vs ≡ options_of why) × IsWell why (operands vs) × HasRows name why (operands vs) (rows_after shape.rules [] vs)
      go None sim meets = absurd (sim (first _ _ e))
      go (Some q) sim meets =
          let rest : rest_fault shape m (held_of shape m q.1) ≡ [] = subst (λ (z : Walk). rest_fault shape m z.held ≡ []) sim.1 (second _ _ e) in
          let files = seen_files q vs meets in
          elim (is.ends q.1) [
            | inl done ↦ (
              m.flag q.1,
              sym (seen_options q vs meets),
              subst (IsWell (m.flag q.1)) files done.1,
              subst₂ (λ (z : Walk) (l : List Text). HasRows name (m.flag q.1) l (finished shape.rules z.held)) (sym sim.1) files done.2,
            )
            | inr other ↦ absurd (other.0 rest)
          ]

  operands_short : (vs : List Text) → length (operands vs) ≤ length vs
  operands_short [] = omega arith
  operands_short (v ∷ vs) = go (bytes_eq v (codes "--")) (is_option v) (operands_short vs)
    where
      go : (a b : Bool) → length (operands vs) ≤ length vs → length (cond a vs (cond b (operands vs) (v ∷ operands vs))) ≤ length (v ∷ vs)
      go true b below = omega arith
      go false true below = omega (arith, below)
      go false false below = omega (arith, below)

  -- and it takes each call
  pub complete : (vs : List Text) → HaveCharacters vs → length vs ≤ usize_max → (why : Bool) → options vs ≡ options_of why → IsWell why (operands vs) → level vs ≡ []
  complete vs has few why eo well = go (run false m.start vs) (begun vs has few) (run_meets vs false m.start)
    where
      go : (o : Option (State Seen)) → Begun o vs → Seeing m.start vs false o → level vs ≡ []
      go None sim meets = absurd (meets why (ap (λ b. options_of b ++ options vs) is.begins.1 ∙ eo) (subst (IsWell why) (sym (ap (λ l. l ++ operands vs) is.begins.0)) well))
      go (Some q) sim meets =
          let files = seen_files q vs meets in
          let flag : m.flag q.1 ≡ why = same_why (m.flag q.1) why (seen_options q vs meets ∙ eo) in
          elim (is.ends q.1) [
            | inl done ↦ ap (λ k. or_else k (rest_fault shape m (walk shape.rules [] nothing_held vs).held)) sim.0 ∙ ap (λ (z : Walk). rest_fault shape m z.held) sim.1
                ∙ done.0 (omega (arith, ap length files, operands_short vs, few))
            | inr other ↦ absurd (other.1 (subst₂ IsWell (sym flag) (sym files) well))
          ]
