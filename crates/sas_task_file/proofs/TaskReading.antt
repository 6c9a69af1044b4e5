-- A line of several numbers spells exactly the content that is parsed from its words, if no word is
-- left.
use Rattle.sas_task_file.proofs.Imports.{◌≡◌, ℕ, ◌+◌, ◌<◌, ◌≤◌, List, [], ◌∷◌, ◌++◌, length, refl, sym, ap, ◌∙◌, append_assoc, arith, Option, flat_map, AllByRecursion, decimal, Fact, Effect, IsNumber, segments, signed_decimal, joined, NoSpace, NoSpace-number, NoSpace-signed, words-first, words-joined, joined-words, fact, effect, head, fact_words, head_words, FactNumbers, EffectNumbers, decimal_injective, Spells, FactAhead, TakesNumber, TakesFact, TakesFacts, TakesHead, StandsBefore, inl, inr}
use Rattle.sas_task_file.proofs.TaskLines.{NoSpace-facts}

module _ (line : List ℕ) (words : List (List ℕ)) (parted : words ≡ segments 32 line) where
  -- a line is its words, joined
  spelled : (read : List (List ℕ)) → words ≡ read → joined read ≡ line
  spelled read e = ap joined (sym e ∙ parted) ∙ joined-words line

  -- ---- a fact

  fact_parts : (f : Fact) → Spells (fact f) line → words ≡ fact_words f
  fact_parts f s = parted ∙ ap (segments 32) (sym s.1) ∙ words-joined (decimal f.var) (decimal f.value ∷ []) (NoSpace-number f.var s.0.0) (NoSpace-number f.value s.0.1, tt)

  pub fact_spelled : (rest : List (List ℕ)) (f : Fact) → TakesFact words f rest → rest ≡ [] → Spells (fact f) line
  fact_spelled rest f t e = (t.0, spelled (fact_words f) (t.1 ∙ ap (λ r. fact_words f ++ r) e))

  pub no_fact : ((f : Fact) (rest : List (List ℕ)) → TakesFact words f rest → ⊥) → (f : Fact) → Spells (fact f) line → ⊥
  no_fact none f s = none f [] (s.0, fact_parts f s)

  pub more_than_fact : (rest : List (List ℕ)) (f : Fact) → TakesFact words f rest → (rest ≡ [] → ⊥) → (g : Fact) → Spells (fact g) line → ⊥
  more_than_fact rest f t more g s = let e : fact_words f ++ rest ≡ fact_words g = sym t.1 ∙ fact_parts g s in more cc

  -- ---- a head

  head_parts : (var : ℕ) (old : Option ℕ) (new : ℕ) → Spells (head var old new) line → words ≡ head_words var old new
  head_parts var old new s = parted ∙ ap (segments 32) (sym s.1) ∙ words-joined (decimal var) (signed_decimal old ∷ decimal new ∷ []) (NoSpace-number var s.0.0) (NoSpace-signed old s.0.1, (NoSpace-number new s.0.2, tt))

  pub head_spelled : (rest : List (List ℕ)) (var : ℕ) (old : Option ℕ) (new : ℕ) → TakesHead words var old new rest → rest ≡ [] → Spells (head var old new) line
  head_spelled rest var old new t e = (t.0, spelled (head_words var old new) (t.1 ∙ ap (λ r. head_words var old new ++ r) e))

  pub no_head : ((var : ℕ) (old : Option ℕ) (new : ℕ) (rest : List (List ℕ)) → TakesHead words var old new rest → ⊥) → (var : ℕ) (old : Option ℕ) (new : ℕ) → Spells (head var old new) line → ⊥
  no_head none var old new s = none var old new [] (s.0, head_parts var old new s)

  pub more_than_head : (rest : List (List ℕ)) (u : ℕ) (o : Option ℕ) (m : ℕ) → TakesHead words u o m rest → (rest ≡ [] → ⊥) → (var : ℕ) (old : Option ℕ) (new : ℕ) → Spells (head var old new) line → ⊥
  more_than_head rest u o m t more var old new s = let e : head_words u o m ++ rest ≡ head_words var old new = sym t.1 ∙ head_parts var old new s in more cc

-- ---- facts

-- before a space there is no CR
pub before_space : (a bytes rest : List ℕ) → StandsBefore a 32 rest bytes → bytes ≡ a ++ 32 ∷ rest
before_space a bytes rest (inl e) = e
before_space a bytes rest (inr e) = absurd (omega (arith, e.0))

-- a fact before a space is the first two words
pub fact_taken : (f : Fact) (bytes rest : List ℕ) → FactAhead bytes f 32 rest → TakesFact (segments 32 bytes) f (segments 32 rest)
fact_taken f bytes rest (fits, before) =
    let behind = decimal f.value ++ 32 ∷ rest in
    let both : bytes ≡ decimal f.var ++ 32 ∷ behind = before_space _ bytes rest before ∙ append_assoc (decimal f.var) (32 ∷ decimal f.value) (32 ∷ rest) in (
      fits,
      ap (segments 32) both ∙ words-first (decimal f.var) behind (NoSpace-number f.var fits.0)
          ∙ ap (λ words. decimal f.var ∷ words) (words-first (decimal f.value) rest (NoSpace-number f.value fits.1)),
    )

facts_more : (fs : List Fact) (f : Fact) (rest : List (List ℕ)) → flat_map fact_words (fs ++ f ∷ []) ++ rest ≡ flat_map fact_words fs ++ (fact_words f ++ rest)
facts_more [] f rest = refl
facts_more (g ∷ fs) f rest = ap (λ (l : List (List ℕ)). decimal g.var ∷ decimal g.value ∷ l) (facts_more fs f rest)

numbers_more : (fs : List Fact) (f : Fact) → AllByRecursion FactNumbers fs → FactNumbers f → AllByRecursion FactNumbers (fs ++ f ∷ [])
numbers_more [] f h g = (g, tt)
numbers_more (e ∷ fs) f h g = (h.0, numbers_more fs f h.1 g)

length_more : (fs : List Fact) (f : Fact) → length (fs ++ f ∷ []) ≡ length fs + 1
length_more [] f = refl
length_more (g ∷ fs) f = omega (arith, length_more fs f)

pub one_more_fact : (words before rest : List (List ℕ)) (n : ℕ) (fs : List Fact) (f : Fact) → TakesFacts words n fs before → TakesFact before f rest → TakesFacts words (n + 1) (fs ++ f ∷ []) rest
one_more_fact words before rest n fs f t u = record {
  many = omega (arith, length_more fs f, t.many);
  numbers = numbers_more fs f t.numbers u.0;
  before = t.before ∙ ap (λ l. flat_map fact_words fs ++ l) u.1 ∙ sym (facts_more fs f rest);
}

-- after the first facts of a list follow its other facts
record Behind (fs gs : List Fact) (now rest : List (List ℕ)) : Type 0 where
  others : List Fact
  many : length gs ≡ length fs + length others
  numbers : AllByRecursion FactNumbers others
  stand : now ≡ flat_map fact_words others ++ rest

behind : (fs gs : List Fact) (now rest : List (List ℕ)) → length fs ≤ length gs → AllByRecursion FactNumbers gs → flat_map fact_words fs ++ now ≡ flat_map fact_words gs ++ rest → Behind fs gs now rest
behind [] gs now rest l h e = record { others = gs; many = omega arith; numbers = h; stand = e }
behind (f ∷ fs) [] now rest l h e = absurd (omega arith)
behind (f ∷ fs) (g ∷ gs) now rest l h e =
    let same : flat_map fact_words fs ++ now ≡ flat_map fact_words gs ++ rest = cc in
    let b = behind fs gs now rest (omega arith) h.1 same in
    record { others = b.others; many = omega (arith, b.many); numbers = b.numbers; stand = b.stand }

fact_behind : (others : List Fact) (now rest : List (List ℕ)) → 0 < length others → AllByRecursion FactNumbers others → now ≡ flat_map fact_words others ++ rest → ((f : Fact) (more : List (List ℕ)) → TakesFact now f more → ⊥) → ⊥
fact_behind [] now rest l h e none = omega arith
fact_behind (f ∷ others) now rest l h e none = none f (flat_map fact_words others ++ rest) (h.0, e)

pub no_more_facts : (words now : List (List ℕ)) (n count : ℕ) (fs : List Fact) → TakesFacts words n fs now → n < count → ((f : Fact) (rest : List (List ℕ)) → TakesFact now f rest → ⊥) → (gs : List Fact) (rest : List (List ℕ)) → TakesFacts words count gs rest → ⊥
no_more_facts words now n count fs t l none gs rest u =
    let b = behind fs gs now rest (omega (arith, t.many, u.many)) u.numbers (sym t.before ∙ u.before) in
    fact_behind b.others now rest (omega (arith, b.many, t.many, u.many)) b.numbers b.stand none

no_others : (others : List Fact) (now rest : List (List ℕ)) → length others ≡ 0 → now ≡ flat_map fact_words others ++ rest → now ≡ rest
no_others [] now rest l e = e
no_others (f ∷ others) now rest l e = absurd (omega arith)

same_rest : (words now rest : List (List ℕ)) (count : ℕ) (fs gs : List Fact) → TakesFacts words count fs now → TakesFacts words count gs rest → now ≡ rest
same_rest words now rest count fs gs t u =
    let b = behind fs gs now rest (omega (arith, t.many, u.many)) u.numbers (sym t.before ∙ u.before) in
    no_others b.others now rest (omega (arith, b.many, t.many, u.many)) b.stand

-- ---- an effect

-- the words of an effect's head, and the words after the count of its conditions
abbrev last_words : Effect → List (List ℕ)
last_words e = head_words e.var e.old e.new

abbrev later_words : Effect → List (List ℕ)
later_words e = flat_map fact_words e.conditions ++ last_words e

NoSpace-later : (e : Effect) → EffectNumbers e → AllByRecursion NoSpace (later_words e)
NoSpace-later e h = NoSpace-facts e.conditions (last_words e) h.conditions (NoSpace-number e.var h.head.0, (NoSpace-signed e.old h.head.1, (NoSpace-number e.new h.head.2, tt)))

module _ (line : List ℕ) (words : List (List ℕ)) (parted : words ≡ segments 32 line) where
  effect_parts : (e : Effect) → Spells (effect e) line → words ≡ decimal (length e.conditions) ∷ later_words e
  effect_parts e s = parted ∙ ap (segments 32) (sym s.1) ∙ words-joined (decimal (length e.conditions)) (later_words e) (NoSpace-number (length e.conditions) s.0.count) (NoSpace-later e s.0)

  pub no_count : ((n : ℕ) (rest : List (List ℕ)) → TakesNumber words n rest → ⊥) → (e : Effect) → Spells (effect e) line → ⊥
  no_count none e s = none (length e.conditions) (later_words e) (s.0.count, effect_parts e s)

  module _ (count : ℕ) (later : List (List ℕ)) (counts : TakesNumber words count later) where
    effect_takes : (e : Effect) → Spells (effect e) line → TakesFacts later count e.conditions (last_words e)
    effect_takes e s =
        let q : decimal count ∷ later ≡ decimal (length e.conditions) ∷ later_words e = sym counts.1 ∙ effect_parts e s in
        let d : decimal (length e.conditions) ≡ decimal count = cc in
        record { many = decimal_injective (length e.conditions) count (omega (arith, s.0.count)) (omega (arith, counts.0)) d; numbers = s.0.conditions; before = cc }

    pub no_facts : ((fs : List Fact) (rest : List (List ℕ)) → TakesFacts later count fs rest → ⊥) → (e : Effect) → Spells (effect e) line → ⊥
    no_facts none e s = none e.conditions (last_words e) (effect_takes e s)

    module _ (fs : List Fact) (last : List (List ℕ)) (facts : TakesFacts later count fs last) where
      last_are : (e : Effect) → Spells (effect e) line → last ≡ last_words e
      last_are e s = same_rest later last (last_words e) count fs e.conditions facts (effect_takes e s)

      pub no_last : ((var : ℕ) (old : Option ℕ) (new : ℕ) (rest : List (List ℕ)) → TakesHead last var old new rest → ⊥) → (e : Effect) → Spells (effect e) line → ⊥
      no_last none e s = none e.var e.old e.new [] (s.0.head, last_are e s)

      module _ (var : ℕ) (old : Option ℕ) (new : ℕ) (rest : List (List ℕ)) (takes : TakesHead last var old new rest) where
        pub more_than_effect : (rest ≡ [] → ⊥) → (e : Effect) → Spells (effect e) line → ⊥
        more_than_effect more e s = let q : head_words var old new ++ rest ≡ last_words e = sym takes.1 ∙ last_are e s in more cc

        pub effect_spelled : rest ≡ [] → Spells (effect (record { conditions = fs; var = var; old = old; new = new })) line
        effect_spelled over =
            let n : IsNumber (length fs) = omega (arith, facts.many, counts.0) in
            let l : last ≡ head_words var old new = takes.1 ∙ ap (λ r. head_words var old new ++ r) over in
            let w : words ≡ decimal (length fs) ∷ (flat_map fact_words fs ++ head_words var old new) = counts.1 ∙ ap (λ (m : ℕ). decimal m ∷ later) (sym facts.many) ∙ ap (λ (r : List (List ℕ)). decimal (length fs) ∷ r) (facts.before ∙ ap (λ r. flat_map fact_words fs ++ r) l) in
            (record { count = n; conditions = facts.numbers; head = takes.0 }, spelled line words parted _ w)
