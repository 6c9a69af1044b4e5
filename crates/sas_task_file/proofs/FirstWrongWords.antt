-- The first wrong number in a list of numbers.
use Rattle.sas_task_file.proofs.Imports.{◌≡◌, ℕ, zero, suc, ◌+◌, ◌*◌, Bool, true, false, List, [], ◌∷◌, ◌++◌, length, Option, Some, None, refl, sym, ap, ◌∙◌, arith, none-some, flat_map, if◌then◌else◌, drop, slice_get, nat_tests, Fact, Effect, WrongWord, TaskLine, effect, TaskSlot, task_slot, Bounded, below, first_wrong, fact_bounds, change_bounds, line_bounds, HasWrong, FirstWrong, Spells}
use Rattle.sas_task_file.proofs.WrongWords.{may_stand, wrong_at}
use Rattle.sas_task_file.proofs.TaskGrammar.{task_grammar}

-- ---- which number is first

-- the number that was found, or one that is found later
abbrev pub or_later : Option WrongWord → Option WrongWord → Option WrongWord
or_later None later = later
or_later (Some w) later = Some w

unless_or : (b : Bool) (w : WrongWord) (x y : Option WrongWord) → (if b then or_later x y else Some w) ≡ or_later (if b then x else Some w) y
unless_or true w x y = refl
unless_or false w x y = refl

pub first_of_both : (n : ℕ) (bs cs : List Bounded) → first_wrong n (bs ++ cs) ≡ or_later (first_wrong n bs) (first_wrong (n + length bs) cs)
first_of_both n [] cs = ap (λ (m : ℕ). first_wrong m cs) (omega arith)
first_of_both n (b ∷ bs) cs =
    ap (λ (x : Option WrongWord). if may_stand b then x else Some (wrong_at n b)) (first_of_both (n + 1) bs cs)
    ∙ unless_or (may_stand b) (wrong_at n b) (first_wrong (n + 1) bs) (first_wrong (n + 1 + length bs) cs)
    ∙ ap (λ (m : ℕ). or_later (first_wrong n (b ∷ bs)) (first_wrong m cs)) (omega arith)

pub found_first : (n : ℕ) (bs cs : List Bounded) (w : WrongWord) (r : Option WrongWord) → r ≡ first_wrong n bs → r ≡ Some w → first_wrong n (bs ++ cs) ≡ Some w
found_first n bs cs w r is some = first_of_both n bs cs ∙ ap (λ (x : Option WrongWord). or_later x (first_wrong (n + length bs) cs)) (sym is ∙ some)

pub found_later : (n : ℕ) (bs cs : List Bounded) (r : Option WrongWord) → r ≡ first_wrong n bs → r ≡ None → first_wrong n (bs ++ cs) ≡ first_wrong (n + length bs) cs
found_later n bs cs r is none = first_of_both n bs cs ∙ ap (λ (x : Option WrongWord). or_later x (first_wrong (n + length bs) cs)) (sym is ∙ none)

-- ---- the numbers of an effect

-- the facts from one on
pub drop_get : {A : Type 0} (xs : List A) (i : ℕ) (x : A) → slice_get xs i ≡ Some x → drop i xs ≡ x ∷ drop (suc i) xs
drop_get [] i x e = absurd (none-some x e)
drop_get (y ∷ ys) zero x e = let same : y ≡ x = cc in ap (λ (z : _). z ∷ ys) same
drop_get (y ∷ ys) (suc i) x e = drop_get ys i x e

pub drop_all : {A : Type 0} (xs : List A) → drop (length xs) xs ≡ []
drop_all [] = refl
drop_all (x ∷ xs) = drop_all xs

count_stands : (n : ℕ) → may_stand (below (n + 1) n) ≡ true
count_stands n = grind (arith, nat_tests)

module _ (ranges : List ℕ) (e : Effect) where
  abbrev last : List Bounded
  last = change_bounds ranges e.var e.old e.new

  -- the first wrong number from the fact with this number on
  abbrev pub wrong_from : ℕ → Option WrongWord
  wrong_from i = first_wrong (2 * i + 2) (flat_map (fact_bounds ranges) (drop i e.conditions) ++ last)

  pub begins : first_wrong 1 (line_bounds ranges (effect e)) ≡ wrong_from 0
  begins = ap (λ (b : Bool). if b then wrong_from 0 else Some (wrong_at 1 (below (length e.conditions + 1) (length e.conditions)))) (count_stands (length e.conditions))

  module _ (i : ℕ) (f : Fact) (r : Option WrongWord) (got : slice_get e.conditions i ≡ Some f) (is : r ≡ first_wrong (2 * i + 2) (fact_bounds ranges f)) where
    from_fact : wrong_from i ≡ first_wrong (2 * i + 2) (fact_bounds ranges f ++ (flat_map (fact_bounds ranges) (drop (suc i) e.conditions) ++ last))
    from_fact = ap (λ (fs : List Fact). first_wrong (2 * i + 2) (flat_map (fact_bounds ranges) fs ++ last)) (drop_get e.conditions i f got)

    pub fact_found : (w : WrongWord) → r ≡ Some w → wrong_from i ≡ Some w
    fact_found w some = from_fact ∙ found_first (2 * i + 2) (fact_bounds ranges f) (flat_map (fact_bounds ranges) (drop (suc i) e.conditions) ++ last) w r is some

    pub fact_passed : r ≡ None → wrong_from i ≡ wrong_from (suc i)
    fact_passed none =
        let two_on : 2 * i + 2 + 2 ≡ 2 * suc i + 2 = omega arith in
        from_fact ∙ found_later (2 * i + 2) (fact_bounds ranges f) (flat_map (fact_bounds ranges) (drop (suc i) e.conditions) ++ last) r is none
        ∙ ap (λ (n : ℕ). first_wrong n (flat_map (fact_bounds ranges) (drop (suc i) e.conditions) ++ last)) two_on

  pub change_left : (n : ℕ) → n ≡ length e.conditions → wrong_from n ≡ first_wrong (2 * n + 2) last
  change_left n is = ap (λ (fs : List Fact). first_wrong (2 * n + 2) (flat_map (fact_bounds ranges) fs ++ last)) (ap (λ (m : ℕ). drop m e.conditions) is ∙ drop_all e.conditions)

-- ---- the number of a line

-- the number found from the content of the line is its first wrong number, or there is none
pub first_is : (ranges : List ℕ) (slot : TaskSlot) (line : List ℕ) (i : TaskLine) (r : Option WrongWord) → task_slot i ≡ slot → Spells i line → r ≡ first_wrong 1 (line_bounds ranges i) → FirstWrong ranges slot line r
first_is ranges slot line i None belongs spells e = λ w h.
    let same : h.item ≡ i = task_grammar.one_item h.item i (h.belongs ∙ sym belongs) h.spells.0 spells.0 (h.spells.1 ∙ sym spells.1) in
    none-some w (e ∙ ap (λ (x : TaskLine). first_wrong 1 (line_bounds ranges x)) (sym same) ∙ h.first)
first_is ranges slot line i (Some w) belongs spells e = record { item = i; belongs = belongs; spells = spells; first = sym e }

-- and back, for a line of the slot
found_in : (ranges : List ℕ) (slot : TaskSlot) (line : List ℕ) (i : TaskLine) (r : Option WrongWord) → task_slot i ≡ slot → Spells i line → ((w : WrongWord) → HasWrong ranges slot line w → ⊥) → first_wrong 1 (line_bounds ranges i) ≡ r → None ≡ r
found_in ranges slot line i None belongs spells none e = refl
found_in ranges slot line i (Some w) belongs spells none e = absurd (none w (record { item = i; belongs = belongs; spells = spells; first = e }))

pub first_back : (ranges : List ℕ) (slot : TaskSlot) (line : List ℕ) (i : TaskLine) (r : Option WrongWord) → task_slot i ≡ slot → Spells i line → FirstWrong ranges slot line r → r ≡ first_wrong 1 (line_bounds ranges i)
first_back ranges slot line i None belongs spells none = found_in ranges slot line i (first_wrong 1 (line_bounds ranges i)) belongs spells none refl
first_back ranges slot line i (Some w) belongs spells h =
    let same : h.item ≡ i = task_grammar.one_item h.item i (h.belongs ∙ sym belongs) h.spells.0 spells.0 (h.spells.1 ∙ sym spells.1) in
    sym h.first ∙ ap (λ (x : TaskLine). first_wrong 1 (line_bounds ranges x)) same
