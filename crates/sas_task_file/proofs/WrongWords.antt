-- The numbers of a line: if none is wrong, all are allowed. The ranges of the variables decide.
use Rattle.sas_task_file.proofs.Imports.{◌≡◌, ℕ, ◌+◌, ◌-◌, Bool, true, false, IsTrue, List, [], ◌∷◌, refl, ap, subst, sym, Some, None, nat_lt, if◌then◌else◌, option_map_or, AllByRecursion, none-some, WrongWord, TaskLine, fact, effect, head, TaskSlot, task_slot, Bounded, first_wrong, line_bounds, fact_slot, effect_slot, head_slot}

-- whether the number is allowed
abbrev pub may_stand : Bounded → Bool
may_stand b = option_map_or (λ i. nat_lt i b.bound) b.value b.may_be_none

-- the wrong number, if it is number n of the line
abbrev pub wrong_at : ℕ → Bounded → WrongWord
wrong_at n b = record { word = n; may_be_none = b.may_be_none; most = b.bound - 1 }

abbrev pub AllStand : List Bounded → Type 0
AllStand bounds = AllByRecursion (λ b. IsTrue (may_stand b)) bounds

stands_too : (n : ℕ) (b : Bounded) (bounds : List Bounded) (stands : Bool) → may_stand b ≡ stands → (if stands then first_wrong (n + 1) bounds else Some (wrong_at n b)) ≡ None → (first_wrong (n + 1) bounds ≡ None → AllStand bounds) → AllStand (b ∷ bounds)
stands_too n b bounds true is e others = (is, others e)
stands_too n b bounds false is e others = absurd (none-some (wrong_at n b) (sym e))

pub all_stand : (n : ℕ) (bounds : List Bounded) → first_wrong n bounds ≡ None → AllStand bounds
all_stand n [] e = tt
all_stand n (b ∷ bounds) e = stands_too n b bounds (may_stand b) refl e (all_stand (n + 1) bounds)

-- ---- what determines the bounds

-- the slots of lines with bounded numbers
abbrev pub HasBounds : TaskSlot → Type 0
HasBounds fact_slot = Unit {0}
HasBounds effect_slot = Unit {0}
HasBounds head_slot = Unit {0}
HasBounds _ = ⊥

-- the same ranges give a line the same bounds
pub same_bounds : (a b : List ℕ) (slot : TaskSlot) (i : TaskLine) → task_slot i ≡ slot → (HasBounds slot → a ≡ b) → line_bounds a i ≡ line_bounds b i
same_bounds a b slot (fact f) s e = ap (λ (x : List ℕ). line_bounds x (fact f)) (e (subst HasBounds s tt))
same_bounds a b slot (effect f) s e = ap (λ (x : List ℕ). line_bounds x (effect f)) (e (subst HasBounds s tt))
same_bounds a b slot (head var old new) s e = ap (λ (x : List ℕ). line_bounds x (head var old new)) (e (subst HasBounds s tt))
same_bounds a b slot _ s e = refl
