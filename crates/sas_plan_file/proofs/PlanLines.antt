-- A line of a plan has one meaning, and its fault has one kind.
use Rattle.sas_plan_file.proofs.Imports.{◌≡◌, ℕ, List, [], ◌∷◌, ◌++◌, get_or, refl, sym, ap, ◌∙◌, arith, codes, decimal, decimal_injective, append_cancel_right, append_cancel_left, CostKind, IsPlanCost, NoSpace, NoSpace-decimal, joined, joined-words, Kind, Keyword, Name, Shape, PlanLine, step, cost, plan_line_bytes, PlanLineFits, PlanKind, like_step, like_cost, like_none, cost_words, cost_front, BeginsWith}
use Rattle.sas_core.specs.declared.plan.CostKind.TheVariants as costs
use Rattle.sas_lines.proofs.Words.{same_first as same_words_first}

-- ---- the digits of a cost

-- the bytes before the first space, and those after it
same_first : (w v a b : List ℕ) → NoSpace w → NoSpace v → w ++ 32 ∷ a ≡ v ++ 32 ∷ b → (w ≡ v) × (a ≡ b)
same_first w v a b h g e = let s = same_words_first w v a b h g e in (s.0, sym (joined-words a) ∙ ap joined s.1 ∙ joined-words b)

-- ---- one meaning

same_step : (a b : List ℕ) → plan_line_bytes (step a) ≡ plan_line_bytes (step b) → a ≡ b
same_step a b e = let t : a ++ 41 ∷ [] ≡ b ++ 41 ∷ [] = cc in append_cancel_right a b (41 ∷ []) t

cost_number : (m n : ℕ) → IsPlanCost m → IsPlanCost n → decimal m ≡ decimal n → m ≡ n
cost_number m n f g e = decimal_injective m n (omega arith) (omega arith) e

abbrev second_of : List ℕ → ℕ
second_of l = get_or l 1 0

same_cost_end : (m n : ℕ) (k l : CostKind) → IsPlanCost m → IsPlanCost n → decimal m ++ cost_words k ≡ decimal n ++ cost_words l → cost m k ≡ cost n l
same_cost_end m n costs.Unit costs.Unit f g e = ap (λ (x : ℕ). cost x costs.Unit) (cost_number m n f g ((same_first (decimal m) (decimal n) _ _ (NoSpace-decimal m) (NoSpace-decimal n) e).0))
same_cost_end m n costs.Unit costs.General f g e = absurd (let h = ap second_of (same_first (decimal m) (decimal n) _ _ (NoSpace-decimal m) (NoSpace-decimal n) e).1 in omega (arith, h))
same_cost_end m n costs.General costs.Unit f g e = absurd (let h = ap second_of (same_first (decimal m) (decimal n) _ _ (NoSpace-decimal m) (NoSpace-decimal n) e).1 in omega (arith, h))
same_cost_end m n costs.General costs.General f g e = ap (λ (x : ℕ). cost x costs.General) (cost_number m n f g ((same_first (decimal m) (decimal n) _ _ (NoSpace-decimal m) (NoSpace-decimal n) e).0))

same_cost : (m n : ℕ) (k l : CostKind) → IsPlanCost m → IsPlanCost n → plan_line_bytes (cost m k) ≡ plan_line_bytes (cost n l) → cost m k ≡ cost n l
same_cost m n k l f g e = same_cost_end m n k l f g (append_cancel_left cost_front (decimal m ++ cost_words k) (decimal n ++ cost_words l) e)

abbrev first_of : List ℕ → ℕ
first_of l = get_or l 0 0

pub step_not_cost : (a b : List ℕ) → codes "(" ++ a ≡ cost_front ++ b → ⊥
step_not_cost a b e = let h = ap first_of e in omega (arith, h)

pub one_plan_line : (i j : PlanLine) → PlanLineFits i → PlanLineFits j → plan_line_bytes i ≡ plan_line_bytes j → i ≡ j
one_plan_line (step v) (step w) f g e = ap step (same_step v w e)
one_plan_line (step v) (cost n k) f g e = absurd (step_not_cost _ _ e)
one_plan_line (cost n k) (step v) f g e = absurd (step_not_cost _ _ (sym e))
one_plan_line (cost m k) (cost n l) f g e = same_cost m n k l f g e

-- ---- one kind

not_both : (line : List ℕ) → BeginsWith (codes "(") line → BeginsWith cost_front line → ⊥
not_both [] a b = absurd cc
not_both (x ∷ line) a b = let p : x ≡ 40 = cc in let q : x ≡ 59 = cc in omega arith

pub one_plan_kind : (line : List ℕ) (k j : Kind) → PlanKind line k → PlanKind line j → k ≡ j
one_plan_kind line k j (like_step a) (like_step b) = refl
one_plan_kind line k j (like_step a) (like_cost b) = absurd (not_both line a b)
one_plan_kind line k j (like_step a) (like_none b c) = absurd (b a)
one_plan_kind line k j (like_cost a) (like_step b) = absurd (not_both line b a)
one_plan_kind line k j (like_cost a) (like_cost b) = refl
one_plan_kind line k j (like_cost a) (like_none b c) = absurd (c a)
one_plan_kind line k j (like_none a b) (like_step c) = absurd (a c)
one_plan_kind line k j (like_none a b) (like_cost c) = absurd (b c)
one_plan_kind line k j (like_none a b) (like_none c d) = refl

pub some_plan_kind : (line : List ℕ) → ((k : Kind) → PlanKind line k → ⊥) → ⊥
some_plan_kind line h = h Keyword (like_none (λ b. h Name (like_step b)) (λ b. h Shape (like_cost b)))
