-- The answers about plans that were checked.
use Rattle.sas_plan_reasons.proofs.Imports.{◌≡◌, ℕ, List, length, Some, inl, inr, subst, none-some, Parts, PlanParts, PlanFault, Valid, Output, VerdictAnswer, valid_answer, invalid_answer, AnswerFrom, valid_by, invalid_by_numbers, IsSolutionBy, IsFaultByOrMemory, by_number, IsChoice, Choice, get_or, [], named_valid, named_faulty, numbered_valid, numbered_faulty}

module _ (p : Parts) (plan : PlanParts) (a : Output) where
  abbrev by_name : ℕ → List ℕ → Choice → Type 0
  by_name step s = IsChoice p s (get_or plan.steps step [])

  pub valid_answered : (valid : Valid) → IsSolutionBy p p.init by_name (length plan.steps) plan.cost valid → a ≡ valid_answer plan → VerdictAnswer p plan a
  valid_answered valid is said = inl ((valid.operators.items, (let solution = named_valid p plan valid is in solution.valid)), said)

  pub fault_answered : (fault : PlanFault) → IsFaultByOrMemory p p.init by_name (length plan.steps) plan.cost fault → invalid_answer plan.cost fault ≡ Some a → VerdictAnswer p plan a
  fault_answered fault faulty said = inr (
    fault,
    named_faulty p plan fault faulty (λ memory. none-some a (subst (λ f. invalid_answer plan.cost f ≡ Some a) memory said)),
    said,
  )

module _ (p : Parts) (start numbers : List ℕ) (cost : ℕ) (a : Output) where
  pub numbers_answered : (valid : Valid) → IsSolutionBy p start (by_number p start numbers) (length numbers) cost valid → a ≡ valid_by (length numbers) cost → AnswerFrom p start numbers cost a
  numbers_answered valid is said = inl (numbered_valid p start numbers cost valid is, said)

  pub number_fault_answered : (fault : PlanFault) → IsFaultByOrMemory p start (by_number p start numbers) (length numbers) cost fault → invalid_by_numbers cost fault ≡ Some a → AnswerFrom p start numbers cost a
  number_fault_answered fault faulty said = inr (
    fault,
    numbered_faulty p start numbers cost fault faulty (λ memory. none-some a (subst (λ f. invalid_by_numbers cost f ≡ Some a) memory said)),
    said,
  )
