-- What holds of answers about a value.
use Rattle.sas_answers.proofs.Imports.{◌≡◌, Output}

-- a value has one answer
abbrev pub OneAnswer : {V : Type 0} → (V → Output → Type 0) → Type 0
OneAnswer {V} IsAnswer = (value : V) (o p : Output) → IsAnswer value o → IsAnswer value p → o ≡ p

-- and it can't have none
abbrev pub SomeAnswer : {V : Type 0} → (V → Output → Type 0) → Type 0
SomeAnswer {V} IsAnswer = (value : V) → ((o : Output) → IsAnswer value o → ⊥) → ⊥
