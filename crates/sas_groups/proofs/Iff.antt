-- Answers that are true if and only if a claim holds.
use Rattle.sas_groups.proofs.Imports.{◌↔◌, Bool, true, false, IsTrue, IsFalse, refl, inl, inr, both_ways, cases_Bool}

pub iff_yes : {Claim : Type 0} → Claim → IsTrue true ↔ Claim
iff_yes is = (λ t. is, λ claim. refl)

pub iff_no : {Claim : Type 0} → (Claim → ⊥) → IsTrue false ↔ Claim
iff_no not = (λ t. absurd cc, λ claim. absurd (not claim))

pub iff_from : {Claim : Type 0} {answer : Bool} → (IsTrue answer → Claim) → (IsFalse answer → Claim → ⊥) → IsTrue answer ↔ Claim
iff_from {Claim} {answer} is not = (is, λ claim. elim (cases_Bool answer) [ inl t ↦ t | inr f ↦ absurd (not f claim) ])

-- an answer to one claim as an answer to another
pub iff_other : {One Other : Type 0} {answer : Bool} → IsTrue answer ↔ One → (One → Other) → (Other → One) → IsTrue answer ↔ Other
iff_other iff there back = (λ t. there (iff.0 t), λ other. iff.1 (back other))

-- the claim of a negative answer doesn't hold
pub iff_not : {Claim : Type 0} {answer : Bool} → IsTrue answer ↔ Claim → IsFalse answer → Claim → ⊥
iff_not {Claim} {answer} iff f claim = both_ways answer f (iff.1 claim)
