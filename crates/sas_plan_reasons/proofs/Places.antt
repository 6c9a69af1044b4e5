-- The places of the items that pass a test, and what fails.
use Rattle.std.proofs.lemmas.Grind.{common_steps}
use Rattle.sas_plan_reasons.proofs.Imports.{IsApplicable, Parts, ◌↔◌, ◌≡◌, ℕ, zero, suc, ◌+◌, not, List, [], ◌∷◌, slice_index, bytes_eq, ◌∙◌, ap, subst, arith, filter, Contains, eq-eqb, ne_eqb, eqb_tells, All-nil, All-cons, bytes_eq-Decides, Fact, Operator, operator_at, Holds, AllHold, preconditions, places_from, places, takes, passes_by, place_is, is_place, IsNamed, IsFirstMissed, fails}

pub operators_have_name : (p : Parts) (name : List ℕ) (operator : ℕ) → Contains (places (λ (o : Operator). bytes_eq o.name name) p.operators) operator
    ↔ IsNamed p name operator
operators_have_name p name operator = (there, back)
  where
    there : Contains (places (λ (o : Operator). bytes_eq o.name name) p.operators) operator → IsNamed p name operator
    there h =
        let w = place_is (λ (o : Operator). bytes_eq o.name name) 0 p.operators operator h in
        let same : w.index ≡ operator = omega (arith, w.is) in
        subst (IsNamed p name) same (record { exists = w.within; named = (bytes_eq-Decides (operator_at p w.index).name name).0 (w.passes _) })

    back : IsNamed p name operator → Contains (places (λ (o : Operator). bytes_eq o.name name) p.operators) operator
    back is = subst (Contains (places (λ (o : Operator). bytes_eq o.name name) p.operators)) (let e : 0 + operator ≡ operator = omega arith in e)
        (is_place (λ (o : Operator). bytes_eq o.name name) 0 p.operators operator _ is.exists ((bytes_eq-Decides (operator_at p operator).name name).1 is.named))

none_fails : (s : List ℕ) (facts : List Fact) → filter (fails s) facts ≡ [] → AllHold (slice_index s) facts
none_fails s [] e = All-nil (Holds (slice_index s))
none_fails s (f ∷ fs) e = grind (arith, common_steps, none_fails s fs, eqb_tells, All-cons)

pub some_precondition_fails : (s : List ℕ) (o : Operator) → filter (fails s) (preconditions o) ≡ [] → IsApplicable s o
some_precondition_fails s o none = none_fails s (preconditions o) none

first_place : (s : List ℕ) (place : ℕ) (facts : List Fact) (index : ℕ) → IsFirstMissed (slice_index s) facts index
    → (behind : List ℕ) × (places_from place (fails s) facts ≡ (place + index) ∷ behind)
first_place s place [] index first = absurd (let lt = first.exists in omega arith)
first_place s place (f ∷ fs) zero first = (
  places_from (place + 1) (fails s) fs,
  takes (fails s) place f fs (ap not (ne_eqb (slice_index s f.var) f.value (first.missed f)))
      ∙ ap (λ k. k ∷ places_from (place + 1) (fails s) fs) (let e : place ≡ place + zero = omega arith in e),
)
first_place s place (f ∷ fs) (suc index) first =
    let r = first_place s (place + 1) fs index (record {
      exists = (let lt = first.exists in omega arith);
      missed = λ d. first.missed d;
      before = λ k d lt. first.before (suc k) d (omega arith);
    }) in (
      r.0,
      passes_by (fails s) place f fs (ap not (eq-eqb (slice_index s f.var) f.value (first.before 0 f (omega arith))))
          ∙ (r.1 ∙ ap (λ k. k ∷ r.0) (let e : place + 1 + index ≡ place + suc index = omega arith in e)),
    )

pub first_goal_fact : (p : Parts) (s : List ℕ) (index : ℕ) → IsFirstMissed (slice_index s) p.goal index → (behind : List ℕ) × (places (fails s) p.goal ≡ index ∷ behind)
first_goal_fact p s index first = let r = first_place s 0 p.goal index first in
    (r.0, r.1 ∙ ap (λ k. k ∷ r.0) (let e : 0 + index ≡ index = omega arith in e))
