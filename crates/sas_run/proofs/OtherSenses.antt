-- A valid plan is valid in the usual sense, and in Fast Downward's search.
use Rattle.sas_run.proofs.Imports.{arith, ◌≡◌, ℕ, List, [], ◌∷◌, sym, ◌∙◌, subst, AllZip, Parts, PlanParts, operator_at, IsLayered, FastDownwardStep, step_there, is_one_there, IsNamed, LeadFrom, IsValid, OperatorsLead, ValidIsUsuallyValid, ValidInFastDownward, EndsInFastDownward}
use Rattle.sas_run.proofs.Determined.{initial_is_one}
use Rattle.sas_run.proofs.GoingByNumbers.{led_on, leads_on_numbers}

-- the operators of executable steps have their names
named : (p : Parts) (s : List ℕ) (names : List (List ℕ)) (operators last : List ℕ) → LeadFrom p s names operators last → AllZip (IsNamed p) names operators
named p s [] [] last goes = tt
named p s [] (operator ∷ operators) last goes = absurd goes
named p s (name ∷ names) [] last goes = absurd goes
named p s (name ∷ names) (operator ∷ operators) last (next, chosen, step, rest) = (chosen.of_name, named p next names operators last rest)

pub usually_valid : ValidIsUsuallyValid
usually_valid p plan operators valid = search (arith, named, leads_on_numbers)

lead_there : (p : Parts) (plan : PlanParts) (operators : List ℕ) (valid : IsValid p plan operators)
    → OperatorsLead p (FastDownwardStep p) valid.leads.initial operators valid.last
lead_there p plan operators valid = led_on p (FastDownwardStep p) (step_there p) valid.leads.initial plan.steps operators valid.last valid.leads.goes

pub valid_there : ValidInFastDownward
valid_there p plan operators valid = search (arith, lead_there)

-- in Fast Downward the same operators lead to one state
one_end : (p : Parts) → IsLayered p → (s : List ℕ) (operators a b : List ℕ) → OperatorsLead p (FastDownwardStep p) s operators a → OperatorsLead p (FastDownwardStep p) s operators b → a ≡ b
one_end p layered s [] a b to_a to_b = to_a ∙ sym to_b
one_end p layered s (operator ∷ operators) a b (next, its, step, rest) (other, _, step', rest') =
    one_end p layered next operators a b rest
    (subst (λ x. OperatorsLead p (FastDownwardStep p) x operators b) (is_one_there p s (operator_at p operator) other next layered step' step) rest')

pub ends_there : EndsInFastDownward
ends_there p plan operators initial last layered valid starts leads =
    one_end p layered valid.leads.initial operators last valid.last
    (subst (λ x. OperatorsLead p (FastDownwardStep p) x operators last) (initial_is_one p layered initial valid.leads.initial starts valid.leads.starts) leads)
    (lead_there p plan operators valid)
