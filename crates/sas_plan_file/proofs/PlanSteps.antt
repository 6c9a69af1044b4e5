-- One more line of a plan.
use Rattle.sas_plan_file.proofs.Imports.{◌≡◌, ℕ, List, [], ◌∷◌, ◌++◌, refl, sym, subst, ◌∙◌, Option, None, Some, CostKind, IsAllowed, Leads, leads_line, PlanLine, step, cost, plan_line_bytes, plan_format, PlanLineFits, PlanState, going, closed, plan_node, plan_next, plan_line_ok, plan_start, plan_state, HasCostLine, StepsOn}

abbrev Led : List (List ℕ) → PlanState → Type 0
Led lines p = Leads plan_format PlanLineFits plan_node plan_start lines p

-- a line that may stand leads to a next state
pub led_on : (before : List (List ℕ)) (steps : List (List ℕ)) (q : PlanState) (i : PlanLine) (line : List ℕ) → Leads plan_format PlanLineFits plan_node plan_start before (going steps) → IsAllowed plan_format PlanLineFits tt plan_line_ok i → plan_line_bytes i ≡ line → plan_next steps i ≡ q → Leads plan_format PlanLineFits plan_node plan_start (before ++ line ∷ []) q
led_on before steps q i line h t e n = subst (λ (l : List ℕ). Led (before ++ l ∷ []) q) e (leads_line plan_format PlanLineFits plan_node plan_start (going steps) q before i h (t, n))

pub step_led : (before : List (List ℕ)) (p q : PlanState) (name line : List ℕ) → Leads plan_format PlanLineFits plan_node plan_start before p → IsAllowed plan_format PlanLineFits tt plan_line_ok (step name) → plan_line_bytes (step name) ≡ line → StepsOn p name q → Leads plan_format PlanLineFits plan_node plan_start (before ++ line ∷ []) q
step_led before (going steps) q name line h t e n = led_on before steps q (step name) line h t e (sym n)
step_led before (closed p) q name line h t e n = absurd n

pub still_going : (p q : PlanState) (name : List ℕ) → StepsOn p name q → HasCostLine q → ⊥
still_going (going steps) q name n d = subst HasCostLine n d
still_going (closed p) q name n d = absurd n

open_steps : (steps : List (List ℕ)) (c : Option (ℕ × CostKind)) → (HasCostLine (plan_state steps c) → ⊥) → plan_state steps c ≡ going steps
open_steps steps None h = refl
open_steps steps (Some c) h = absurd (h tt)

pub cost_led : (before : List (List ℕ)) (p : PlanState) (steps : List (List ℕ)) (c : Option (ℕ × CostKind)) (n : ℕ) (kind : CostKind) (line : List ℕ) → plan_state steps c ≡ p → (HasCostLine p → ⊥) → Leads plan_format PlanLineFits plan_node plan_start before p → IsAllowed plan_format PlanLineFits tt plan_line_ok (cost n kind) → plan_line_bytes (cost n kind) ≡ line → Leads plan_format PlanLineFits plan_node plan_start (before ++ line ∷ []) (plan_state steps (Some (n, kind)))
cost_led before p steps c n kind line v going_on h t e =
    let is : p ≡ going steps = sym v ∙ open_steps steps c (λ d. going_on (subst HasCostLine v d)) in
    led_on before steps _ (cost n kind) line (subst (Led before) is h) t e refl

pub ruleset next_lines = (step_led, cost_led)
