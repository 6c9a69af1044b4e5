-- The text of a plan, stored line by line.
use Rattle.sas_plan_file.proofs.Imports.{◌≡◌, ℕ, true, List, [], ◌∷◌, ◌++◌, refl, sym, ap, ◌∙◌, IsTrue, ◌↔◌, flat_map-append, append-nil, CostKind, PlanParts, text, lines, Kind, lines_of, Reads, IsAllowed, IsRejected, Leads, Rejects, Follows, PlanText, PlanLine, step, cost, plan_line_bytes, plan_texts, plan_format, PlanLineFits, PlanState, going, closed, plan_node, plan_next, plan_start, plan_line_ok, HasCostLine, KeepsLines, text_behavior}
use Rattle.sas_plan_file.proofs.PlanStanding.{closed_value, closed_is}
use Rattle.sas_plan_file.proofs.PlanSteps.{led_on}

text-push : (ls : List (List ℕ)) (line : List ℕ) → text (ls ++ line ∷ []) ≡ text ls ++ (line ++ 10 ∷ [])
text-push ls line = flat_map-append (λ (l : List ℕ). l ++ 10 ∷ []) ls (line ∷ []) ∙ ap (λ (x : List ℕ). text ls ++ x) (append-nil (line ++ 10 ∷ []))

kept_text : (ls : List (List ℕ)) (line old new : List ℕ) → old ≡ text ls → new ≡ old ++ (line ++ 10 ∷ []) → new ≡ text (ls ++ line ∷ [])
kept_text ls line old new o n = n ∙ ap (λ (x : List ℕ). x ++ (line ++ 10 ∷ [])) o ∙ sym (text-push ls line)

-- ---- one more line

line_kept : (ls : List (List ℕ)) (p : PlanState) (m n : PlanText) (i : PlanLine) (line : List ℕ) → Leads plan_format PlanLineFits plan_node plan_start ls p → m.text.items ≡ text ls → (IsTrue m.closed ↔ HasCostLine p) → (IsTrue m.closed → ⊥) → IsAllowed plan_format PlanLineFits tt plan_line_ok i → plan_line_bytes i ≡ line
    → n.text.items ≡ m.text.items ++ (line ++ 10 ∷ []) → ((steps : List (List ℕ)) → IsTrue n.closed ↔ HasCostLine (plan_next steps i)) → KeepsLines (ls ++ line ∷ []) n
line_kept ls (going steps) m n i line h k c going_on t e same_text closes = record {
  state = plan_next steps i;
  leads = led_on ls steps (plan_next steps i) i line h t e refl;
  kept = kept_text ls line m.text.items n.text.items k same_text;
  closed = closes steps;
}
line_kept ls (closed p) m n i line h k c going_on t e same_text closes = absurd (going_on (c.1 tt))

pub keeps_step : (ls : List (List ℕ)) (m n : PlanText) (name line : List ℕ) → KeepsLines ls m → (IsTrue m.closed → ⊥) → IsAllowed plan_format PlanLineFits tt plan_line_ok (step name) → plan_line_bytes (step name) ≡ line → n.text.items ≡ m.text.items ++ (line ++ 10 ∷ []) → n.closed ≡ m.closed → KeepsLines (ls ++ line ∷ []) n
keeps_step ls m n name line h going_on t e same_text same_closed = line_kept ls h.state m n (step name) line h.leads h.kept h.closed going_on t e same_text (λ steps. (λ d. going_on (sym same_closed ∙ d), λ d. absurd d))

pub keeps_cost : (ls : List (List ℕ)) (m n : PlanText) (amount : ℕ) (kind : CostKind) (line : List ℕ) → KeepsLines ls m → (IsTrue m.closed → ⊥) → IsAllowed plan_format PlanLineFits tt plan_line_ok (cost amount kind) → plan_line_bytes (cost amount kind) ≡ line → n.text.items ≡ m.text.items ++ (line ++ 10 ∷ []) → n.closed ≡ true → KeepsLines (ls ++ line ∷ []) n
keeps_cost ls m n amount kind line h going_on t e same_text now_closed = line_kept ls h.state m n (cost amount kind) line h.leads h.kept h.closed going_on t e same_text (λ steps. (λ d. tt, λ d. now_closed))

-- ---- it follows the grammar

refused : (p : PlanState) (line : List ℕ) (k : Kind) → (HasCostLine p → ⊥) → IsRejected plan_format PlanLineFits tt plan_line_ok line k → Rejects plan_format PlanLineFits (plan_node p) line k
refused (going steps) line k going_on j = j
refused (closed p) line k going_on j = absurd (going_on tt)

pub text_follows : Follows plan_format PlanLineFits plan_node plan_start text_behavior
text_follows ls m h = record {
  state = h.state;
  leads = h.leads;
  value = λ d. closed_value h.state (h.closed.0 d);
  is_ended = λ v e. h.closed.1 (closed_is h.state v e);
  refuses = λ line k going_on j. refused h.state line k (λ d. going_on (h.closed.1 d)) j;
}

-- the text of what was read, if it was read as a plan
pub text_is : (m : PlanText) (bytes : List ℕ) (p : PlanParts) → KeepsLines (lines bytes) m → Reads plan_texts bytes p → m.text.items ≡ text (lines_of plan_texts p)
text_is m bytes p h r = h.kept ∙ ap text r.lines
