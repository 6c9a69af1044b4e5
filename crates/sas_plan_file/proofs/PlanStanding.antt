-- What a reader of plans represents, in terms of the plan format.
use Rattle.sas_plan_file.proofs.Imports.{◌≡◌, ℕ, ◌≤◌, List, length, refl, ap, Ok, PlanParts, ReadsAs, ended, Follows, reads_of_format, plan_format, PlanLineFits, PlanState, going, closed, plan_node, plan_start, HasCostLine, plan_behavior}
use Rattle.sas_reader.specs.Reader as reading
use Rattle.sas_plan_file.proofs.PlanGrammar.{plan_grammar}

pub closed_value : (p : PlanState) → HasCostLine p → (v : PlanParts) × (plan_node p ≡ ended v)
closed_value (going steps) h = absurd h
closed_value (closed p) h = (p, refl)

pub closed_is : (p : PlanState) (v : PlanParts) → plan_node p ≡ ended v → HasCostLine p
closed_is (going steps) v e = absurd cc
closed_is (closed p) v e = tt

pub plan_follows : Follows plan_format PlanLineFits plan_node plan_start plan_behavior
plan_follows ls p h = record { state = p; leads = h; value = closed_value p; is_ended = closed_is p; refuses = λ line k going_on r. r }

-- ---- the end

pub read_plan_parts : (limit : ℕ) (m : PlanState) (p : PlanParts) (bytes : List ℕ) → m ≡ closed p → reading.Reached plan_behavior m bytes × (length bytes ≤ limit) → ReadsAs plan_format limit bytes (Ok p)
unfolding plan_follows
read_plan_parts limit m p bytes e h = (reads_of_format plan_format PlanLineFits plan_node plan_start plan_grammar plan_behavior plan_follows m p bytes h.0 (ap plan_node e), h.1)
