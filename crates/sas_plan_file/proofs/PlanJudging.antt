-- Why a line may not stand in a plan.
use Rattle.sas_plan_file.proofs.Imports.{◌≡◌, ℕ, List, ◌++◌, length, take, sym, ap, ◌∙◌, IsTrue, codes, decimal, append_cancel_left, take-append_seam, CostKind, Keyword, Name, Shape, IsRejected, PlanLine, step, cost, plan_line_bytes, PlanLineFits, like_step, like_cost, like_none, cost_front, cost_words, BeginsWith, plan_format, Names, Costs, plan_line_ok}
use Rattle.sas_plan_file.proofs.PlanLines.{step_not_cost}

begins_with : (front rest line : List ℕ) → line ≡ front ++ rest → BeginsWith front line
begins_with front rest line e = ap (take (length front)) e ∙ take-append_seam front rest

no_step : (line rest : List ℕ) → line ≡ codes "(" ++ rest → ((name : List ℕ) → Names rest name → ⊥) → (i : PlanLine) → PlanLineFits i → IsTrue (plan_line_ok i) → plan_line_bytes i ≡ line → ⊥
no_step line rest e none (step name) fits ok b = none name (ok, append_cancel_left (codes "(") rest (name ++ codes ")") (sym e ∙ sym b))
no_step line rest e none (cost n kind) fits ok b = step_not_cost rest (decimal n ++ cost_words kind) (sym e ∙ sym b)

no_cost : (line rest : List ℕ) → line ≡ cost_front ++ rest → ((n : ℕ) (kind : CostKind) → Costs rest n kind → ⊥) → (i : PlanLine) → PlanLineFits i → IsTrue (plan_line_ok i) → plan_line_bytes i ≡ line → ⊥
no_cost line rest e none (step name) fits ok b = step_not_cost (name ++ codes ")") rest (b ∙ e)
no_cost line rest e none (cost n kind) fits ok b = none n kind (fits, append_cancel_left cost_front rest (decimal n ++ cost_words kind) (sym e ∙ sym b))

no_line : (line : List ℕ) → (BeginsWith (codes "(") line → ⊥) → (BeginsWith cost_front line → ⊥) → (i : PlanLine) → plan_line_bytes i ≡ line → ⊥
no_line line a b (step name) e = a (begins_with (codes "(") (name ++ codes ")") line (sym e))
no_line line a b (cost n kind) e = b (begins_with cost_front (decimal n ++ cost_words kind) line (sym e))

pub judged_name : (line rest : List ℕ) → line ≡ codes "(" ++ rest → ((name : List ℕ) → Names rest name → ⊥) → IsRejected plan_format PlanLineFits tt plan_line_ok line Name
judged_name line rest e none = record { none = λ i t b. no_step line rest e none i t.fits t.good b; kind = like_step (begins_with (codes "(") rest line e) }

pub judged_shape : (line rest : List ℕ) → line ≡ cost_front ++ rest → ((n : ℕ) (kind : CostKind) → Costs rest n kind → ⊥) → IsRejected plan_format PlanLineFits tt plan_line_ok line Shape
judged_shape line rest e none = record { none = λ i t b. no_cost line rest e none i t.fits t.good b; kind = like_cost (begins_with cost_front rest line e) }

pub judged_keyword : (line : List ℕ) → (BeginsWith (codes "(") line → ⊥) → (BeginsWith cost_front line → ⊥) → IsRejected plan_format PlanLineFits tt plan_line_ok line Keyword
judged_keyword line a b = record { none = λ i t e. no_line line a b i e; kind = like_none a b }
