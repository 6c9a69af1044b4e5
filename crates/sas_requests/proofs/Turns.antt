-- Which plans were opened, one after another, up to the end of a run.
use Rattle.std.proofs.lemmas.Grind.{common_steps}
use Rattle.sas_requests.proofs.Imports.{◌≡◌, ℕ, suc, ◌+◌, ◌<◌, List, add-one, refl, sym, subst, arith, ◌⊎◌, inr, Option, Some, Result, Ok, Err, IfErr, IsErrOf, IsErrAnd, ◌↔◌, Status, ToolFault, IsWrite, EndsCounting, Bool, TaskBy, UnlayeredBy, JudgeFault, Tool, tool_fault, tool_result, judge_result, IsRightlyLong, OpensFirst, OpensInTurn, EndsAt, IsOpened, IsOpenedBut}
use Rattle.sas_requests.proofs.PlanOutputs.{not_refused_by}
use Rattle.sas_answers.specs.declared.ending.ToolFault.TheVariants as faults
use Rattle.sas_requests.specs.declared.inputs.JudgeFault.TheVariants.{Plan}

module _ {S I : Type 0} (gives : S → ℕ → Option I → S → Type 0) where
  pub opens_next : (count : ℕ) (old before new : S) → OpensFirst gives count old before → IsOpened gives count before new → OpensFirst gives (count + 1) old new
  opens_next count old before new first opened = rw add-one (before, first, opened)

  -- where a plan isn't reported
  pub opens_until : (task : Option (List ℕ)) (count number : ℕ) (old before new : S) (why : JudgeFault) → number < count → OpensFirst gives number old before → EndsAt gives number before new why → OpensInTurn gives task count old new (Err why)
  opens_until task count number old before new (Plan other what) less first (is, opened) =
      subst (λ (m : ℕ). (m < count) × (at : S) × OpensFirst gives m old at × IsOpenedBut gives what m at new) (sym is) (less, before, first, opened)
  opens_until task count number old before new (Tool why) less first (is, opened) = rw is (suc number, omega arith, (before, first, opened))

  -- where the answer is written
  pub in_turn_written : (task : Option (List ℕ)) (count : ℕ) (old new : S) (r : Result Status ToolFault) → IfErr r IsWrite → OpensFirst gives count old new → OpensInTurn gives task count old new (judge_result r)
  in_turn_written task count old new r write first = grind (arith, common_steps)

  -- where the task is refused, or wasn't read
  pub in_turn_refused : (reasons : Bool) (task : Option (List ℕ)) (count : ℕ) (plans : S) (Sent : List ℕ → Type 0) (r : Result Status ToolFault) → ((b : List ℕ) → task ≡ Some b → EndsCounting (TaskBy reasons (UnlayeredBy reasons) b) Sent r)
      → OpensInTurn gives task count plans plans (judge_result r)
  in_turn_refused reasons task count plans Sent (Ok status) ends = inr (λ b known. let (o, out, same, sent) = ends b known in not_refused_by reasons b (Some o) out, refl)
  in_turn_refused reasons task count plans Sent (Err (faults.Write written)) ends = inr (λ b known. let (number, counts, (o, out, less, sent)) = ends b known in not_refused_by reasons b (Some o) out, refl)
  in_turn_refused reasons task count plans Sent (Err faults.Memory) ends = (0, omega arith, refl)
  in_turn_refused reasons task count plans Sent (Err faults.Read) ends = refl
  in_turn_refused reasons task count plans Sent (Err faults.TooLong) ends = refl

-- ---- the end of a call, as one of a run over many plans

pub tool_same : (r : Result Status ToolFault) → tool_result (judge_result r) ≡ r
tool_same h1 = grind arith

pub tool_unread : (r : Result Status ToolFault) → IfErr r IsWrite → IsErrOf (judge_result r) (Tool faults.Read) → ⊥
tool_unread h1 write e = grind arith

pub tool_long : (known : ℕ → Option (List ℕ)) (r : Result Status ToolFault) → IfErr (judge_result r) (IsRightlyLong known)
tool_long known h1 = grind arith

pub tool_failed : (P : ToolFault → Type 0) (r : Result Status ToolFault) → IfErr r P → IfErr (judge_result r) (λ e. P (tool_fault e))
tool_failed h1 h2 h = grind arith

pub tool_read : (Q : Type 0) (r : Result Status ToolFault) → IsErrOf r faults.Read ↔ Q → IsErrOf (judge_result r) (Tool faults.Read) ↔ Q
tool_read h1 h2 h = grind arith

pub tool_written : (Q : Type 0) (r : Result Status ToolFault) → IsErrAnd r IsWrite ↔ Q → IsErrAnd (judge_result r) (λ e. IsWrite (tool_fault e)) ↔ Q
tool_written h1 h2 h = grind arith

pub tool_stopped : (Q : Type 0) (r : Result Status ToolFault) → IfErr r IsWrite → IfErr (judge_result r) (λ e. IsWrite (tool_fault e) ⊎ Q)
tool_stopped h1 h2 h = grind arith
