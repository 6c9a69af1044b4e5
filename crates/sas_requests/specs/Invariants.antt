-- The promise of `mutex`.
--
-- Consider a run that ends with an answer: there is enough memory, no read or write fails, and no
-- input exceeds the limit. If it prints `group K exclusive`, the input is a text of a layered task,
-- and no two different facts of group K hold in the same reachable state.
use Rattle.std.specs.Prelude.{ℕ, ◌<◌, List, length, Contains}
use Rattle.sas_core.specs.declared.parts.Parts.{Parts}
use Rattle.sas_core.specs.Grounded.{group_at}
use Rattle.sas_meaning.specs.Layers.{IsLayered}
use Rattle.sas_groups.specs.declared.verdict.Verdict.TheVariants.{Exclusive}
use Rattle.sas_groups.specs.Groups.{IsInvariant}
use Rattle.sas_lines.specs.Lines.{lines}
use Rattle.sas_reader.specs.Texts.{Reads}
use Rattle.sas_task_file.specs.TaskTexts.{task_texts}
use Rattle.sas_answers.specs.GroupWords.{group_line}

-- The bytes b are a text of a layered task, and the group with this number, counted from 0, is an
-- invariant of the task.
pub record HasInvariant (b : List ℕ) (place : ℕ) : Type 0 where
  pub task : Parts
  pub is_task : Reads task_texts b task
  pub layered : IsLayered task
  pub exists : place < length task.groups
  pub invariant : IsInvariant task (group_at task place)

-- The promise of a run about the mutex groups of the task b. `Sent` holds for the bytes written.
pub record Invariants (b : List ℕ) (Sent : List ℕ → Type 0) : Type 0 where
  -- if `group K exclusive` is a line of the bytes written, group K is an invariant
  pub line : (place : ℕ) (out : List ℕ) → Sent out
      → Contains (lines out) (group_line place Exclusive) → HasInvariant b place
