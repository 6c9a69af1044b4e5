-- What a reader of tasks represents, in terms of the task format.
use Rattle.sas_task_reader.proofs.Imports.{◌≡◌, ℕ, ◌≤◌, List, length, sym, subst, Ok, ∥∥₁_elim, props, checks_are_the_rules, WellRanged, SoFar, TaskMachine, Reads, ReadsAs, table_node, task_texts, task_format, TaskLineFits, state_of, HasEnded, task_behavior, table_start, reader_behavior, Follows, reads_of_format}
use Rattle.sas_task_file.proofs.TaskEnds.{over_if_ended, ends_with}
use Rattle.sas_task_file.proofs.TaskGrammar.{task_grammar}
use Rattle.sas_reader.specs.Reader as reading

module _ {K : Type 0} (keeps : List (List ℕ) → SoFar → K → Type 0) where
  pub machine_follows : Follows task_format TaskLineFits table_node table_start (task_behavior keeps)
  machine_follows ls m h = record {
    state = state_of m.judge h.so_far;
    leads = h.leads;
    value = λ d. (h.so_far.parts, ends_with (state_of m.judge h.so_far) d);
    is_ended = λ v e. over_if_ended (state_of m.judge h.so_far) v e;
    refuses = λ line k going_on r. r h.so_far;
  }

  -- if the machine has ended, the bytes are read as the content so far
  pub reads_so_far : (m : TaskMachine K) (bytes : List ℕ) (h : reading.Reached (task_behavior keeps) m bytes) → HasEnded m.judge → Reads task_texts bytes h.led.so_far.parts
  unfolding machine_follows
  reads_so_far m bytes h d = reads_of_format task_format TaskLineFits table_node table_start task_grammar (task_behavior keeps) machine_follows m h.led.so_far.parts bytes h (ends_with (state_of m.judge h.led.so_far) d)

-- the reader stores the whole content
pub reader_follows : Follows task_format TaskLineFits table_node table_start reader_behavior
reader_follows = machine_follows (λ lines s kept. kept ≡ s)

-- ---- the end

-- if the machine has ended, the bytes are read as its parts
pub reads_parts : (m : TaskMachine SoFar) (bytes : List ℕ) → reading.Reached reader_behavior m bytes → HasEnded m.judge → Reads task_texts bytes m.kept.parts
reads_parts m bytes h d = subst (λ (s : SoFar). Reads task_texts bytes s.parts) (sym h.led.kept) (reads_so_far (λ lines s kept. kept ≡ s) m bytes h d)

pub well_ranged : (m : TaskMachine SoFar) (bytes : List ℕ) → reading.Reached reader_behavior m bytes → HasEnded m.judge → WellRanged m.kept.parts
well_ranged m bytes h d = (reads_parts m bytes h d).good

pub read_task_parts : (limit : ℕ) (m : TaskMachine SoFar) (bytes : List ℕ) → HasEnded m.judge → reading.Reached reader_behavior m bytes × (length bytes ≤ limit) → ReadsAs task_format limit bytes (Ok m.kept.parts)
read_task_parts limit m bytes d h = (reads_parts m bytes h.0 d, h.1)

-- if some lines led the machine to its end, its parts are well ranged
pub ranged : (m : TaskMachine SoFar) → ∥ ((bytes : List ℕ) × reading.Reached reader_behavior m bytes) ∥₁ → HasEnded m.judge → WellRanged m.kept.parts
ranged m led d =
    let law = checks_are_the_rules m.kept.parts in
    law.0 (∥∥₁_elim led (hlevel props) (λ (h : (bytes : List ℕ) × reading.Reached reader_behavior m bytes). law.1 (well_ranged m h.0 h.1 d)))
