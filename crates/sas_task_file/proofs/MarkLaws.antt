-- After the same lines of a task, one thing is expected. A line has at most one first wrong word.
-- So there is one reason why it is refused.
use Rattle.sas_task_file.proofs.Imports.{ranges_of, ◌≡◌, ℕ, List, ◌∷◌, ◌++◌, map, sym, ap, subst, ◌∙◌, Parts, WellRanged, IsBegun, cut_at, same_path, Mark, TaskLine, TaskLineFits, task_line_bytes, task_layout, task_format, table_node, table_start, slot_of_due, IsDue, OneDue, SomeDue, tracker_start, track, mark_in, first_wrong, line_bounds, OneTaskReason, OneWrongWord}
use Rattle.sas_reader.specs.declared.fault.Kind.TheVariants as kinds
use Rattle.sas_task_file.proofs.TaskFilling.{split}
use Rattle.sas_task_file.proofs.TaskGrammar.{task_grammar}
use Rattle.sas_task_file.proofs.DueBehind.{belongs_behind, ranges_behind, is_due, HasFacts, speaks_behind_variables, standing}
use Rattle.sas_task_file.proofs.TaskLines.{one_task_line}
use Rattle.sas_task_file.proofs.WrongWords.{same_bounds}

-- ---- the bytes of lines determine the lines

pub same_items : (v u : Parts) → WellRanged v → WellRanged u → (a more b rest : List TaskLine) → task_layout v ≡ a ++ more → task_layout u ≡ b ++ rest → map task_line_bytes a ≡ map task_line_bytes b → a ≡ b
same_items v u g h a more b rest e f s =
    let x = split v g a more e in
    let y = split u h b rest f in
    (same_path task_format TaskLineFits table_node table_start task_grammar table_start x.0 y.0 a b x.1 y.1 s).items

-- ---- one thing is expected

pub one_due : OneDue
one_due begun m n d f =
    let a = standing begun m d in
    let b = standing begun n f in
    let items : a.items ≡ b.items = same_items a.task b.task a.good b.good a.items (a.item ∷ a.more) b.items (b.item ∷ b.more) a.layout b.layout (a.spells ∙ sym b.spells) in
    a.marked ∙ ap (λ (x : List TaskLine). mark_in (track tracker_start x)) items ∙ sym b.marked

pub some_due : SomeDue
some_due begun s n = (
  mark_in (track tracker_start n.before),
  is_due n.value n.good begun n.before n.item n.more n.spells n.layout,
  belongs_behind n.value n.good n.before n.item n.more n.layout ∙ n.slot,
)

-- ---- one number is wrong

-- before such a mark, all ranges are known for each task that begins with the lines
ranges_there : (begun : List (List ℕ)) (m : Mark) (d : IsDue begun m) (b : IsBegun task_format begun) → HasFacts m.due → (track tracker_start (standing begun m d).items).ranges ≡ ranges_of b.0.variables
ranges_there begun m d b h =
    let a = standing begun m d in
    let c = cut_at task_line_bytes begun b.1 (task_layout b.0) b.3 in
    let items : a.items ≡ c.before = same_items a.task b.0 a.good b.2 a.items (a.item ∷ a.more) c.before c.after a.layout c.whole (a.spells ∙ sym c.front_is) in
    let whole : task_layout b.0 ≡ a.items ++ c.after = c.whole ∙ ap (λ (x : List TaskLine). x ++ c.after) (sym items) in
    ranges_behind b.0 b.2 a.items c.after whole (speaks_behind_variables (track tracker_start a.items) (subst (λ (x : Mark). HasFacts x.due) a.marked h))

-- so it doesn't matter which task
pub same_ranges : (begun : List (List ℕ)) (m : Mark) → IsDue begun m → (a b : IsBegun task_format begun) → HasFacts m.due → ranges_of a.0.variables ≡ ranges_of b.0.variables
same_ranges begun m d a b h = sym (ranges_there begun m d a h) ∙ ranges_there begun m d b h

pub one_wrong_word : OneWrongWord
one_wrong_word begun m n line w x a b =
    let slot : slot_of_due n.due ≡ slot_of_due m.due = ap (λ (k : Mark). slot_of_due k.due) (one_due begun n m b.due a.due) in
    let item : a.shape.0 ≡ b.shape.0 = one_task_line a.shape.0 b.shape.0 (a.shape.1 ∙ sym slot ∙ sym b.shape.1) a.shape.2 b.shape.2 (a.shape.3 ∙ sym b.shape.3) in
    let ranges = ranges_of b.due.begins.0.variables in
    a.first
    ∙ ap (first_wrong 1) (same_bounds (ranges_of a.due.begins.0.variables) ranges (slot_of_due m.due) a.shape.0 a.shape.1 (same_ranges begun m a.due a.due.begins b.due.begins) ∙ ap (line_bounds ranges) item)
    ∙ sym b.first

-- ---- one reason

pub one_task_reason : OneTaskReason
one_task_reason kinds.Trailing begun found m n w x a b = (a.0 ∙ sym b.0, a.1 ∙ sym b.1)
one_task_reason kinds.Value begun found m n w x a b = (one_due begun m n a.due b.due, one_wrong_word begun m n found w x a b)
one_task_reason _ begun found m n w x a b = (one_due begun m n a.0 b.0, a.1 ∙ sym b.1)
