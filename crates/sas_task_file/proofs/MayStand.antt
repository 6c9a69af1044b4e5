-- If a fact, a head or an effect is expected, each line of its shape with allowed numbers continues
-- a task.
use Rattle.sas_task_file.proofs.Imports.{◌≡◌, ℕ, zero, suc, List, [], ◌∷◌, ◌++◌, map, map-append, refl, sym, ap, subst, ◌∙◌, Option, Some, None, IsTrue, nat_lt, slice_index, flat_map, list_all, Fact, Parts, WellRanged, IsBegun, after_append, after_ends, and_from, Due, TaskLine, fact, effect, head, task_slot, slot_of_due, task_line_bytes, task_layout, task_format, TaskLineFits, range_in, value_in, fact_in_ranges, change_in_ranges, ranges_of, test_of_due, TaskState, table_node, table_start, state_after, row_in, Tracker, track, tracker_start, Bounded, fact_bounds, change_bounds, line_bounds}
use Rattle.sas_task_file.specs.declared.marks.Due.TheVariants as due
use Rattle.sas_task_file.proofs.DueBehind.{ranges_behind, speaks_behind_variables}
use Rattle.sas_task_file.proofs.Stretches.{Ends, LeadsOn}
use Rattle.sas_task_file.proofs.TableLines.{table_line, not_over, of_table_line, tracked}
use Rattle.sas_task_file.proofs.TaskFilling.{split}
use Rattle.sas_task_file.proofs.TaskGrammar.{task_grammar}
use Rattle.sas_task_file.proofs.WrongWords.{AllStand, HasBounds}

-- ---- allowed numbers pass the tests

range_there : (ranges : List ℕ) (var : ℕ) → slice_index ranges var ≡ range_in ranges var
range_there [] var = refl
range_there (n ∷ ranges) zero = refl
range_there (n ∷ ranges) (suc var) = range_there ranges var

module _ (ranges : List ℕ) where
  has : (var value : ℕ) → IsTrue (nat_lt value (slice_index ranges var)) → IsTrue (value_in ranges var value)
  has var value h = subst (λ (n : ℕ). IsTrue (nat_lt value n)) (range_there ranges var) h

  facts_pass : (fs : List Fact) (more : List Bounded) → AllStand (flat_map (fact_bounds ranges) fs ++ more) → IsTrue (list_all (fact_in_ranges ranges) fs) × AllStand more
  facts_pass [] more h = (refl, h)
  facts_pass (f ∷ fs) more h =
      let others = facts_pass fs more h.1.1 in
      (and_from (fact_in_ranges ranges f) (list_all (fact_in_ranges ranges) fs) (has f.var f.value h.1.0) others.0, others.1)

  change_passes : (var : ℕ) (old : Option ℕ) (new : ℕ) → AllStand (change_bounds ranges var old new) → IsTrue (change_in_ranges ranges var old new)
  change_passes var None new h = has var new h.1.1.0
  change_passes var (Some x) new h = and_from (value_in ranges var x) (value_in ranges var new) (has var x h.1.0) (has var new h.1.1.0)

  passes : (d : Due) (i : TaskLine) → task_slot i ≡ slot_of_due d → HasBounds (slot_of_due d) → AllStand (line_bounds ranges i) → IsTrue (test_of_due ranges d i)
  passes due.Fact (fact f) s b h = has f.var f.value h.1.0
  passes due.Effect (effect e) s b h =
      let conditions = facts_pass e.conditions (change_bounds ranges e.var e.old e.new) h.1 in
      and_from (list_all (fact_in_ranges ranges) e.conditions) (change_in_ranges ranges e.var e.old e.new) conditions.0 (change_passes e.var e.old e.new conditions.1)
  passes due.Head (head var old new) s b h = change_passes var old new h
  passes due.Fact _ s b h = absurd cc
  passes due.Effect _ s b h = absurd cc
  passes due.Head _ s b h = absurd cc
  passes (due.Word w) i s b h = absurd b
  passes (due.Name its) i s b h = absurd b
  passes (due.Number its least most) i s b h = absurd b
  passes due.Layer i s b h = absurd b
  passes due.Nothing i s b h = absurd b

-- ---- after the first lines of a task

-- lines that lead to a state begin a task
led_begun : (x : TaskState) (items : List TaskLine) → LeadsOn table_start items x → IsBegun task_format (map task_line_bytes items)
led_begun x items h =
    let c = task_grammar.fillable items x h in
    let s = task_grammar.sound (items ++ c.0) c.1 (after_ends task_format TaskLineFits table_node table_start x c.1 items c.0 h c.2) in
    (c.1, map task_line_bytes c.0, s.0, ap (map task_line_bytes) (sym s.1) ∙ map-append task_line_bytes items c.0)

-- so a task begins with the lines before such a line and this line
pub goes_on : (v : Parts) → WellRanged v → (begun : List (List ℕ)) (items : List TaskLine) (item : TaskLine) (more : List TaskLine) → task_layout v ≡ items ++ item ∷ more → map task_line_bytes items ≡ begun → HasBounds (task_slot item)
    → (i : TaskLine) → task_slot i ≡ task_slot item → TaskLineFits i → AllStand (line_bounds (ranges_of v.variables) i) → IsBegun task_format (begun ++ task_line_bytes i ∷ [])
goes_on v good begun items item more e spells b i s f a =
    let t = split v good items (item ∷ more) e in
    let x = t.0 in
    let Then : TaskState → Type 0 = λ y. Ends y more v in
    let u = track tracker_start items in
    let same : u ≡ x.tracker = tracked items table_start x t.1 in
    let slot : slot_of_due (row_in x.tracker).due ≡ task_slot item = sym (of_table_line x item Then t.2).0.slot in
    let bounds : HasBounds (slot_of_due (row_in x.tracker).due) = subst HasBounds (sym slot) b in
    let ranges : x.tracker.ranges ≡ ranges_of v.variables = ap (λ (w : Tracker). w.ranges) (sym same) ∙ ranges_behind v good items (item ∷ more) e (speaks_behind_variables u (subst (λ (w : Tracker). HasBounds (slot_of_due (row_in w).due)) (sym same) bounds)) in
    let all : AllStand (line_bounds x.tracker.ranges i) = subst (λ (r : List ℕ). AllStand (line_bounds r i)) (sym ranges) a in
    let pass = passes x.tracker.ranges (row_in x.tracker).due i (s ∙ sym slot) bounds all in
    let on = table_line x i (λ (y : TaskState). y ≡ state_after x i) (not_over x item Then t.2) (record { slot = s ∙ sym slot; fits = f; good = pass }) refl in
    let begins = led_begun (state_after x i) (items ++ i ∷ []) (after_append task_format TaskLineFits table_node table_start x (state_after x i) items (i ∷ []) t.1 on) in
    subst (IsBegun task_format) (map-append task_line_bytes items (i ∷ []) ∙ ap (λ (x : List (List ℕ)). x ++ task_line_bytes i ∷ []) spells) begins
