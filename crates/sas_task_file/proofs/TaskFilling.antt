-- Lines that begin a task can be completed by fillings, in exactly one way.
use Rattle.std.proofs.lemmas.Grind.{common_steps}
use Rattle.sas_task_file.proofs.Imports.{◌≡◌, List, [], ◌∷◌, ◌++◌, sym, ap, subst, ◌∙◌, arith, Option, None, Some, codes, decimal, decimal_digit, Parts, cut_at, ends_split, after_ends, same_path, one_ended, ended_stops, TaskLine, TaskSlot, task_slot, task_line_bytes, task_layout, task_format, TaskLineFits, TaskState, table_node, table_start, state_after, filling, FillingsInBytes, last_slot, AreFillings, TaskIsFilled, OneCompletion}
use Rattle.sas_task_file.proofs.Stretches.{Ends, LeadsOn}
use Rattle.sas_task_file.proofs.TableLines.{of_table_line}
use Rattle.sas_task_file.proofs.Fills.{fill, led, start_led}
use Rattle.sas_task_file.proofs.TaskGrammar.{task_grammar}

-- where the first lines of a task lead, and the other lines from there
pub split : (v : Parts) → task_format.texts.Good v → (before more : List TaskLine) → task_layout v ≡ before ++ more → (x : TaskState) × LeadsOn table_start before x × Ends x more v
split v good before more e = ends_split task_format TaskLineFits table_node table_start v before more (subst (λ (x : List TaskLine). Ends table_start x v) e (task_grammar.complete v good))

pub task_is_filled : TaskIsFilled
task_is_filled begun b =
    let c = cut_at task_line_bytes begun b.1 (task_layout b.0) b.3 in
    let t = split b.0 b.2 c.before c.after c.whole in
    let f = fill (last_slot None c.before) t.0 (led None table_start t.0 c.before start_led t.1) in
    let s = task_grammar.sound (c.before ++ f.items) f.parts (after_ends task_format TaskLineFits table_node table_start t.0 f.parts c.before f.items t.1 f.ends) in
    record { parts = f.parts; before = c.before; fillings = f.items; good = s.0; layout = sym s.1; spells = c.front_is; filled = f.filled }

-- ---- in one way

same_end : (x : TaskState) (b : Option TaskSlot) (is js : List TaskLine) (v w : Parts) → Ends x is v → Ends x js w → AreFillings b is → AreFillings b js → v ≡ w
same_end x b [] [] v w e f g h = one_ended {T = TaskState} {I = TaskLine} {S = TaskSlot} v w (sym e ∙ f)
same_end x b [] (j ∷ js) v w e f g h = absurd (ended_stops task_format TaskLineFits (table_node x) v j (λ (y : TaskState). Ends y js w) e f)
same_end x b (i ∷ is) [] v w e f g h = absurd (ended_stops task_format TaskLineFits (table_node x) w i (λ (y : TaskState). Ends y is v) f e)
same_end x b (i ∷ is) (j ∷ js) v w e f g h =
    let s = of_table_line x i (λ (y : TaskState). Ends y is v) e in
    let t = of_table_line x j (λ (y : TaskState). Ends y js w) f in
    let line : j ≡ i = h.0 ∙ ap (filling b) (t.0.slot ∙ sym s.0.slot) ∙ sym g.0 in
    same_end (state_after x i) (Some (task_slot i)) is js v w s.1 (subst (λ (k : TaskLine). Ends (state_after x k) js w) line t.1) g.1 (subst (λ (k : TaskLine). AreFillings (Some (task_slot k)) js) line h.1)

pub one_completion : OneCompletion
one_completion begun c d =
    let s = split c.parts c.good c.before c.fillings c.layout in
    let t = split d.parts d.good d.before d.fillings d.layout in
    let same = same_path task_format TaskLineFits table_node table_start task_grammar table_start s.0 t.0 c.before d.before s.1 t.1 (c.spells ∙ sym d.spells) in
    same_end s.0 (last_slot None c.before) c.fillings d.fillings c.parts d.parts s.2
    (subst (λ (x : TaskState). Ends x d.fillings d.parts) (sym same.state) t.2) c.filled
    (subst (λ (is : List TaskLine). AreFillings (last_slot None is) d.fillings) (sym same.items) d.filled)

-- ---- their bytes

zero_digit : decimal 0 ≡ codes "0"
zero_digit = decimal_digit 0 (omega arith)

pub fillings_in_bytes : (b : Option TaskSlot) → FillingsInBytes b
fillings_in_bytes b = grind (arith, common_steps, zero_digit)
