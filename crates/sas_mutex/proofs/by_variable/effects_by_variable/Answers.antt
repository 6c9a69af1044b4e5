-- One more operator is processed. In the end all large operators have entries.
use Rattle.sas_mutex.proofs.Imports.{◌≡◌, length, sym, ap, subst, ◌∙◌, arith, IfOk-weaker, by_key, length-table, AreByVariable}
use Rattle.sas_mutex.proofs.ByVariable.{AreLargeEntered, large_entered, small_passed, large_by_variable}
use Rattle.sas_mutex.proofs.by_variable.effects_by_variable.Goals as goal
use Rattle.sas_mutex.proofs.by_variable.effects_by_variable.Goals.{then-effects-gt-FEW_EFFECTS+in_ok-enter_effects, else-effects-gt-FEW_EFFECTS}

pub loop-operator-preserved : goal.loop-operator-preserved
loop-operator-preserved g c =
    let p = c.args.layered.now in
    let places = c.number_of_places-places.result in
    let operator = c.loop-operator.operator in
    let before = c.loop-operator.entries.items in
    let inv = c.loop-operator.invariant in
    let count = (rw c.task-task.ensures.task at c.effects.ensures) in
    elim c.if-effects-gt-FEW_EFFECTS.branch [
      | then-effects-gt-FEW_EFFECTS+in_ok-enter_effects w ↦ rw (w.entries-is) record {
        low = w.in_ok-enter_effects.ensures.low;
        entered = large_entered p places operator before w.enter_effects.new.entries.items inv.entered w.in_ok-enter_effects.ensures.entered;
      }
      | else-effects-gt-FEW_EFFECTS w ↦ rw (w.entries-is) record {
        low = inv.low;
        entered = small_passed p places operator before inv.entered (λ large. absurd (let few = w.if-effects-gt-FEW_EFFECTS.false in omega (arith, count)));
      }
    ]

pub returns : goal.returns
returns g c =
    let p = c.args.layered.now in
    let places = c.number_of_places-places.result in
    let entries = c.loop-operator.entries.items in
    let done : c.loop-operator.operator ≡ length p.operators = let count = (rw c.task-task.ensures.task at c.operators-operator-end.ensures) in omega (arith, count) in
    let entered : AreLargeEntered p places (length p.operators) entries = rw done at c.loop-operator.invariant.entered in
    let all : AreByVariable p (by_key entries places) =
    large_by_variable p places entries c.number_of_places-places.ensures (length-table places _) c.loop-operator.invariant.low entered in
    IfOk-weaker c.by_key.result (λ lists. lists ≡ by_key c.as_slice.result.now places) (AreByVariable p)
    (λ lists is. subst (AreByVariable p) (sym (is ∙ ap (λ es. by_key es places) c.as_slice.ensures.value)) all)
    c.by_key.ensures
