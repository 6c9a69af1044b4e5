-- One more name's shape is marked.
use Rattle.sas_names.proofs.Imports.{true, ◌<◌, [], length, get_or, sym, ap, ◌∙◌, inl, inr, arith, cases_eq, length-set, shape_of}
use Rattle.sas_names.proofs.NameShapes.{marks}
use Rattle.sas_names.proofs.shapes.shapes_of_steps.Goals as goal

pub loop-step-preserved : goal.loop-step-preserved
loop-step-preserved g c =
    let steps = (g.P.Stepwise.says c.args.plan.now).steps in
    let l = c.loop-step in
    let within : c.shape.result < length l.shapes.items = omega (arith, c.shape.ensures.below, l.invariant.all) in
    record {
      all = length-set l.shapes.items c.shape.result true ∙ l.invariant.all;
      each = λ k lt. marks l.shapes.items c.shape.result (shape_of (get_or steps k [])) within (elim (cases_eq k l.step) [
        | inl same ↦ inl (ap (λ j. shape_of (get_or steps j [])) same ∙ sym (c.shape.ensures.is ∙ ap shape_of c.step.ensures))
        | inr apart ↦ inr (l.invariant.each k (omega arith))
      ]);
    }
