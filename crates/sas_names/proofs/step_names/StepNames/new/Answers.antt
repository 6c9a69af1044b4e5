-- One more name is numbered.
use Rattle.sas_names.proofs.Imports.{◌≡◌, [], ◌∷◌, ◌++◌, length, get_or, Some, sym, ap, ◌∙◌, inl, inr, arith, cases_lt, get_or_append_left, get_or_push, length-append, value_of, step_names}
use Rattle.sas_names.proofs.step_names.StepNames.new.Goals as goal

pub loop-step-preserved : goal.loop-step-preserved
loop-step-preserved g c =
    let steps = (g.P.Stepwise.says c.args.plan.now).steps in
    let old = c.loop-step.names.of_steps.items in
    let inv = c.loop-step.invariant in
    let number = c.in_ok-number.number in
    let made = c.in_ok-number.ensures in
    let items : c.push.new.self.items ≡ old ++ number ∷ [] = rw c.unwrap.ensures at c.push.ensures.items in
    rw items record {
      one_each = omega (arith, inv.one_each, length-append old (number ∷ []));
      numbers = made.numbers;
      each = λ step lt. elim (cases_lt step (length old)) [
        | inl before ↦ made.kept (step_names steps step) (get_or old step 0) (inv.each step before) ∙ ap Some (sym (get_or_append_left old (number ∷ []) 0 step before))
        | inr late ↦
            let at : length old ≡ step = omega (arith, lt, length-append old (number ∷ [])) in
            ap (λ k. value_of (step_names steps) c.next_number.new.numbers (step_names steps k)) (sym at ∙ ap length (sym c.as_slice.ensures.value))
            ∙ (made.is ∙ ap Some (sym (get_or_push old number 0 step at)))
      ];
      shapes = inv.shapes;
      room = omega (arith, inv.room, c.push.ensures.capacity);
    }
