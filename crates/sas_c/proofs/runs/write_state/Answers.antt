-- What is returned of the state is returned of what was found.
use Rattle.sas_c.proofs.Imports.{◌≡◌, ℕ, Bool, List, Option, Some, sym, ap, subst, ◌∙◌}
use Rattle.sas_plan_reasons.specs.StateBehind.{IsStateBehind}
use Rattle.sas_c.proofs.FoundStates.{state_by}
use Rattle.sas_c.proofs.runs.write_state.Goals as goal

pub returns-in-Some-clause-state : goal.returns-in-Some-clause-state
returns-in-Some-clause-state c =
    let run = c.args.run.now in
    let Found : Option (List ℕ × Bool) → Type 0 = IsStateBehind c.args.loaded.now run.start.now run.operators.now in
    let behind : Found (Some (c.in-Some.state, c.in-Some.all)) = rw c.in-Some.is at c.in-Ok.ensures.state in
    state_by (λ found. found ≡ Some (c.values.result.now, c.in-Some.all)) Found
    (λ found is. subst Found (sym (is ∙ ap (λ (s : List ℕ). Some (s, c.in-Some.all)) c.values.ensures)) behind) _ _ _ _ c.tell_values-number.ensures
