use Rattle.sas_task_reader.proofs.Imports.{ℕ, Some, refl, sym, ap, variable, operator, effect_with}
use Rattle.sas_task_reader.proofs.fronts.section_front.Goals as goal

pub returns-in-Some-clause-found : goal.returns-in-Some-clause-found
returns-in-Some-clause-found g c =
    let found = c.in-Some.found in
    let (values, is, many, ahead) = rw c.in-Some.is at c.in_ok-found-in-Variable.ensures.found in
    rw c.in-Variable.is (variable found.name.now found.layer values, (ahead, ap (λ (n : ℕ). Some n) (sym many)))

pub returns-in-Some-2-clause-found : goal.returns-in-Some-2-clause-found
returns-in-Some-2-clause-found g c =
    let (facts, is, ahead) = rw c.in-Some-2.is at c.in_ok-front-in-Group.ensures.found in
    rw (c.in-Group.is, c.of.ensures) (facts, (ahead, refl))

pub returns-in-Some-3-clause-found : goal.returns-in-Some-3-clause-found
returns-in-Some-3-clause-found g c =
    let found = c.in-Some-3.found in
    let (prevail, effects, is_prevail, are_effects, ahead) = rw c.in-Some-3.is at c.in_ok-found-in-Operator.ensures.found in
    rw (c.in-Operator.is, c.of-in-Some-3.ensures) (operator found.name.now prevail effects found.cost, (ahead, refl))

pub returns-in-Some-4-clause-found : goal.returns-in-Some-4-clause-found
returns-in-Some-4-clause-found g c =
    let (facts, is, ahead) = rw c.in-Some-4.is at c.in_ok-found-in-Rule.ensures.found in
    rw (c.in-Rule.is, c.of-in-Some-4.ensures) (effect_with c.in-Some-4.found.head facts, (ahead, refl))
