-- Where no fact is on a derived variable, or no two different ones hold, the verdict is another one.
use Rattle.std.proofs.lemmas.Grind.{common_steps}
use Rattle.std.proofs.lemmas.Grind.{elements}
use Rattle.sas_task_reasons.proofs.Imports.{arith, Option, IsSomeAnd, Failure, FailsFirst, ◌≡◌, ◌<◌, ◌==◌, None, List, length, sym, subst, ◌∙◌, All, ◌&&◌, find, not, is_some, Fact, fact_within, group_facts, holds, layer_of}
use Rattle.sas_task_reasons.proofs.GroupReasons.{all_basic, exclusive_without, exclusive_beside}
use Rattle.sas_task_reasons.proofs.reasons.reason_of.Goals as goal
use Rattle.sas_task_reasons.proofs.reasons.reason_of.Given.{Over}
use Rattle.sas_task_reasons.proofs.reasons.reason_of.Goals.{After-branch-failure}

pub first_initial-requires : goal.first_initial-requires
first_initial-requires g c =
    let p = c.args.task.now in
    subst (All (λ (f : Fact). f.var < length p.variables)) (sym (rw c.task.ensures.task at c.group-facts.ensures)) (λ k d lt. fact_within p _ _ (group_facts p c.task.ensures.well_ranged c.args.group c.requires.group k d lt))

pub first_beside-requires : goal.first_beside-requires
first_beside-requires g c =
    let p = c.args.task.now in
    subst (All (λ (f : Fact). f.var < length p.variables)) (sym (rw c.task.ensures.task at c.group-facts.ensures)) (λ k d lt. fact_within p _ _ (group_facts p c.task.ensures.well_ranged c.args.group c.requires.group k d lt))

pub returns-in_err-fact-in-Derived : goal.returns-in_err-fact-in-Derived
returns-in_err-fact-in-Derived g c =
    let p = c.args.task.now in
    absurd ((rw c.in-Derived.is at c.requires.joint) (all_basic p _ (subst (λ (facts : List Fact). find (λ (f : Fact). is_some (layer_of p.variables f.var)) facts ≡ None)
    (rw c.task.ensures.task at c.group-facts.ensures) (sym c.first_derived.ensures ∙ c.in_err-fact-in-Derived.was))))

pub returns-in_err-first-in-Initial : goal.returns-in_err-first-in-Initial
returns-in_err-first-in-Initial g c =
    let s = c.args.task.now.init in
    absurd ((rw c.in-Initial.is at c.requires.joint).1 (exclusive_without s _ (subst (λ (facts : List Fact). find (holds s) facts ≡ None)
    (rw c.task.ensures.task at c.group-facts.ensures) (sym c.first_initial.ensures ∙ c.in_err-first-in-Initial.was))))

pub returns-in_err-second-in-Initial : goal.returns-in_err-second-in-Initial
returns-in_err-second-in-Initial g c =
    let s = c.args.task.now.init in
    let var = c.in_ok-first-in-Initial.first.var in
    absurd ((rw c.in-Initial.is at c.requires.joint).1 (exclusive_beside s _ var (subst (λ (facts : List Fact). find (λ (f : Fact). holds s f && not (f.var == var)) facts ≡ None)
    (rw c.task.ensures.task at c.group-facts.ensures) (sym c.first_beside.ensures ∙ c.in_err-second-in-Initial.was))))

pub first_derived-requires : goal.first_derived-requires
first_derived-requires g c = grind (arith, elements)

pub returns-in_ok-second-in-Initial : goal.returns-in_ok-second-in-Initial
returns-in_ok-second-in-Initial g c = grind (arith, common_steps)

-- a failure of the operator that breaks the group was noted
noted : (g : Over) (c : After-branch-failure g) → IsSomeAnd c.args.failure (FailsFirst c.args.task.now c.args.group c.in-Broken.operator)
noted g c = c.requires.failure c.in-Broken.operator c.in-Broken.is

pub returns-in_err-failure-in-Broken : goal.returns-in_err-failure-in-Broken
returns-in_err-failure-in-Broken g c =
    absurd (subst (λ (found : Option Failure). IsSomeAnd found (FailsFirst c.args.task.now c.args.group c.in-Broken.operator)) c.in_err-failure-in-Broken.was
    (noted g (goal.at.returns-in_err-failure-in-Broken g c).After-branch-failure))

pub returns-in_ok-failure-in-Broken : goal.returns-in_ok-failure-in-Broken
returns-in_ok-failure-in-Broken g c = record {
  of = c.in-Broken.is;
  says = subst (λ (found : Option Failure). IsSomeAnd found (FailsFirst c.args.task.now c.args.group c.in-Broken.operator)) c.in_ok-failure-in-Broken.was
      (noted g (goal.at.returns-in_ok-failure-in-Broken g c).After-branch-failure);
}
