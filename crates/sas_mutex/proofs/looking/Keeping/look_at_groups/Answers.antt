-- The effect was looked at for one more group, and in the end for all groups that contain the fact.
use Rattle.sas_mutex.proofs.Imports.{ℕ, get_or, inl, inr, arith, sym, ◌∙◌, ap, and_parts, cases_eq, Contains-get_or, common_steps}
use Rattle.sas_mutex.proofs.LookedAt.{looked_none, looked_then, looked_all}
use Rattle.sas_mutex.proofs.looking.Keeping.look_at_groups.Goals as goal

pub look_at_group-alone-requires-clause-group : goal.look_at_group-alone-requires-clause-group
look_at_group-alone-requires-clause-group g c = ((c.groups-groups.ensures _).0 (Contains-get_or c.groups-groups.result.now c.loop-group.group-index 0 c.loop-group-test.true)).exists

pub look_at_group-alone-requires-clause-has : goal.look_at_group-alone-requires-clause-has
look_at_group-alone-requires-clause-has g c = ((c.groups-groups.ensures _).0 (Contains-get_or c.groups-groups.result.now c.loop-group.group-index 0 c.loop-group-test.true)).among

pub loop-group-init : goal.loop-group-init
loop-group-init g c = grind (arith, common_steps, looked_none)

pub loop-group-preserved : goal.loop-group-preserved
loop-group-preserved g c =
    let index = c.loop-group.group-index in
    record {
      looked = looked_then c.loop-group.invariant.looked c.look_at_group-alone.ensures.looked
          (λ effect place (is, k, lt, at). elim (cases_eq k index) [
            | inl e ↦ inr (is, sym at ∙ ap (λ (n : ℕ). get_or c.groups-groups.result.now n 0) e)
            | inr ne ↦ inl (is, k, omega arith, at)
          ])
          (and_parts c.loop-group.alone c.look_at_group-alone.result);
      at_effect = c.look_at_group-alone.ensures.at_effect;
    }

pub returns-clause-looked : goal.returns-clause-looked
returns-clause-looked g c =
    let f = c.args.firing.now in
    let groups = c.groups-groups.result.now in
    looked_all f.effect groups c.loop-group.group-index
    (λ place has. (c.groups-groups.ensures place).1 has) (omega (arith, c.loop-group-test.false)) c.loop-group.invariant.looked
