-- The first operator of the two lists is tested, until one is applicable or none is left.
use Rattle.sas_run.proofs.Imports.{sym, ◌∙◌, true≢false}
use Rattle.sas_run.proofs.LongSearch.{starts, goes_on, chosen}
use Rattle.sas_run.proofs.long_chains.LongChains.later_applicable.Goals as goal

pub loop-next-init : goal.loop-next-init
loop-next-init g c = record {
  left = starts c.args.task.now c.args.state.now c.args.first c.in-Some.chain.now _ _ _ _ _ (c.requires.long.each c.args.first c.in-Some.chain.now (sym c.in-Some.ensures.value))
      c.value.ensures c.with-same.ensures c.with.ensures c.lower_first-lists.ensures.lists;
  lower = c.lower_first-lists.ensures.lower;
}

pub returns-then-is_applicable : goal.returns-then-is_applicable
returns-then-is_applicable g c =
    let l = c.loop-next.invariant in
    chosen c.args.task.now c.args.state.now c.args.first _ _ c.in-Some-split_first.rest.now _ c.in-Some-split_first.ensures.cases.0 l.left l.lower (c.is_applicable.ensures.0 c.if-is_applicable.true)

pub loop-next-preserved : goal.loop-next-preserved
loop-next-preserved g c = record {
  left = goes_on c.args.task.now c.args.state.now c.args.first _ _ c.in-Some-split_first.rest.now _ c.in-Some-split_first.ensures.cases.0 c.loop-next.invariant.left _ _
      (λ can. true≢false (sym (c.is_applicable.ensures.1 can) ∙ c.if-is_applicable.false)) c.lower_first-lists-in-Some-split_first.ensures.lists;
  lower = c.lower_first-lists-in-Some-split_first.ensures.lower;
}
