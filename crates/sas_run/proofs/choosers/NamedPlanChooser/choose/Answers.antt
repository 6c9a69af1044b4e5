-- The first chosen operator from the lowest of the step's name on.
use Rattle.sas_run.proofs.Imports.{◌∙◌, get_or, sym, subst, arith, IsNextNamed, IsChain}
use Rattle.sas_run.proofs.NamedAlike.{exists_as, found_from, none_from}
use Rattle.sas_run.proofs.choosers.NamedPlanChooser.choose.Goals as goal

pub later_applicable-requires-clause-chain : goal.later_applicable-requires-clause-chain
later_applicable-requires-clause-chain g c =
    let p = c.args.task.now in
    let named = c.args.self.now in
    let ready = c.requires.ready.names in
    let first = exists_as p (get_or named.firsts.now c.args.step 0) c.in-Some.first (sym c.existing.ensures ∙ c.in-Some.is) in
    subst (λ o. IsChain p o named.nexts.now) first.0 (ready.chains c.args.step
    (omega (arith, c.requires.step, ready.firsts.one_each)) first.1)

pub returns-in-Some-later_applicable-clause-means : goal.returns-in-Some-later_applicable-clause-means
returns-in-Some-later_applicable-clause-means g c =
    let p = c.args.task.now in
    let low = c.requires.ready.names.firsts.each c.args.step c.requires.step in
    found_from p c.args.state.now _ c.in-Some.first (subst (IsNextNamed p _ 0) (sym c.existing.ensures ∙ c.in-Some.is) low)
    c.in-Some-later_applicable.operator (rw c.in-Some-later_applicable.is at c.later_applicable.ensures)

pub returns-in-None-clause-means : goal.returns-in-None-clause-means
returns-in-None-clause-means g c =
    let p = c.args.task.now in
    let low = c.requires.ready.names.firsts.each c.args.step c.requires.step in
    none_from p c.args.state.now _ c.in-Some.first (subst (IsNextNamed p _ 0) (sym c.existing.ensures ∙ c.in-Some.is) low)
    (rw c.in-None.is at c.later_applicable.ensures)
