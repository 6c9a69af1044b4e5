-- Each field has the contract of the call that returned it.
use Rattle.sas_mutex.proofs.Imports.{ℕ, List, subst, AreByFact}
use Rattle.sas_mutex.proofs.index.Index.new.Goals as goal

pub returns : goal.returns
returns g c =
    let p = c.args.task.now in
    let groups = subst (λ (numbers : List ℕ). AreByFact p numbers c.in_ok-groups.groups) c.as_slice.ensures.value c.in_ok-groups.ensures in
    record {
      ranged = c.variables.ensures.well_ranged;
      firsts = c.in_ok-facts.ensures.firsts;
      groups = groups.are;
      larger = c.in_ok-larger.ensures;
      facts = c.in_ok-own_facts.ensures;
      runs = c.in_ok-runs.ensures;
      effects = c.in_ok-effects.ensures;
    }
