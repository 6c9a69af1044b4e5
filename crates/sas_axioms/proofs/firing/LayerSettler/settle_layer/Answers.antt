-- On a layer with only defaults, no rule has fired yet.
use Rattle.sas_axioms.proofs.Imports.{arith}
use Rattle.sas_axioms.proofs.Counters.{running_at_default}
use Rattle.sas_axioms.proofs.Sources.{given_at_default}
use Rattle.sas_axioms.proofs.firing.LayerSettler.settle_layer.Goals as goal

pub fire_ready-requires-clause-at_rest : goal.fire_ready-requires-clause-at_rest
fire_ready-requires-clause-at_rest g c = search (arith, running_at_default, given_at_default)

pub returns-clause-counts : goal.returns-clause-counts
returns-clause-counts g c = let is = c.fire_ready.ensures.at_rest.at_work in record { one_each = is.firing.room.one_each; known = is.firing.running.state.one_each; exact = is.counts }
