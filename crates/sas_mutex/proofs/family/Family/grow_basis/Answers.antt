-- One more group is added to the basis.
use Rattle.sas_mutex.proofs.Imports.{arith, refl}
use Rattle.sas_mutex.proofs.Supporting.{same_grown, grown_then}
use Rattle.sas_mutex.proofs.family.Family.grow_basis.Goals as goal

pub loop-group-init : goal.loop-group-init
loop-group-init c = record { grown = same_grown c.args.self.now; excluding = refl }

pub loop-group-preserved : goal.loop-group-preserved
loop-group-preserved c = search (arith, grown_then)

pub returns : goal.returns
returns c = record { grown = c.loop-group.invariant.grown; excluding = c.loop-group.invariant.excluding }
