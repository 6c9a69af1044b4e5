-- All operators were looked at.
use Rattle.sas_mutex.proofs.Imports.{length, refl, arith}
use Rattle.sas_mutex.proofs.VerdictsSoFar.{so_far_at_first, no_failures, joint_in_the_end}
use Rattle.sas_mutex.proofs.joint.find_breaking.Goals as goal

pub loop-operator-init : goal.loop-operator-init
loop-operator-init g c =
    let p = c.args.indexed.now in
    let found = c.args.found.now in
    record {
      verdicts = record {
        greatest = c.requires.greatest;
        so_far = so_far_at_first p c.args.keeping.now.family.kept found.verdicts c.requires.first;
        failures = no_failures p found.verdicts found.failures c.requires.first;
      };
      as_many = refl;
      idle = c.requires.idle;
    }

pub returns : goal.returns
returns g c = search (arith, length, joint_in_the_end)
