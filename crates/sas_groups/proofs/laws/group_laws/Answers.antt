-- Each law is a lemma.
use Rattle.sas_groups.proofs.Imports.{arith}
use Rattle.sas_groups.proofs.Invariance.{jointly_kept_is_invariant, exclusive_alone_is_invariant, exclusive_jointly_is_invariant}
use Rattle.sas_groups.proofs.GreatestFamily.{families_unite, greatest_is_one, greatest_has_alone, outside_is_broken}
use Rattle.sas_groups.proofs.JointVerdicts.{greatest_exists, joint_verdict_is_one, some_joint_verdict}
use Rattle.sas_groups.proofs.laws.group_laws.Goals as goal

pub returns : goal.returns
returns c = search (arith, jointly_kept_is_invariant, exclusive_alone_is_invariant, exclusive_jointly_is_invariant, families_unite, greatest_exists, greatest_is_one, greatest_has_alone, outside_is_broken, joint_verdict_is_one, some_joint_verdict)
