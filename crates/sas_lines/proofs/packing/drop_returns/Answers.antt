use Rattle.sas_lines.proofs.Imports.{sym}
use Rattle.sas_lines.proofs.Returns.{returns_gone}
use Rattle.sas_lines.proofs.packing.drop_returns.Goals as goal

pub returns-in_default : goal.returns-in_default
returns-in_default c = sym (returns_gone c.args.text.now.items (rw c.as_slice.ensures.value at c.in_default.ensures))
