use Rattle.sas_lines.proofs.Imports.{arith}
use Rattle.sas_lines.proofs.Digits.{is_short}
use Rattle.sas_lines.proofs.spelling.number.Goals as goal

pub returns-then-line-gt10-clause-none : goal.returns-then-line-gt10-clause-none
returns-then-line-gt10-clause-none c = λ n h e. omega (arith, is_short c.args.line.now n 10 (omega arith) (omega arith) (omega arith) e)
