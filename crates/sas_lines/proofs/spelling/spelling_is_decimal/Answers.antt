use Rattle.sas_lines.proofs.Imports.{arith, decimal_digit, decimal_step_wide}
use Rattle.sas_lines.proofs.spelling.spelling_is_decimal.Goals as goal

pub returns : goal.returns
returns c = (decimal_digit, λ n low high. decimal_step_wide n low (omega arith))
