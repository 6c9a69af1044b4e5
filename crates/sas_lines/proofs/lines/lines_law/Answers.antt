use Rattle.sas_lines.proofs.EndedLines.{are_lines, no_others}
use Rattle.sas_lines.proofs.lines.lines_law.Goals as goal

pub returns : goal.returns
returns c = record { lines = are_lines; one_way = no_others }
