use Rattle.sas_lines.proofs.Imports.{◌≡◌, take, AllDigits, digits_value}
use Rattle.sas_lines.proofs.spelling.short_number.Given as goal

abbrev pub invariant-loop-digit : goal.invariant-loop-digit
invariant-loop-digit l = AllDigits 10 (take l.digit-index l.digits) × (l.value ≡ digits_value 10 (take l.digit-index l.digits))
