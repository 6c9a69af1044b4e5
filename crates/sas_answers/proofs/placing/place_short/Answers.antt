use Rattle.sas_answers.proofs.Imports.{arith, length-set}
use Rattle.sas_answers.proofs.Placed.{one_digit_placed, two_digits_placed}
use Rattle.sas_answers.proofs.placing.place_short.Goals as goal

pub returns-then-number-lt10 : goal.returns-then-number-lt10
returns-then-number-lt10 c = record { as_long = simp length-set; places = one_digit_placed _ _ _ (omega arith) c.if-number-lt10.true }

pub returns : goal.returns
returns c = record { as_long = simp length-set; places = two_digits_placed _ _ _ (omega arith) c.if-number-lt10.false c.requires.short }
