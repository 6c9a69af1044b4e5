use Rattle.std.proofs.lemmas.Grind.{common_steps}
use Rattle.sas_reader.proofs.Imports.{arith}
use Rattle.sas_reader.proofs.Advancing.{advances_wider}
use Rattle.sas_reader.proofs.reader.Reader.take_fronts.Goals as goal

pub returns-then-not-is_empty : goal.returns-then-not-is_empty
returns-then-not-is_empty g c = grind (arith, common_steps)

pub returns-then-ends_with_return : goal.returns-then-ends_with_return
returns-then-ends_with_return g c = advances_wider g.M.Machine.behavior c.args.self.now _ c.args.piece.now c.within_limit-within.result.now _ c.take_fronts_ended.result c.within_limit-within.ensures c.take_fronts_ended.ensures

pub returns-else-ends_with_return : goal.returns-else-ends_with_return
returns-else-ends_with_return g c = advances_wider g.M.Machine.behavior c.args.self.now _ c.args.piece.now c.within_limit-within.result.now _ c.take_fronts_ended-else-ends_with_return.result c.within_limit-within.ensures c.take_fronts_ended-else-ends_with_return.ensures

pub take_fronts_ended-requires-clause-room : goal.take_fronts_ended-requires-clause-room
take_fronts_ended-requires-clause-room g c = grind (arith, common_steps)

pub take_fronts_ended-requires-clause-whole : goal.take_fronts_ended-requires-clause-whole
take_fronts_ended-requires-clause-whole g c = grind (arith, common_steps)

pub take_fronts_ended-requires-else-ends_with_return-clause-room : goal.take_fronts_ended-requires-else-ends_with_return-clause-room
take_fronts_ended-requires-else-ends_with_return-clause-room g c = grind (arith, common_steps)

pub take_fronts_ended-requires-else-ends_with_return-clause-whole : goal.take_fronts_ended-requires-else-ends_with_return-clause-whole
take_fronts_ended-requires-else-ends_with_return-clause-whole g c = grind (arith, common_steps)
