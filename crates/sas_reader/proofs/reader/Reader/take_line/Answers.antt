use Rattle.std.proofs.lemmas.Grind.{common_steps}
use Rattle.sas_reader.proofs.Imports.{◌≤◌, ◌+◌, ◌∙◌, length, refl, ap, sym, arith, false≢true}
use Rattle.sas_reader.proofs.Advancing.{takes, stops, takes_some, took_whole, stopped_whole, stopped_full, stopped_over, advances_wider, within_fits, within_none}
use Rattle.sas_reader.proofs.Pieces.{takes_bound}
use Rattle.sas_reader.proofs.Tested.{nil_when, some_when}
use Rattle.sas_reader.proofs.reader.Reader.take_line.Goals as goal

pub returns-then-is_empty-clause-advances : goal.returns-then-is_empty-clause-advances
returns-then-is_empty-clause-advances g c =
    let none = ap length (nil_when _ _ c.is_empty.ensures c.if-is_empty.true) in
    stops g.M.Machine.behavior _ _ _ _ refl refl (stopped_full g.M.Machine.behavior c.args.self.now c.args.piece.now c.requires.some (within_none _ _ c.args.piece.now _ c.within_limit-within.ensures c.args.self.now.within c.requires.some none))

pub returns-then-has_ended-clause-advances : goal.returns-then-has_ended-clause-advances
returns-then-has_ended-clause-advances g c =
    let front = c.within_limit-within.result.now in
    let some = some_when _ _ c.is_empty.ensures c.if-is_empty.false in
    let fits : c.args.self.now.taken + length c.within_limit-within.result.now ≤ c.args.self.now.limit = within_fits _ _ c.args.piece.now _ c.within_limit-within.ensures c.args.self.now.within in
    advances_wider g.M.Machine.behavior c.args.self.now _ c.args.piece.now front _ _ c.within_limit-within.ensures (stops g.M.Machine.behavior _ _ _ _ refl refl (stopped_over g.M.Machine.behavior c.args.self.now _ front some (omega (arith, some, fits)) (c.if-has_ended.ensures.0 refl) refl refl c.of-self.ensures))

pub returns-then-not-is_empty-clause-advances : goal.returns-then-not-is_empty-clause-advances
returns-then-not-is_empty-clause-advances g c = advances_wider g.M.Machine.behavior _ _ c.args.piece.now _ _ c.take_cut_line.result c.within_limit-within.ensures c.take_cut_line.ensures.advances

pub returns-in_default-clause-advances : goal.returns-in_default-clause-advances
returns-in_default-clause-advances g c = advances_wider g.M.Machine.behavior _ _ c.args.piece.now _ _ c.take_cut_line-in_default.result c.within_limit-within.ensures c.take_cut_line-in_default.ensures.advances

pub returns-in-Err-clause-advances : goal.returns-in-Err-clause-advances
returns-in-Err-clause-advances g c =
    let front = c.within_limit-within.result.now in
    let some = some_when _ _ c.is_empty.ensures c.if-is_empty.false in
    let nothing = sym c.pending.ensures ∙ nil_when _ _ c.is_empty-2.ensures c.if-not-is_empty.false in
    let fits = within_fits _ _ c.args.piece.now front c.within_limit-within.ensures c.args.self.now.within in
    advances_wider g.M.Machine.behavior c.args.self.now _ c.args.piece.now front _ _ c.within_limit-within.ensures (stops g.M.Machine.behavior _ _ _ _ refl refl (stopped_whole g.M.Machine.behavior c.args.self.now _ front c.in-Some.first.line.now c.in-Some.first.taken c.in-Err.kind
    some (λ d. false≢true (c.if-has_ended.ensures.1 d)) nothing c.in-Some.ensures.some fits c.in-Err.ensures.kind c.in-Err.ensures.rejects c.in-Err.ensures.stopped c.of-self-in-Err.ensures refl))

pub returns-in-Ok-clause-advances : goal.returns-in-Ok-clause-advances
returns-in-Ok-clause-advances g c =
    let front = c.within_limit-within.result.now in
    let nothing = sym c.pending.ensures ∙ nil_when _ _ c.is_empty-2.ensures c.if-not-is_empty.false in
    advances_wider g.M.Machine.behavior c.args.self.now _ c.args.piece.now front _ _ c.within_limit-within.ensures (takes g.M.Machine.behavior _ _ _ _ refl refl (took_whole g.M.Machine.behavior c.args.self.now _ front c.in-Some.first.line.now c.in-Some.first.taken nothing c.in-Some.ensures.some c.in-Ok.ensures.led refl refl refl))

pub overflow_add-self-in-Ok : goal.overflow_add-self-in-Ok
overflow_add-self-in-Ok g c = grind (arith, common_steps, within_fits, takes_bound)

pub invariant_of-self-in-Ok : goal.invariant_of-self-in-Ok
invariant_of-self-in-Ok g c = grind (arith, common_steps, within_fits, takes_bound, takes_some, some_when)

pub take_cut_line-requires-clause-room : goal.take_cut_line-requires-clause-room
take_cut_line-requires-clause-room g c = grind (arith, common_steps)

pub take_cut_line-requires-in_default-clause-room : goal.take_cut_line-requires-in_default-clause-room
take_cut_line-requires-in_default-clause-room g c = grind (arith, common_steps)

pub overflow_add-self-in-Ok-2 : goal.overflow_add-self-in-Ok-2
overflow_add-self-in-Ok-2 g c = grind (arith, common_steps)
