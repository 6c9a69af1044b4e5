-- If no more groups were removed, the operator is at rest.
use Rattle.sas_mutex.proofs.Imports.{ℕ, ◌≡◌, length, sym, subst, arith, Vec, IsOfNone, Falls}
use Rattle.sas_mutex.proofs.FallingGroups.{falls_then, none_newly}
use Rattle.sas_mutex.proofs.LookedAt.{rests_on}
use Rattle.sas_mutex.proofs.Supporting.{none_are, same_falls, same_room, same_excluding}
use Rattle.sas_mutex.proofs.greatest.look_until_quiet.Goals as goal
use Rattle.sas_mutex.proofs.greatest.look_until_quiet.Given.{Over}
use Rattle.sas_mutex.proofs.greatest.look_until_quiet.Goals.{After-look_at-alone}

pub look_at-alone-requires-clause-idle : goal.look_at-alone-requires-clause-idle
look_at-alone-requires-clause-idle g c =
    let turn = c.clear_basis.ensures in
    let idle = c.loop-operator.invariant.idle in
    let basis = none_are (length c.args.indexed.now.groups) c.clear_basis.new.self (subst (λ n. IsOfNone n c.clear_basis.new.self.basis) idle.room.basis.one_each turn.basis) turn.none in
    let excluding = same_excluding c.args.indexed.now c.loop-operator.keeping.family c.clear_basis.new.self turn.excluding idle.room in
    record { room = same_room c.args.indexed.now c.loop-operator.keeping.family c.clear_basis.new.self turn.kept turn.fallen basis excluding idle.room; clean = idle.clean }

-- what fell in this turn, and before
falls : (g : Over) (c : After-look_at-alone g) → Falls c.args.indexed.now c.loop-operator.keeping.family c.look_at-alone.new.self.family
falls g c = falls_then
    (same_falls c.args.indexed.now c.loop-operator.keeping.family c.clear_basis.new.self c.clear_basis.ensures.kept c.clear_basis.ensures.fallen) c.look_at-alone.ensures.looked.falls

pub returns-then-len-before-clause-falls : goal.returns-then-len-before-clause-falls
returns-then-len-before-clause-falls g c =
    falls_then c.loop-operator.invariant.falls
    (falls g (goal.at.returns-then-len-before-clause-falls g c).After-look_at-alone)

pub returns-then-len-before-clause-rest : goal.returns-then-len-before-clause-rest
returns-then-len-before-clause-rest g c effect lt place =
    c.look_at-alone.ensures.looked.keeps
    (none_newly c.look_at-alone.ensures.looked.falls
    (let after = c.len.ensures in let before = c.len-before.ensures in let same = c.if-len-before.true in
    subst (λ (fallen : Vec ℕ). length c.look_at-alone.new.self.family.fallen.items ≡ length fallen.items) (sym c.clear_basis.ensures.fallen) (omega arith))) effect place lt

pub returns-then-len-before-clause-alone : goal.returns-then-len-before-clause-alone
returns-then-len-before-clause-alone g c t = rests_on c.look_at-alone.ensures.idle.room.basis c.look_at-alone.ensures.looked t

pub loop-operator-preserved : goal.loop-operator-preserved
loop-operator-preserved g c = record {
  falls = falls_then c.loop-operator.invariant.falls
      (falls g (goal.at.loop-operator-preserved g c).After-look_at-alone);
  idle = c.look_at-alone.ensures.idle;
}
