-- One more operator is at rest, if it is loose.
use Rattle.sas_mutex.proofs.Imports.{length, sym, ◌∙◌, ap, subst, inl, inr, arith, cases_eq, Parts, ◌≡◌, IsAtRest, since_of}
use Rattle.sas_mutex.proofs.FallingGroups.{falls_then, rest_still, none_first, none_then}
use Rattle.sas_mutex.proofs.Watched.{stays_unwatched, unwatched_more, fell_first}
use Rattle.sas_mutex.proofs.greatest.Search.look_at_loose.Goals as goal
use Rattle.sas_mutex.proofs.greatest.Search.look_at_loose.Goals.{then-is_loose, else-is_loose}

pub loop-operator-preserved : goal.loop-operator-preserved
loop-operator-preserved g c =
    let p = c.args.indexed.now in
    let start = c.args.self.now.keeping.family in
    let before = c.loop-operator.self.keeping.family in
    let w = c.loop-operator.self.watches in
    let k = c.loop-operator.operator in
    let inv = c.loop-operator.invariant in
    elim c.if-is_loose.branch [
      | then-is_loose t ↦
          (let after = t.look_once.new.self.keeping.family in
          let now = t.look_once.new.self.watches in
          let turn = t.look_once.ensures in
          rw (t.self-is) record {
            falls = falls_then inv.falls turn.falls;
            rest = λ none operator lt loose. elim (cases_eq operator k) [
              | inl e ↦ subst (IsAtRest p after.kept) (sym e) turn.rest
              | inr ne ↦ rest_still operator turn.falls (none_then inv.falls turn.falls none)
                  (inv.rest (none_first inv.falls turn.falls none) operator (omega arith) (sym (turn.anew.others operator ne) ∙ loose))
            ];
            ready = turn.ready;
            unwatched = unwatched_more p start.fallen.items (length start.fallen.items) before.kept w now (fell_first p start before inv.falls inv.ready.watched.fell)
                (stays_unwatched p before after w now k turn.falls turn.ready.idle.room.one_each turn.anew) inv.unwatched;
          })
      | else-is_loose t ↦ rw (t.self-is) record {
        falls = inv.falls;
        rest = λ none operator lt loose. elim (cases_eq operator k) [
          | inl e ↦ absurd (c.is_loose.ensures t.if-is_loose.false (ap (since_of w.since) (sym e) ∙ loose))
          | inr ne ↦ inv.rest none operator (omega arith) loose
        ];
        ready = inv.ready;
        unwatched = inv.unwatched;
      }
    ]

pub returns-clause-rest : goal.returns-clause-rest
returns-clause-rest g c none operator lt loose =
    let count = subst (λ (p : Parts). c.operators-operator-end.result ≡ length p.operators) c.indexed.view_is c.operators-operator-end.ensures in
    c.loop-operator.invariant.rest none operator (omega (arith, lt, count, c.loop-operator-test.false)) loose
