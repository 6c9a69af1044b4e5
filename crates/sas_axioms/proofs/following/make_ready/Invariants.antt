-- The rules so far are ready.
use Rattle.sas_axioms.proofs.Imports.{◌≡◌, ◌+◌, ◌*◌, ◌≤◌, ◌++◌, length, take, work_left}
use Rattle.sas_axioms.proofs.following.make_ready.Given as goal

abbrev pub invariant-loop-rule : goal.invariant-loop-rule
invariant-loop-rule l = record {
  ready : l.agenda.ready.items ≡ l.fn.agenda.ready.items ++ take l.rule-index l.rules;
  noted : l.agenda.noted ≡ l.fn.agenda.noted;
  left : work_left l.agenda + 3 * length l.rules ≤ work_left l.fn.agenda + l.rule-index;
}
