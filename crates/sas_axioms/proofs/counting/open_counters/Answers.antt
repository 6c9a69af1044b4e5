-- The conditions of one more rule are counted.
use Rattle.std.proofs.lemmas.Grind.{common_steps}
use Rattle.sas_axioms.proofs.Imports.{◌≡◌, ℕ, ◌+◌, ◌<◌, List, [], ◌∷◌, ◌++◌, length, get_or, arith, slice_index, cases_eq, get_or_append_left, get_or_push, rule_at, open_conditions}
use Rattle.std.proofs.lemmas.List.{length-append}
use Rattle.sas_axioms.proofs.RuleChanges.{conditions_within, conditions_few}
use Rattle.sas_axioms.proofs.counting.open_counters.Goals as goal

-- what holds at each place holds with one item more
one_more : (f : ℕ → ℕ) (xs : List ℕ) (x n : ℕ) → length xs ≡ n → ((k : ℕ) → k < n → get_or xs k 0 ≡ f k) → x ≡ f n → (k : ℕ) → k < n + 1 → get_or (xs ++ x ∷ []) k 0 ≡ f k
one_more f xs x n len each is k lt = search (arith, cases_eq, get_or_push, get_or_append_left)

pub loop-rule-preserved : goal.loop-rule-preserved
loop-rule-preserved g c = grind (arith, common_steps, open_conditions, slice_index, rule_at, length-append, one_more)

pub open_of-requires-clause-exist : goal.open_of-requires-clause-exist
open_of-requires-clause-exist g c =
    let within : c.loop-rule.rule < length c.args.layered.now.rules =
    omega (arith, (rw c.task-task.ensures.task at c.rules-rule-end.ensures), c.loop-rule-test.true) in
    conditions_within _ c.task-task.ensures.well_ranged _ within _ c.requires.known _
    (rw c.task-task.ensures.task at c.rule_conditions.ensures)

pub open_of-requires-clause-few : goal.open_of-requires-clause-few
open_of-requires-clause-few g c =
    let within : c.loop-rule.rule < length c.args.layered.now.rules =
    omega (arith, (rw c.task-task.ensures.task at c.rules-rule-end.ensures), c.loop-rule-test.true) in
    conditions_few _ c.task-task.ensures.well_ranged _ within _ (rw c.task-task.ensures.task at c.rule_conditions.ensures)
