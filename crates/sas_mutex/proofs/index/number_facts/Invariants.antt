-- The first numbers of the variables so far.
use Rattle.sas_mutex.proofs.Imports.{◌≡◌, ℕ, ◌<◌, length, get_or, facts_below}
use Rattle.sas_mutex.proofs.index.number_facts.Given as goal

abbrev pub invariant-loop-var : goal.invariant-loop-var
invariant-loop-var g l = record {
  so_far : length l.firsts.items ≡ l.var;
  are : (v : ℕ) → v < l.var → get_or l.firsts.items v 0 ≡ facts_below l.task v;
  facts : l.facts ≡ facts_below l.task l.var;
}
