-- The effects so far have entries.
use Rattle.sas_mutex.proofs.Imports.{ℕ, ◌<◌, All, Entry, AreEntered}
use Rattle.sas_mutex.proofs.by_variable.enter_effects.Given as goal

abbrev pub invariant-loop-effect : goal.invariant-loop-effect
invariant-loop-effect g l = record {
  low : All (λ (entry : Entry ℕ). entry.key < l.places) l.entries.items;
  entered : AreEntered l.task l.places l.operator l.effect l.fn.entries.items l.entries.items;
}
