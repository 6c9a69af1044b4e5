-- The large operators so far have entries.
use Rattle.sas_mutex.proofs.Imports.{ℕ, ◌<◌, All, Entry}
use Rattle.sas_mutex.proofs.ByVariable.{AreLargeEntered}
use Rattle.sas_mutex.proofs.by_variable.effects_by_variable.Given as goal

abbrev pub invariant-loop-operator : goal.invariant-loop-operator
invariant-loop-operator g l = record {
  low : All (λ (entry : Entry ℕ). entry.key < l.places) l.entries.items;
  entered : AreLargeEntered l.layered l.places l.operator l.entries.items;
}
