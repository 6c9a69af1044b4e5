-- Nothing is expected exactly after the last rule.
use Rattle.sas_task_file.proofs.Imports.{◌≡◌, zero, suc, ℕ, refl, ap, ◌∙◌, Parts, Place, Due, Tracker, row_at, row_in, ended, TaskState, node_of_due, table_node}
use Rattle.sas_task_file.specs.declared.places.Place.TheVariants as at
use Rattle.sas_task_file.specs.declared.marks.Due.TheVariants as due

-- all lines have been read
abbrev pub IsOver : Tracker → Type 0
IsOver t = (t.place ≡ at.Rules) × (t.left ≡ 0)

over_at : (p : Place) (left more : ℕ) (t : Tracker) → (row_at p (record t { place = p; left = left; more = more })).due ≡ due.Nothing → (p ≡ at.Rules) × (left ≡ 0)
over_at at.Rules zero more t e = (refl, refl)
over_at at.Rules (suc left) more t e = absurd cc
over_at _ zero zero t e = absurd cc
over_at _ zero (suc more) t e = absurd cc
over_at _ (suc left) zero t e = absurd cc
over_at _ (suc left) (suc more) t e = absurd cc

pub over_if_nothing : (t : Tracker) → (row_in t).due ≡ due.Nothing → IsOver t
over_if_nothing t e = over_at t.place t.left t.more t e

pub nothing_if_over : (t : Tracker) → IsOver t → (row_in t).due ≡ due.Nothing
nothing_if_over t h =
    ap (λ (p : Place). (row_at p (record t { place = p })).due) h.0
    ∙ ap (λ (n : ℕ). (row_at at.Rules (record t { place = at.Rules; left = n })).due) h.1

-- ---- the state

-- a state is at the end only if nothing is expected, and then with its parts
pub ended_at : (d : Due) (x : TaskState) (v : Parts) → node_of_due d x ≡ ended v → (d ≡ due.Nothing) × (x.so_far.parts ≡ v)
ended_at due.Nothing x v e = (refl, cc)
ended_at _ x v e = absurd cc

pub over_if_ended : (x : TaskState) (v : Parts) → table_node x ≡ ended v → IsOver x.tracker
over_if_ended x v e = over_if_nothing x.tracker (ended_at (row_in x.tracker).due x v e).0

pub ends_with : (x : TaskState) → IsOver x.tracker → table_node x ≡ ended x.so_far.parts
ends_with x h = ap (λ (d : Due). node_of_due d x) (nothing_if_over x.tracker h)
