-- Operators whose effects have no conditions and are on different variables. Their effects can be
-- applied one after another.
use Rattle.std.specs.Prelude.{◌≡◌, ◌≢◌, ℕ, List, Some, All, slice_index, ◌≤◌, IsTrue, vec_capacity}
use Rattle.std.specs.List.{AllPairs}
use Rattle.sas_core.specs.declared.grounded.Change.{Change}
use Rattle.sas_core.specs.declared.parts.Operator.{Operator}
use Rattle.sas_core.specs.declared.parts.Parts.{Parts}
use Rattle.sas_core.specs.Changes.{plain_effects}
use Rattle.sas_core.specs.Variables.{IsState}
use Rattle.sas_meaning.specs.Following.{HaveGone}
use Rattle.sas_run.specs.declared.deletions.DeletedFacts.{DeletedFacts}

-- the changes are on different variables
abbrev pub AreApart : List Change → Type 0
AreApart changes = AllPairs (λ (c d : Change). c.var ≢ d.var) changes

-- the operator's effects are these changes: without conditions, and on different variables
pub record IsPlainStep (o : Operator) (changes : List Change) : Type 0 where
  pub effects : o.effects ≡ plain_effects changes
  pub apart : AreApart changes

-- if the change requires an old value, its variable has this value
abbrev pub OldHolds : List ℕ → Change → Type 0
OldHolds s c = (value : ℕ) → c.old ≡ Some value → slice_index s c.var ≡ value

-- making all changes in s gives s'
pub record AreMade (p : Parts) (s : List ℕ) (changes : List Change) (s' : List ℕ) : Type 0 where
  pub state : IsState p.variables s'
  pub set : All (λ (c : Change). slice_index s' c.var ≡ c.new) changes
  pub kept : (var : ℕ) → All (λ (c : Change). c.var ≢ var) changes
      → slice_index s' var ≡ slice_index s var

-- there is room for so many facts, if they are noted
abbrev pub DeletedHasRoom : DeletedFacts → ℕ → Type 0
DeletedHasRoom d many = IsTrue d.noted → many ≤ vec_capacity d.facts

-- facts are noted or not, as before, and there is at least the same room
pub record NotesOn (d d' : DeletedFacts) : Type 0 where
  pub noted : d'.noted ≡ d.noted
  pub room : vec_capacity d.facts ≤ vec_capacity d'.facts

-- if facts are noted, they are those that held in s and may have been replaced in s'
abbrev pub NotesGone : Parts → DeletedFacts → List ℕ → List ℕ → Type 0
NotesGone p d s s' = IsTrue d.noted → HaveGone p d.facts.items s s'
