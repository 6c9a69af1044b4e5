-- Chains with many operators, by a value that they require of one variable.
use Rattle.std.specs.Prelude.{◌≡◌, ◌≢◌, ◌⊎◌, ℕ, ◌<◌, ◌≤◌, List, [], ◌∷◌, ◌++◌, length, All, Contains, Option, None, Some, IfSome, slice_index}
use Rattle.std.specs.BTreeMap as tree
use Rattle.std.specs.Global.{Vec}
use Rattle.std.specs.List.{AllPairs}
use Rattle.std.specs.Option.{option_cmp}
use Rattle.std.specs.Ordering.{nat_cmp}
use Rattle.sas_core.specs.declared.parts.Operator.{Operator}
use Rattle.sas_core.specs.declared.parts.Parts.{Parts}
use Rattle.sas_core.specs.Grounded.{operator_at}
use Rattle.sas_meaning.specs.Steps.{preconditions}
use Rattle.sas_names.specs.Named.{IsNamed}
use Rattle.sas_run.specs.declared.long_chains.LongChain.{LongChain}
use Rattle.sas_run.specs.declared.long_chains.LongChains.{LongChains}

-- a precondition of the operator requires this value of the variable, if there is a value
abbrev pub Requires : Operator → ℕ → Option ℕ → Type 0
Requires o var value = IfSome value (λ v. Contains (preconditions o) (record { var = var; value = v }))

abbrev pub items_of : Option (Vec ℕ) → List ℕ
items_of None = []
items_of (Some operators) = operators.items

-- the operators that require this value, or none
abbrev pub operators_with : LongChain → Option ℕ → List ℕ
operators_with chain value = items_of (tree.get (option_cmp nat_cmp) chain.by_value value)

-- an operator was added to those of this value
pub record IsPushed (old : LongChain) (value : Option ℕ) (operator : ℕ) (new : LongChain)
    : Type 0 where
  pub var : new.var ≡ old.var
  pub here : operators_with new value ≡ operators_with old value ++ operator ∷ []
  pub others : (other : Option ℕ) → other ≢ value
      → operators_with new other ≡ operators_with old other

-- the operator has the name of `first`, isn't below it, and is below `end`, if that is there
abbrev pub IsIn : Parts → ℕ → Option ℕ → ℕ → Type 0
IsIn p first end operator = (first ≤ operator)
    × IsNamed p (operator_at p first).name operator
    × IfSome end (λ e. operator < e)

-- such operators, ascending
pub record ArePart (p : Parts) (first : ℕ) (end : Option ℕ) (operators : List ℕ) : Type 0 where
  pub in_chain : All (IsIn p first end) operators
  pub ascend : AllPairs (λ low high. low < high) operators

-- the chain has all operators with the name of `first`, from it on and below `end`
pub record IsLongChain (p : Parts) (first : ℕ) (chain : LongChain) (end : Option ℕ) : Type 0 where
  pub var : chain.var < length p.variables
  pub parts : (value : Option ℕ) → ArePart p first end (operators_with chain value)
  pub all : (operator : ℕ) → IsIn p first end operator
      → (value : Option ℕ) × Contains (operators_with chain value) operator
      × Requires (operator_at p operator) chain.var value

-- each chain has all operators with the name of the operator by which it is found
pub record AreLongChains (p : Parts) (long : LongChains) : Type 0 where
  pub each : (first : ℕ) (chain : LongChain) → tree.get nat_cmp long.chains first ≡ Some chain
      → IsLongChain p first chain None

-- two lists are those two, in any order
abbrev pub AreEither : List ℕ → List ℕ → List ℕ → List ℕ → Type 0
AreEither a b low high = ((low ≡ a) × (high ≡ b)) ⊎ ((low ≡ b) × (high ≡ a))

-- the first list begins with the lower operator
abbrev pub BeginsLower : List ℕ → List ℕ → Type 0
BeginsLower low high = 0 < length high → (0 < length low) × (slice_index low 0 ≤ slice_index high 0)
