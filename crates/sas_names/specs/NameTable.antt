-- What a table of names contains.
use Rattle.std.specs.Prelude.{◌≡◌, ◌⊎◌, ℕ, ◌+◌, ◌<◌, ◌≤◌, List, length, Option, None, Some, nat_eq, if◌then◌else◌, slice_index_or}
use Rattle.std.specs.BTreeMap as tree
use Rattle.std.specs.BTreeMap.{BTreeMap}
use Rattle.std.specs.Cmp.Lexicographic.{pointwise, slice_cmp}
use Rattle.std.specs.Global.{Vec}
use Rattle.std.specs.Ordering.{nat_cmp}
use Rattle.indexmap.specs.IndexMap.{IndexMap, get}
use Rattle.sas_core.specs.declared.parts.Parts.{Parts}
use Rattle.sas_core.specs.Grounded.{operator_at}
use Rattle.sas_names.specs.declared.names.Names.{Names}
use Rattle.sas_names.specs.declared.name_table.NameTable.{NameTable}
use Rattle.sas_names.specs.Names.{IsNextNamed}
use Rattle.std.specs.Hash.FoldHasher as folding

-- the hash of the name's bytes
unfoldable pub digest_of : List ℕ → ℕ
digest_of name = folding.finish (folding.write folding.initial name)

-- ---- a table of values: `names` gives the name that a value identifies

module _ {V : Type 0} where
  -- the value of the name in the ordered map
  abbrev pub other_of : BTreeMap (Vec ℕ) V → List ℕ → Option V
  other_of others name = tree.get_by (λ key. slice_cmp nat_cmp name key.items) others

  -- the value from the map of digests if it identifies this name, else the other value
  abbrev pub own_else : (V → List ℕ) → List ℕ → Option V → Option V → Option V
  own_else names name None other = other
  own_else names name (Some own) other =
      if pointwise nat_eq (names own) name then Some own else other

  -- the value of the name, if any
  abbrev pub value_of : (V → List ℕ) → NameTable V → List ℕ → Option V
  value_of names table name =
      own_else names name (get nat_eq table.first (digest_of name)) (other_of table.others name)

  -- the value with the digest of the name if there is one, else the other value
  abbrev pub first_else : Option V → Option V → Option V
  first_else None other = other
  first_else (Some first) other = Some first

  -- the value of the name if it identifies the name
  abbrev pub likely_of : NameTable V → List ℕ → Option V
  likely_of table name =
      first_else (get nat_eq table.first (digest_of name)) (other_of table.others name)

  -- no name has a value
  pub record IsEmptyTable (table : NameTable V) : Type 0 where
    pub first : (digest : ℕ) → get nat_eq table.first digest ≡ None
    pub others : (name : List ℕ) → other_of table.others name ≡ None

  -- each value in the map of digests identifies a name
  abbrev pub Exist : (V → Type 0) → NameTable V → Type 0
  Exist exists table =
      (digest : ℕ) (value : V) → get nat_eq table.first digest ≡ Some value → exists value

  -- the name of the value is mapped to the value; all other names are as before
  abbrev pub PutsName : (V → List ℕ) → V → NameTable V → NameTable V → Type 0
  PutsName names value old new = (other : List ℕ) → value_of names new other
      ≡ (if pointwise nat_eq (names value) other then Some value else value_of names old other)

  -- the same for the map of digests: this digest is mapped to the value
  abbrev pub PutsDigest : {S : Type 0} → ℕ → V → IndexMap ℕ V S → IndexMap ℕ V S → Type 0
  PutsDigest digest value old new = (other : ℕ) → get nat_eq new other
      ≡ (if nat_eq digest other then Some value else get nat_eq old other)

  -- the same for the ordered map: this name is mapped to the value
  abbrev pub PutsOther : List ℕ → V → BTreeMap (Vec ℕ) V → BTreeMap (Vec ℕ) V → Type 0
  PutsOther name value old new = (other : List ℕ) → other_of new other
      ≡ (if pointwise nat_eq name other then Some value else other_of old other)

  -- the value was put into one of the two maps; the other map is as before
  abbrev pub PutsEither : List ℕ → ℕ → V → NameTable V → NameTable V → Type 0
  PutsEither name digest value old new =
      (PutsDigest digest value old.first new.first × (new.others ≡ old.others))
      ⊎ (PutsOther name value old.others new.others × (new.first ≡ old.first))

-- ---- the names of a task's operators

-- the name of each operator
abbrev pub operator_names : Parts → ℕ → List ℕ
operator_names p operator = (operator_at p operator).name

-- The names of the operators from number `from` on: the table has the lowest of them with each name,
-- and the list has, for each of them, the next operator of the same name.
pub record AreNamesFrom (p : Parts) (from : ℕ) (names : Names) : Type 0 where
  pub exist : Exist (λ operator. operator < length p.operators) names.first
  pub one_each : length names.next.items ≡ length p.operators
  pub lowest : (name : List ℕ)
      → IsNextNamed p name from (value_of (operator_names p) names.first name)
  pub next : (operator : ℕ) → from ≤ operator → operator < length p.operators
      → IsNextNamed p (operator_at p operator).name (operator + 1)
      (slice_index_or names.next.items operator None)

-- the names of all operators
abbrev pub AreNames : Parts → Names → Type 0
AreNames p names = AreNamesFrom p 0 names
