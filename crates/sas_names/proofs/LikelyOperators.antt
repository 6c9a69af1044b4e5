-- The likely operators of names: those that are found by their digests.
use Rattle.sas_names.proofs.Imports.{arith, ◌≡◌, ℕ, ◌<◌, List, length, nat_eq, Option, None, Some, bytes_decides, none-some, get, Parts, operator_at, IsNextNamed, IsLowestNamed, digest_of, AreNames, other_of, own_else, first_else, likely_of, operator_names, Names}

-- if the operator has the name, it is the lowest operator of this name
pub record IsLikely (p : Parts) (name : List ℕ) (operator : ℕ) : Type 0 where
  pub exists : operator < length p.operators
  pub lowest : (operator_at p operator).name ≡ name → IsLowestNamed p name 0 operator

module _ (p : Parts) (names : Names) (are : AreNames p names) (name : List ℕ) where
  abbrev other : Option ℕ
  other = other_of names.first.others name

  abbrev had_of : Option ℕ → Option ℕ
  had_of had = own_else (operator_names p) name had other

  -- the likely operator, if it is in the table
  pub likely_some : (operator : ℕ) → Some operator ≡ likely_of names.first name → IsLikely p name operator
  likely_some operator is = grind (arith, get, nat_eq, digest_of, first_else, bytes_decides, operator_at)

  -- no operator has the name, if there is none
  pub likely_none : None ≡ likely_of names.first name → IsNextNamed p name 0 None
  likely_none is = grind (arith, get, nat_eq, digest_of, first_else, none-some)
