-- If a fact exists, so do its variable and the groups that contain it.
use Rattle.sas_mutex.proofs.Imports.{◌≡◌, ℕ, ◌<◌, length, get_or, subst, sym, Contains-get_or, Fact, Parts, FactExists, fact_within, Index, IsIndexOf, groups_of, AreBelow}

pub variable_below : (p : Parts) (fact : Fact) → FactExists p.variables fact → fact.var < length p.variables
variable_below p fact exists = fact_within p fact.var fact.value exists

pub groups_below : (p : Parts) (index : Index) (fact : Fact) (n : ℕ) → IsIndexOf p index → FactExists p.variables fact → n ≡ length p.groups
    → AreBelow n (groups_of index fact)
groups_below p index fact n indexed exists same k d lt =
    subst (λ m. get_or (groups_of index fact) k d < m) (sym same)
    ((indexed.groups fact exists (get_or (groups_of index fact) k d)).0 (Contains-get_or (groups_of index fact) k d lt)).exists
