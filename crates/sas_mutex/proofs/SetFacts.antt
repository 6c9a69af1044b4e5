-- The facts that changes set exist, so the index contains their groups.
use Rattle.sas_mutex.proofs.Imports.{arith, common_steps, rules, ◌≡◌, ℕ, ◌<◌, Bool, List, length, get_or, sym, ◌∙◌, subst, Contains, ◌↔◌, get_or_default, Change, Parts, operator_at, effect_at, change_of, fact_of, FactExists, WellRanged, sets, Index, IsIndexOf, HasFactBeside, larger_groups_of, EffectPlace, operator_of, SetsBeside, NotBothAt, BothClashAt, effect_fits}
use Rattle.sas_mutex.proofs.Larger.{larger_groups_have}

module _ (p : Parts) (ranged : WellRanged p) (operator effect : ℕ) (exists : operator < length p.operators) (lt : effect < length (operator_at p operator).effects)
    (change : Change) (is : change ≡ change_of (effect_at (operator_at p operator) effect)) where
  pub change_exists : FactExists p.variables (fact_of change)
  change_exists = subst (λ (c : Change). FactExists p.variables (fact_of c)) (sym is) (effect_fits p ranged operator exists effect lt).new

  -- the larger groups of the fact that an effect sets
  pub groups_setting : (index : Index) → IsIndexOf p index → (place : ℕ)
      → Contains (larger_groups_of index (fact_of change)) place ↔ HasFactBeside p place (sets (effect_at (operator_at p operator) effect))
  groups_setting index indexed place =
      subst (λ (c : Change). Contains (larger_groups_of index (fact_of change)) place ↔ HasFactBeside p place (fact_of c)) is
      (larger_groups_have p index (fact_of change) place indexed change_exists)

-- another effect with this change sets no fact of the group on another variable, or the effects
-- can't fire together
module _ (f : EffectPlace) (kept : List Bool) (group other : ℕ) (change : Change) (is : change ≡ change_of (effect_at (operator_of f) other)) where
  pub not_beside : (SetsBeside f change group → ⊥) → NotBothAt f kept other group
  not_beside none has on_other = grind (arith, common_steps)

  pub clash_beside : NotBothAt f kept other group → SetsBeside f change group → BothClashAt f kept other
  clash_beside not_both it = search (rules, arith)

-- what each of a list's items has, one that the list contains has
pub at_item : (P : ℕ → Type 0) (xs : List ℕ) (n : ℕ) → ((k : ℕ) → k < length xs → P (get_or xs k 0)) → Contains xs n → P n
at_item P xs n each within = subst P (get_or_default xs within.0 0 n within.1 ∙ within.2) (each within.0 within.1)
