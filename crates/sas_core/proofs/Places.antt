-- A property of each item of a list, as a property of the item at each index.
use Rattle.std.proofs.lemmas.Grind.{common_steps}
use Rattle.sas_core.proofs.Imports.{ℕ, zero, suc, ◌+◌, ◌<◌, List, [], ◌∷◌, length, slice_index_or, arith, AllByRecursion, cases_eq, get_or_default}

module _ {A : Type 0} (P : A → Type 0) (otherwise : A) where
  -- each item has it, so that at a place within the list has it
  pub holds_at : (items : List A) → AllByRecursion P items → (place : ℕ) → place < length items → P (slice_index_or items place otherwise)
  holds_at [] all place below = absurd (omega arith)
  holds_at (item ∷ items) all zero below = all.0
  holds_at (item ∷ items) all (suc place) below = holds_at items all.1 place (omega arith)

  -- the item at each place has it, so each item has it
  pub holds_everywhere : (items : List A) → ((place : ℕ) → place < length items → P (slice_index_or items place otherwise)) → AllByRecursion P items
  holds_everywhere [] at = tt
  holds_everywhere (item ∷ items) at = (at 0 (omega arith), holds_everywhere items (λ place below. at (suc place) (omega arith)))

-- what the items below a place have, and that at the place, those below the next have
pub each_more : {A : Type 0} (P : A → Type 0) (items : List A) (n : ℕ) (otherwise : A) → n < length items
    → ((k : ℕ) (d : A) → k < n → P (slice_index_or items k d)) → P (slice_index_or items n otherwise) → (k : ℕ) (d : A) → k < n + 1 → P (slice_index_or items k d)
each_more P items n otherwise within before its k d below = grind (arith, common_steps, cases_eq, get_or_default)
