-- Looks at effects, one after another.
use Rattle.sas_mutex.proofs.Imports.{common_steps, rules, ◌≡◌, ◌⊎◌, ◌<◌, ◌≤◌, ℕ, Bool, true, false, List, [], ◌∷◌, ◌++◌, length, get_or, set, arith, ap, subst, sym, ◌∙◌, inl, inr, All-contains, vec_capacity, both_ways, get_or_default, get_or-set_same, length-set, length_push, All-nil, Contains, Fact, Parts, operator_at, effect_at, group_at, Clash, sets, known, HasFactBeside, EffectKeeps, IsIn, IsGroupOfOr, family_of, Family, Recorded, SetsNone, Keeping, IsAtEffect, IsKept, KeepsAt, KeepsWithItself, IsUnconditional, EffectPlace, IsNotedFor, NeverFires, known_at, HasGrown, IsBasis, FamilyHasRoom, RestsOn, count, ForPairs, Looked, IsPair, IsOfEffect, IsOfOperator, IsOfAlike}
use Rattle.sas_mutex.proofs.Counting.{count_fell}
use Rattle.sas_mutex.proofs.Keeping.{keeps_if_beside}
use Rattle.sas_mutex.proofs.FallingGroups.{falls_then, one_fell, never_jointly, none_first, none_then, keeps_still, basis_keeps, basis_grows}
use Rattle.sas_mutex.proofs.Supporting.{grown_falls, same_grown}

-- ---- effects without conditions have the same known facts

same_known : (p : Parts) (operator of effect : ℕ) → IsUnconditional p operator of → IsUnconditional p operator effect → known_at p operator of ≡ known_at p operator effect
same_known p operator of effect plain also = ap (λ (conditions : List Fact). known (operator_at p operator) conditions []) (plain ∙ sym also)

pub alike_notes : (p : Parts) (operator of effect : ℕ) (kept : List Bool) (recorded : Recorded) → IsUnconditional p operator of → IsUnconditional p operator effect
    → IsNotedFor p kept operator of recorded → IsNotedFor p kept operator effect recorded
alike_notes p operator of effect kept recorded plain also noted = grind (arith, common_steps, same_known)

pub alike_at_effect : (p : Parts) (operator of effect : ℕ) (keeping : Keeping) → IsUnconditional p operator of → IsUnconditional p operator effect
    → IsAtEffect (record { task = p; operator = operator; effect = of }) keeping → IsAtEffect (record { task = p; operator = operator; effect = effect }) keeping
alike_at_effect p operator of effect keeping plain also at_effect = grind (arith, alike_notes)

pub alike_never_fires : (f : EffectPlace) (kept : List Bool) (effect place : ℕ) → IsOfAlike f effect place → NeverFires f kept
    → Clash (IsKept f.task kept) (known_at f.task f.operator effect)
alike_never_fires f kept effect place h1 never = grind (arith, known_at, same_known)

-- ---- looks

module _ {p : Parts} {operator : ℕ} where
  -- no group is removed, and the effects keep the groups
  pub looked_grown : {Pairs : ℕ → ℕ → Type 0} {before after : Family} {alone : Bool} → HasGrown before after
      → ForPairs p operator before.kept Pairs (KeepsAt p before.kept operator)
      → (alone ≡ true → ForPairs p operator before.kept Pairs (KeepsWithItself p after.basis operator)) → Looked p operator Pairs before after alone
  looked_grown {Pairs} {before} {after} {alone} grown keeps by_basis = grind (arith, common_steps, grown_falls)

  pub looked_pair : (of at : ℕ) {before after : Family} {alone : Bool} → HasGrown before after
      → (IsIn p (family_of before.kept) at → KeepsAt p before.kept operator of at) → (alone ≡ true → KeepsWithItself p after.basis operator of at)
      → Looked p operator (IsPair of at) before after alone
  looked_pair of at {before} {after} {alone} grown keeps by_basis = grind (arith, common_steps, looked_grown)

  -- none of the pairs counts
  pub looked_none : {Pairs : ℕ → ℕ → Type 0} {family : Family} {alone : Bool}
      → ForPairs p operator family.kept Pairs (λ effect place. ⊥) → Looked p operator Pairs family family alone
  looked_none {Pairs} {family} {alone} none = grind (arith, common_steps, looked_grown, same_grown)

  -- each pair is one of those looked at first, or one of those looked at then
  pub looked_then : {First Second Both : ℕ → ℕ → Type 0} {a b c : Family} {x y z : Bool} → Looked p operator First a b x → Looked p operator Second b c y
      → ((effect place : ℕ) → Both effect place → First effect place ⊎ Second effect place)
      → (z ≡ true → (x ≡ true) × (y ≡ true)) → Looked p operator Both a c z
  looked_then {First} {Second} {Both} {a} {b} {c} {x} {y} {z} first second either both = record {
    falls = falls_then first.falls second.falls;
    grows = λ place is. second.grows place (first.grows place is);
    keeps = λ none effect place pair w has. elim (either effect place pair) [
      | inl early ↦ keeps_still operator effect place second.falls (none_then first.falls second.falls none)
          (first.keeps (none_first first.falls second.falls none) effect place early (second.falls.less place w) has)
      | inr late ↦ second.keeps (none_then first.falls second.falls none) effect place late w has
    ];
    by_basis = λ t effect place pair w has. elim (either effect place pair) [
      | inl early ↦ basis_grows p b.basis c.basis operator effect place second.grows (first.by_basis (both t).0 effect place early (second.falls.less place w) has)
      | inr late ↦ second.by_basis (both t).1 effect place late w has
    ];
  }

  -- other pairs that are among those looked at, and what else is known of the basis
  pub looked_by : {Pairs Others : ℕ → ℕ → Type 0} {before after : Family} {x y : Bool} → Looked p operator Pairs before after x
      → ((effect place : ℕ) → Others effect place → Pairs effect place)
      → (y ≡ true → (x ≡ true) ⊎ ((effect place : ℕ) → Others effect place → KeepsWithItself p after.basis operator effect place))
      → Looked p operator Others before after y
  looked_by {Pairs} {Others} {before} {after} {x} {y} looked among more = grind (arith, common_steps)

  -- the effect sets no fact of a group in the family that has another one
  pub looked_unset : (of : ℕ) {family : Family} {alone : Bool} → SetsNone p family.kept operator of
      → Looked p operator (IsOfEffect of) family family alone
  looked_unset of {family} {alone} none = looked_grown (same_grown family) (unset (IsKept p family.kept))
      (λ _ effect place is w has. unset (IsGroupOfOr p (family_of family.basis) (group_at p place)) effect place is w has)
    where
      unset : (Counts : List Fact → Type 0) (effect place : ℕ) → effect ≡ of → IsIn p (family_of family.kept) place
          → Contains (group_at p place) (sets (effect_at (operator_at p operator) effect))
          → EffectKeeps Counts (operator_at p operator) (group_at p place) (effect_at (operator_at p operator) effect)
      unset Counts effect place is w has = search (rules, arith, keeps_if_beside)

  -- all groups that contain the fact that the effect sets and another one
  pub looked_all : (of : ℕ) (groups : List ℕ) (count : ℕ) {before after : Family} {alone : Bool}
      → ((place : ℕ) → HasFactBeside p place (sets (effect_at (operator_at p operator) of)) → Contains groups place) → length groups ≤ count
      → Looked p operator (λ effect place. IsOfEffect of effect place × (k : ℕ) × (k < count) × (get_or groups k 0 ≡ place)) before after alone
      → Looked p operator (IsOfEffect of) before after alone
  looked_all of groups count {before} {after} {alone} all within looked = record {
    falls = looked.falls;
    grows = looked.grows;
    keeps = λ none effect place is w has. keeps_if_beside p (IsKept p after.kept) (operator_at p operator) place (effect_at (operator_at p operator) effect) w.exists has
        (λ beside. looked.keeps none effect place (of_first effect place is beside) w has);
    by_basis = λ t effect place is w has. keeps_if_beside p (IsGroupOfOr p (family_of after.basis) (group_at p place)) (operator_at p operator) place
        (effect_at (operator_at p operator) effect) w.exists has
        (λ beside. looked.by_basis t effect place (of_first effect place is beside) w has);
  }
    where
      of_first : (effect place : ℕ) → effect ≡ of → HasFactBeside p place (sets (effect_at (operator_at p operator) effect))
          → IsOfEffect of effect place × (k : ℕ) × (k < count) × (get_or groups k 0 ≡ place)
      of_first effect place is beside =
          let (k, lt, at) = all place (subst (λ n. HasFactBeside p place (sets (effect_at (operator_at p operator) n))) is beside) in
          (is, k, omega arith, get_or_default groups k 0 place lt ∙ at)

  -- an operator that was looked at with a basis is at rest as long as the groups of the basis are in
  -- the family
  pub rests_on : {before after : Family} {alone : Bool} → IsBasis (length p.groups) after → Looked p operator (IsOfOperator p operator) before after alone → alone ≡ true
      → RestsOn p after.kept after.supports operator
  rests_on {before} {after} {alone} is_basis looked t smaller inside all effect below place w has =
      basis_keeps after.basis smaller operator effect place
      (λ n in_basis. All-contains (IsIn p (family_of smaller)) after.supports n all (is_basis.only n in_basis.chosen)) w
      (looked.by_basis t effect place below (inside place w) has)

-- the effect doesn't keep the group, which is removed
module _ (p : Parts) (operator of at : ℕ) (before after : Family) (kept : after.kept ≡ set before.kept at false) (fallen : after.fallen.items ≡ before.fallen.items ++ at ∷ [])
    (basis : after.basis ≡ before.basis) (supports : after.supports ≡ before.supports) (none : after.excluding ≡ []) (capacity : vec_capacity before.fallen ≤ vec_capacity after.fallen)
    (room : FamilyHasRoom p before) (here : IsIn p (family_of before.kept) at) where
  pub removed_room : FamilyHasRoom p after
  removed_room = grind (arith, common_steps, count_fell, length_push, length-set, All-nil)

  removed : (place : ℕ) → place ≡ at → IsIn p (family_of after.kept) place → ⊥
  removed place is w = grind (arith, common_steps, both_ways, get_or-set_same)

  pub looked_removed : operator < length p.operators → of < length (operator_at p operator).effects
      → Contains (group_at p at) (sets (effect_at (operator_at p operator) of)) → (KeepsAt p before.kept operator of at → ⊥)
      → Looked p operator (IsPair of at) before after true
  looked_removed exists within has broken = record {
    falls = one_fell before after at kept fallen here.exists (never_jointly before.kept operator of at exists within has broken) room.one_each;
    grows = λ place is. subst (λ (xs : List Bool). family_of xs place ≡ true) (sym basis) is;
    keeps = λ _ effect place pair w _. absurd (removed place pair.1 w);
    by_basis = λ _ effect place pair w _. absurd (removed place pair.1 w);
  }
