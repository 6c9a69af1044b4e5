-- Growing the basis and emptying it.
use Rattle.sas_mutex.proofs.Imports.{arith, common_steps, rules, ◌≡◌, ℕ, ◌<◌, Bool, true, false, List, [], length, set, refl, sym, subst, inl, inr, cases_eq, cases_lt, true≢false, get_or-set_same, get_or-set_other, get_or_past, get_or, All-nil, All-contains, All, Contains-get_or, Parts, family_of, Excluding, Family, AreNotedWith, IsBasis, IsOfNone, Excludes, HasGrown, Falls, FamilyHasRoom, EffectPlace, Keeping, IsAtEffect}
use Rattle.sas_mutex.proofs.FallingGroups.{none_fell}

-- a place at which a list is true is one of its places
pub kept_below : (kept : List Bool) (place : ℕ) → family_of kept place ≡ true → place < length kept
kept_below kept place is = grind (arith, common_steps, cases_lt, true≢false, get_or_past)

-- no groups are a basis
pub none_are : (groups : ℕ) (family : Family) → IsOfNone groups family.basis → family.supports ≡ [] → IsBasis groups family
none_are groups family none free = grind (arith, common_steps, true≢false, All-nil)

-- a family with the same groups has room if it has a basis, and nothing fell
pub same_room : (p : Parts) (before after : Family) → after.kept ≡ before.kept → after.fallen ≡ before.fallen → IsBasis (length p.groups) after
    → All (Excludes p before.kept) after.excluding → FamilyHasRoom p before → FamilyHasRoom p after
same_room p before after kept fallen basis excluding room = grind (arith, common_steps)

pub same_falls : (p : Parts) (before after : Family) → after.kept ≡ before.kept → after.fallen ≡ before.fallen → Falls p before after
same_falls p before after kept fallen = grind (arith, common_steps, none_fell)

-- the same where the basis has grown
pub grown_room : (p : Parts) (before after : Family) → HasGrown before after → All (Excludes p before.kept) after.excluding → FamilyHasRoom p before
    → FamilyHasRoom p after
grown_room p before after grown excluding room = search (rules, arith, same_room)

-- the same facts are noted as excluding others
pub same_excluding : (p : Parts) (before after : Family) → after.excluding ≡ before.excluding → FamilyHasRoom p before → All (Excludes p before.kept) after.excluding
same_excluding p before after same room = subst (All (Excludes p before.kept)) (sym same) room.excluding

-- the basis has grown, and the same facts are noted as excluding others
pub basis_room : (p : Parts) (before after : Family) → HasGrown before after → after.excluding ≡ before.excluding → FamilyHasRoom p before → FamilyHasRoom p after
basis_room p before after grown same room = grown_room p before after grown (same_excluding p before after same room) room

pub grown_at_effect : (f : EffectPlace) (keeping : Keeping) (after : Family) → HasGrown keeping.family after → All (Excludes f.task keeping.family.kept) after.excluding
    → IsAtEffect f keeping → IsAtEffect f (record { family = after; recorded = keeping.recorded })
grown_at_effect f keeping after grown excluding at_effect = grind (arith, grown_room)

-- one more is noted
pub more_excluding : (p : Parts) (kept : List Bool) (before after : List Excluding) (found : Excluding) → All (Excludes p kept) before → Excludes p kept found
    → AreNotedWith found before after → All (Excludes p kept) after
more_excluding p kept before after found all its either k d lt = elim (either (get_or after k d) (Contains-get_or after k d lt)) [
  | inl there ↦ All-contains (Excludes p kept) before (get_or after k d) all there
  | inr is ↦ subst (Excludes p kept) is its
]

pub grown_falls : (p : Parts) (before after : Family) → HasGrown before after → Falls p before after
grown_falls p before after grown = same_falls p before after grown.kept grown.fallen

-- the basis is unchanged
pub same_grown : (family : Family) → HasGrown family family
same_grown family = record { kept = refl; fallen = refl; basis = λ groups is. is; grows = λ place is. is }

pub grown_then : (a b c : Family) → HasGrown a b → HasGrown b c → HasGrown a c
grown_then a b c first second = search (rules, arith)

-- ---- one place of a list is set

pub out_now : (list : List Bool) (place : ℕ) → place < length list → family_of (set list place false) place ≡ false
out_now list place below = get_or-set_same list place false false below

pub out_still : (list : List Bool) (place group : ℕ) → place < length list → family_of list group ≡ false → family_of (set list place false) group ≡ false
out_still list place group below out = grind (arith, common_steps, cases_eq, out_now, get_or-set_other)

pub out_less : (list : List Bool) (place group : ℕ) → place < length list → family_of (set list place false) group ≡ true → family_of list group ≡ true
out_less list place group below is = grind (arith, common_steps, cases_eq, true≢false, out_now, get_or-set_other)
