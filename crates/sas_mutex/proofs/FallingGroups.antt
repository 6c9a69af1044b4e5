-- Groups are removed from a family one by one, until the greatest family is left.
use Rattle.sas_mutex.proofs.Imports.{common_steps, rules, ◌≡◌, ℕ, ◌<◌, ◌≤◌, Bool, false, List, [], ◌∷◌, ◌++◌, length, set, refl, sym, ◌∙◌, ap, subst, inl, inr, arith, cases_eq, cases_Bool, both_ways, append_assoc, drop_all, drop_at, length-append, length-set, get_or-set_same, get_or-set_other, All-nil, All-cons, All-append, All-from_get_or, Contains-append_left, Contains-append_right, EffectKeeps, keeps_from_effects, effect_of_keeps, Family, IsKept, KeepsAt, KeepsWithItself, IsPartOf, IsAtRest, AreCandidates, newly, Falls, Contains-push, Contains-push_cases, Contains-append_cases, All, Contains, Operator, Parts, operator_at, effect_at, group_at, Keeps, Clash, sets, known, IsIn, IsGroupOf, IsGroupOfOr, IsKeptJointly, IsGreatest, group_of_larger, keeps_more, family_of}
use Rattle.std.proofs.lemmas.List.{append-nil}
use Rattle.sas_mutex.proofs.FromNotes.{clash_keeps}
use Rattle.sas_mutex.proofs.Keeping.{effect_keeps_more}

-- where nothing is in two lists together, nothing is in either
pub none_left : (xs ys : List ℕ) → xs ++ ys ≡ [] → xs ≡ []
none_left [] ys none = refl
none_left (x ∷ xs) ys none = cc

pub none_right : (xs ys : List ℕ) → xs ++ ys ≡ [] → ys ≡ []
none_right [] ys none = none
none_right (x ∷ xs) ys none = cc

none_of_length : (xs : List ℕ) → length xs ≡ 0 → xs ≡ []
none_of_length h1 none = grind (arith, common_steps)

module _ {p : Parts} where
  -- ---- groups that fell in one turn after another

  pub none_fell : (family : Family) → Falls p family family
  none_fell family = grind (arith, common_steps, append-nil, All-nil, drop_all)

  pub newly_then : {a b c : Family} → Falls p a b → Falls p b c → newly a c ≡ newly a b ++ newly b c
  newly_then {a} {b} {c} first second = grind (arith, common_steps, append_assoc, drop_at)

  pub falls_then : {a b c : Family} → Falls p a b → Falls p b c → Falls p a c
  falls_then {a} {b} {c} first second = record {
    one_each = second.one_each ∙ first.one_each;
    behind = grind (arith, common_steps, append_assoc, both);
    exist = subst (All (λ place. place < length p.groups)) (sym both) (All-append (λ place. place < length p.groups) (newly a b) (newly b c) first.exist second.exist);
    gone = λ place within w. elim (Contains-append_cases (newly a b) (newly b c) place (subst (λ (xs : List ℕ). Contains xs place) both within)) [
      | inl early ↦ first.gone place early (second.less place w)
      | inr late ↦ second.gone place late w
    ];
    less = λ place w. first.less place (second.less place w);
    noted = λ place w out. subst (λ (xs : List ℕ). Contains xs place) (sym both) (elim (cases_Bool (family_of b.kept place)) [
      | inl here ↦ Contains-append_right (newly a b) (newly b c) place (second.noted place (record { exists = w.exists; chosen = here }) out)
      | inr gone ↦ Contains-append_left (newly a b) (newly b c) place (first.noted place w (λ v. both_ways (family_of b.kept place) gone v.chosen))
    ]);
    none_lost = λ other jointly within. second.none_lost other jointly (first.none_lost other jointly within);
  }
    where
      both : newly a c ≡ newly a b ++ newly b c
      both = newly_then first second

  pub fallen_grow : {before after : Family} → Falls p before after → length before.fallen.items ≤ length after.fallen.items
  fallen_grow {before} {after} falls = let len = ap length falls.behind ∙ length-append before.fallen.items (newly before after) in omega arith

  -- one group falls, which no family that is kept jointly within the present one has
  pub one_fell : (before after : Family) (place : ℕ) → after.kept ≡ set before.kept place false → after.fallen.items ≡ before.fallen.items ++ place ∷ []
      → place < length p.groups
      → ((other : ℕ → Bool) → IsKeptJointly p other → ((n : ℕ) → IsIn p other n → IsIn p (family_of before.kept) n) → IsIn p other place → ⊥)
      → length before.kept ≡ length p.groups → Falls p before after
  one_fell before after place kept fallen exists never one_each = search (rules, arith, length-set, All-cons, All-nil, both_ways, cases_eq, Contains-push, drop_at, Contains-push_cases, get_or-set_other, get_or-set_same)

  -- ---- what rests stays at rest, where nothing falls

  -- the groups of a family are still in it
  same_groups : (b c : Family) → Falls p b c → newly b c ≡ [] → (place : ℕ) → IsIn p (family_of b.kept) place → IsIn p (family_of c.kept) place
  same_groups b c falls none place w = grind (arith, common_steps, cases_Bool, both_ways)

  pub keeps_still : {b c : Family} (operator effect place : ℕ) → Falls p b c → newly b c ≡ [] → KeepsAt p b.kept operator effect place → KeepsAt p c.kept operator effect place
  keeps_still {b} {c} operator effect place falls none = search (rules, arith, effect_keeps_more, group_of_larger, same_groups)

  pub none_first : {a b c : Family} → Falls p a b → Falls p b c → newly a c ≡ [] → newly a b ≡ []
  none_first {a} {b} {c} first second none = none_left (newly a b) (newly b c) (sym (newly_then first second) ∙ none)

  pub none_then : {a b c : Family} → Falls p a b → Falls p b c → newly a c ≡ [] → newly b c ≡ []
  none_then {a} {b} {c} first second none = none_right (newly a b) (newly b c) (sym (newly_then first second) ∙ none)

  pub rest_still : {b c : Family} (operator : ℕ) → Falls p b c → newly b c ≡ [] → IsAtRest p b.kept operator → IsAtRest p c.kept operator
  rest_still {b} {c} operator falls none rest effect below place w has = keeps_still operator effect place falls none (rest effect below place (falls.less place w) has)

  -- ---- what is kept where only the groups of a basis count, and the group itself

  -- it is kept by every family that has these groups
  pub basis_keeps : (basis kept : List Bool) (operator effect place : ℕ) → ((n : ℕ) → IsIn p (family_of basis) n → IsIn p (family_of kept) n)
      → IsIn p (family_of kept) place → KeepsWithItself p basis operator effect place → KeepsAt p kept operator effect place
  basis_keeps basis kept operator effect place within w = search (rules, arith, effect_keeps_more)

  -- ---- where nothing waits, the family is the greatest

  pub greatest_in_the_end : {before after : Family} → AreCandidates p before.kept → Falls p before after
      → ((operator : ℕ) → operator < length p.operators → IsAtRest p after.kept operator) → IsGreatest p (family_of after.kept)
  greatest_in_the_end {before} {after} candidates falls rest = record {
    jointly = record {
      may = λ place w. (let before_in = falls.less place w in (candidates place before_in.exists).0 before_in.chosen);
      kept = λ place w. All-from_get_or (λ (o : Operator). Keeps (IsKept p after.kept) o (group_at p place)) p.operators _
          (λ operator exists. keeps_from_effects (IsKept p after.kept) (operator_at p operator) (group_at p place)
          (λ effect within has. rest operator exists effect within place w has));
    };
    greatest = λ other jointly. falls.none_lost other jointly
        (λ place w. record { exists = w.exists; chosen = (candidates place w.exists).1 (jointly.may place w) });
  }

  -- a group that an operator of the task doesn't keep is in no family that is kept jointly
  pub never_jointly : (kept : List Bool) (operator effect place : ℕ) → operator < length p.operators → effect < length (operator_at p operator).effects
      → Contains (group_at p place) (sets (effect_at (operator_at p operator) effect))
      → (EffectKeeps (IsKept p kept) (operator_at p operator) (group_at p place) (effect_at (operator_at p operator) effect) → ⊥)
      → (other : ℕ → Bool) → IsKeptJointly p other → ((n : ℕ) → IsIn p other n → IsIn p (family_of kept) n) → IsIn p other place → ⊥
  never_jointly kept operator effect place exists within has broken other jointly smaller w =
      broken (effect_of_keeps (IsKept p kept) (operator_at p operator) (group_at p place)
      (keeps_more (IsGroupOf p other) (IsKept p kept) (operator_at p operator) (group_at p place) (group_of_larger p other (family_of kept) smaller)
      (jointly.kept place w operator _ exists)) effect within has)

  -- all that fell exist
  pub fallen_exist : {before after : Family} → Falls p before after → All (λ (place : ℕ). place < length p.groups) before.fallen.items
      → All (λ (place : ℕ). place < length p.groups) after.fallen.items
  fallen_exist {before} {after} falls exist = subst (All (λ (place : ℕ). place < length p.groups)) (sym falls.behind)
      (All-append (λ (place : ℕ). place < length p.groups) before.fallen.items (newly before after) exist falls.exist)

  -- ---- how many fell

  -- where no more fell than before, none did
  pub none_newly : {b c : Family} → Falls p b c → length c.fallen.items ≡ length b.fallen.items → newly b c ≡ []
  none_newly {b} {c} falls same = none_of_length (newly b c) (let len = ap length falls.behind ∙ length-append b.fallen.items (newly b c) in omega arith)

  pub as_before : {b c : Family} → Falls p b c → length c.fallen.items ≡ length b.fallen.items → c.fallen.items ≡ b.fallen.items
  as_before {b} {c} falls same = falls.behind ∙ (ap (λ (xs : List ℕ). b.fallen.items ++ xs) (none_newly falls same) ∙ append-nil b.fallen.items)

module _ (p : Parts) where
  -- where what is known clashes by the basis, each group is kept so
  pub clash_by_basis : (basis : List Bool) (operator effect place : ℕ)
      → Clash (IsKept p basis) (known (operator_at p operator) (effect_at (operator_at p operator) effect).conditions []) → KeepsWithItself p basis operator effect place
  clash_by_basis basis operator effect place clash = effect_keeps_more (IsKept p basis) (IsGroupOfOr p (family_of basis) (group_at p place))
      (operator_at p operator) (group_at p place) (effect_at (operator_at p operator) effect) (λ group counts. inl counts)
      (clash_keeps (IsKept p basis) (operator_at p operator) (group_at p place) (effect_at (operator_at p operator) effect) clash)

  -- and stays so while the basis grows
  pub basis_grows : (b c : List Bool) (operator effect place : ℕ) → IsPartOf b c → KeepsWithItself p b operator effect place → KeepsWithItself p c operator effect place
  basis_grows b c operator effect place grows = effect_keeps_more (IsGroupOfOr p (family_of b) (group_at p place)) (IsGroupOfOr p (family_of c) (group_at p place))
      (operator_at p operator) (group_at p place) (effect_at (operator_at p operator) effect)
      (λ group either. elim either [
        | inl in_b ↦ inl (in_b.0, record { exists = in_b.1.exists; chosen = grows in_b.0 in_b.1.chosen }, in_b.2)
        | inr is ↦ inr is
      ])
