-- The watches of a group as a linked list, as more watches are added.
use Rattle.sas_mutex.proofs.Imports.{common_steps, rules, ◌≡◌, ◌≢◌, ℕ, ◌<◌, ◌≤◌, ◌^◌, Bool, true, List, [], ◌∷◌, ◌++◌, length, get_or, set, Option, Some, None, sym, ◌∙◌, ap, subst, inl, inr, arith, cases_eq, cases_lt, length-set, length-append, length_push, get_or-set_same, get_or-set_other, get_or_append_left, append_assoc, All-nil, All-cons, All-append, get_or-append_seam, family_of, Watch, Watches, watch_at, IsLastBelow, AreChained, AreMore, WatchesMore, HasWatchFrom}

-- a watch stays where it is
pub watch_still : (made more : List Watch) (place : ℕ) → place < length made → watch_at (made ++ more) place ≡ watch_at made place
watch_still made more place lt = get_or_append_left made more (record { group = 0; operator = 0; before = None }) place lt

-- and so does the last one of a group below a place
pub last_still : (made more : List Watch) (below group : ℕ) (last : Option ℕ) → below ≤ length made → IsLastBelow made below group last → IsLastBelow (made ++ more) below group last
last_still made more below group h1 within none = grind (arith, watch_still)

module _ (made : List Watch) (new : Watch) where
  last_is : watch_at (made ++ new ∷ []) (length made) ≡ new
  last_is = get_or-append_seam made new [] (record { group = 0; operator = 0; before = None })

  at_end : (place : ℕ) → place < length (made ++ new ∷ []) → length made ≤ place → place ≡ length made
  at_end place lt past = let more = length_push made new in omega arith

  -- one more watch is the last one of its group
  last_here : IsLastBelow (made ++ new ∷ []) (length (made ++ new ∷ [])) new.group (Some (length made))
  last_here = grind (arith, common_steps, length_push, last_is)

  -- and of no other
  last_elsewhere : (group : ℕ) (last : Option ℕ) → new.group ≢ group → IsLastBelow made (length made) group last
      → IsLastBelow (made ++ new ∷ []) (length (made ++ new ∷ [])) group last
  last_elsewhere group h1 ne none = grind (arith, cases_lt, watch_still, last_is, at_end, length_push)

  pub chained_more : (last last' : List (Option ℕ)) → new.group < length last → new.before ≡ get_or last new.group None
      → last' ≡ set last new.group (Some (length made)) → AreChained made last → AreChained (made ++ new ∷ []) last'
  chained_more last last' below before is chained = record {
    of_groups = search (rules, arith, cases_eq, here, last_here, last_elsewhere, as_many);
    of_watches = λ place lt. elim (cases_lt place (length made)) [
      | inl earlier ↦ subst (λ (w : Watch). IsLastBelow (made ++ new ∷ []) place w.group w.before) (sym (watch_still made (new ∷ []) place earlier))
          (last_still made (new ∷ []) place (watch_at made place).group (watch_at made place).before (omega arith) (chained.of_watches place earlier))
      | inr past ↦ subst (λ (n : ℕ). IsLastBelow (made ++ new ∷ []) n (watch_at (made ++ new ∷ []) n).group (watch_at (made ++ new ∷ []) n).before) (sym (at_end place lt past))
          (subst (λ (w : Watch). IsLastBelow (made ++ new ∷ []) (length made) w.group w.before) (sym last_is)
          (subst (IsLastBelow (made ++ new ∷ []) (length made) new.group) (sym before)
          (last_still made (new ∷ []) (length made) new.group (get_or last new.group None) (omega arith) (chained.of_groups new.group below))))
    ];
  }
    where
      here : get_or last' new.group None ≡ Some (length made)
      here = ap (λ (xs : List (Option ℕ)). get_or xs new.group None) is ∙ get_or-set_same last new.group (Some (length made)) None below

      there : (group : ℕ) → group ≢ new.group → get_or last' group None ≡ get_or last group None
      there group ne = ap (λ (xs : List (Option ℕ)). get_or xs group None) is ∙ get_or-set_other last new.group group (Some (length made)) None ne

      as_many : {group : ℕ} → group < length last' → group < length last
      as_many lt = let same = ap length is ∙ length-set last new.group (Some (length made)) in omega arith

-- ---- watches of one operator

-- a watch that was made is there still
pub has_still : (made more : List Watch) (operator start group : ℕ) → HasWatchFrom made operator start group → HasWatchFrom (made ++ more) operator start group
has_still made more operator start group h1 = grind (arith, length-append, watch_still)

-- and so is one that is made now
pub has_now : (made : List Watch) (new : Watch) (start : ℕ) → start ≤ length made → HasWatchFrom (made ++ new ∷ []) new.operator start new.group
has_now made new start within = (
  length made,
  record {
    exists = omega (arith, length_push made new);
    from = within;
    its = ap (λ (w : Watch). w.operator) (last_is made new);
  },
  ap (λ (w : Watch). w.group) (last_is made new),
)

pub grown : (operator : ℕ) (kept : List Bool) (before after : List Watch) → AreMore operator kept before after → length before ≤ length after
grown operator kept before after more = let len = ap length more.behind ∙ length-append before more.more in omega arith

-- one more of the operator
pub watches_one_more : (kept : List Bool) (start now after : Watches) (new : Watch) → WatchesMore new.operator kept start now
    → new.group < length now.last → family_of kept new.group ≡ true → new.before ≡ get_or now.last new.group None
    → after.made ≡ now.made ++ new ∷ [] → after.last ≡ set now.last new.group (Some (length now.made)) → after.since ≡ now.since → length after.made < 2 ^ 32
    → WatchesMore new.operator kept start after
watches_one_more kept start now after new are below inside before made last since few = record {
  made = record {
    more = are.made.more ++ new ∷ [];
    behind = made ∙ (ap (λ (xs : List Watch). xs ++ new ∷ []) are.made.behind ∙ append_assoc start.made are.made.more (new ∷ []));
    its = grind (arith, common_steps, All-append, All-cons, All-nil);
    in_family = grind (arith, common_steps, All-append, All-cons, All-nil);
  };
  chained = subst (λ (xs : List Watch). AreChained xs after.last) (sym made) (chained_more now.made new now.last after.last below before last are.chained);
  one_each = ap length last ∙ (length-set now.last new.group (Some (length now.made)) ∙ are.one_each);
  few = few;
  since = since ∙ are.since;
}
