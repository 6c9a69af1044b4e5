-- Which groups operators depend on, as operators are looked at and groups are removed.
use Rattle.sas_mutex.proofs.Imports.{common_steps, rules, ◌≡◌, ◌≢◌, ◌⊎◌, ℕ, ◌-◌, ◌<◌, ◌≤◌, ◌^◌, Bool, true, List, [], ◌++◌, length, get_or, set, Option, Some, None, refl, sym, ◌∙◌, ap, subst, inl, inr, arith, cases_eq, cases_lt, cases_Bool, length-set, length-append, get_or-set_same, get_or-set_other, get_or-append_right, get_or_append_left, get_or_default, All-nil, All-append, All-weaker, All-contains, Family, Watch, Watches, Falls, newly, IsWithin, IsAtRest, RestsOn, watch_at, since_of, IsLastBelow, AreChained, IsWatchOf, HasWatchFrom, RestsBy, IsOver, IsUnwatched, AreFallen, AreUnwatched, AreWatched, AreMore, IsWatchedAnew, FallenAreUnwatched, StayUnwatched, AreLooseAtRest, Contains-append_left, Contains-append_right, Contains-append_cases, Contains-get_or, All, Contains, Parts, IsIn, family_of}
use Rattle.sas_mutex.proofs.FallingGroups.{fallen_exist}
use Rattle.sas_mutex.proofs.Supporting.{kept_below}
use Rattle.sas_mutex.proofs.WatchChains.{watch_still, last_still}

-- no watch of the group after index `at` is valid any more; for `None`, no watch of the group at
-- all
abbrev pub IsUnwatchedBehind : Watches → ℕ → Option ℕ → Type 0
IsUnwatchedBehind w group None = IsUnwatched w group
IsUnwatchedBehind w group (Some at) = (at < length w.made)
    × ((watch_at w.made at).group ≡ group)
    × ((place : ℕ) → at < place → place < length w.made → (watch_at w.made place).group ≡ group
    → IsOver w place)

abbrev no_watch : Watch
no_watch = record { group = 0; operator = 0; before = None }

-- a watch behind others is one of those that came behind
behind_is : (made more : List Watch) (place : ℕ) → length made ≤ place → place < length (made ++ more) → Contains more (watch_at (made ++ more) place)
behind_is made more place past lt =
    let k : ℕ = place - length made in
    subst (Contains more) (sym (get_or-append_right made more (length made) place no_watch refl past))
    (Contains-get_or more (place - length made) no_watch (let len = length-append made more in omega arith))

module _ (p : Parts) where
  -- ---- more watches

  pub rests_more : (kept kept' : List Bool) (made more : List Watch) (operator start : ℕ) → IsWithin p kept' kept
      → RestsBy p kept made operator start → RestsBy p kept' (made ++ more) operator start
  rests_more kept kept' made more operator start less rests smaller within has =
      rests smaller (λ place w. less place (within place w))
      (λ place is. let same = watch_still made more place is.exists in
      subst (λ (w : Watch). IsIn p (family_of smaller) w.group) same
      (has place (record {
        exists = let len = length-append made more in let lt = is.exists in omega arith;
        from = is.from;
        its = ap (λ (w : Watch). w.operator) same ∙ is.its;
      })))

  -- an operator rests by the watches that it has of all groups on which it rests
  pub rests_by : (kept : List Bool) (made : List Watch) (operator start : ℕ) (groups : List ℕ) → RestsOn p kept groups operator
      → All (HasWatchFrom made operator start) groups → RestsBy p kept made operator start
  rests_by kept made operator start groups rests all smaller within has =
      rests smaller within (All-weaker (HasWatchFrom made operator start) (IsIn p (family_of smaller))
      (λ group watched. subst (IsIn p (family_of smaller)) watched.2 (has watched.0 watched.1)) groups all)

  -- ---- what fell

  pub fallen_still : (b c : Family) → Falls p b c → AreFallen p b → AreFallen p c
  fallen_still b c falls fell = record {
    exist = fallen_exist falls fell.exist;
    out = λ group within is. elim (Contains-append_cases b.fallen.items (newly b c) group (subst (λ (xs : List ℕ). Contains xs group) falls.behind within)) [
      | inl early ↦ fell.out group early (falls.less group (record { exists = exists group within; chosen = is })).chosen
      | inr late ↦ falls.gone group late (record { exists = exists group within; chosen = is })
    ];
  }
    where
      exists : (group : ℕ) → Contains c.fallen.items group → group < length p.groups
      exists group within = All-contains (λ (n : ℕ). n < length p.groups) c.fallen.items group (fallen_exist falls fell.exist) within

  watched_still : (b c : Family) (group : ℕ) → Falls p b c → IsIn p (family_of b.kept) group ⊎ Contains b.fallen.items group
      → IsIn p (family_of c.kept) group ⊎ Contains c.fallen.items group
  watched_still b c group falls (inr fell) = inr (subst (λ (xs : List ℕ). Contains xs group) (sym falls.behind) (Contains-append_left b.fallen.items (newly b c) group fell))
  watched_still b c group falls (inl w) = elim (cases_Bool (family_of c.kept group)) [
    | inl here ↦ inl (record { exists = w.exists; chosen = here })
    | inr gone ↦ inr (subst (λ (xs : List ℕ). Contains xs group) (sym falls.behind) (Contains-append_right b.fallen.items (newly b c) group
        (falls.noted group w (λ v. absurd (let no = sym gone ∙ v.chosen in cc)))))
  ]

  -- ---- an operator was looked at

  module _ (b c : Family) (w : Watches) (made : List Watch) (last since : List (Option ℕ)) (room operator : ℕ) (now : Option ℕ)
      (falls : Falls p b c) (one_each : length c.kept ≡ length p.groups) (exists : operator < length p.operators)
      (were : AreWatched p b w) (more : AreMore operator c.kept w.made made) (chained : AreChained made last) (as_many : length last ≡ length w.last)
      (few : length made < 2 ^ 32) (noted : since ≡ set w.since operator now) where
    abbrev pub after : Watches
    after = record { made = made; last = last; since = since; room = room }

    since_here : since_of since operator ≡ now
    since_here = ap (λ (xs : List (Option ℕ)). since_of xs operator) noted ∙ get_or-set_same w.since operator now None (let len = were.each_operator in omega arith)

    since_there : (other : ℕ) → other ≢ operator → since_of since other ≡ since_of w.since other
    since_there other ne = ap (λ (xs : List (Option ℕ)). since_of xs other) noted ∙ get_or-set_other w.since operator other now None ne

    its_groups : (place : ℕ) → place < length made → IsIn p (family_of c.kept) (watch_at made place).group ⊎ Contains c.fallen.items (watch_at made place).group
    its_groups place lt = elim (cases_lt place (length w.made)) [
      | inl before ↦ subst (λ (x : Watch). IsIn p (family_of c.kept) x.group ⊎ Contains c.fallen.items x.group)
          (sym (ap (λ (xs : List Watch). watch_at xs place) more.behind ∙ watch_still w.made more.more place before))
          (watched_still b c (watch_at w.made place).group falls (were.groups place before))
      | inr past ↦ (let kept = All-contains (λ (x : Watch). family_of c.kept x.group ≡ true) more.more (watch_at made place) more.in_family
          (subst (λ (xs : List Watch). Contains more.more (watch_at xs place)) (sym more.behind)
          (behind_is w.made more.more place past (let len = ap length more.behind in omega arith))) in
          inl (record { exists = let lt' = kept_below c.kept (watch_at made place).group kept in omega arith; chosen = kept }))
    ]

    pub watched_anew : ((start : ℕ) → now ≡ Some start → RestsBy p c.kept made operator start) → AreWatched p c after
    watched_anew rests = record {
      each_group = as_many ∙ were.each_group;
      each_operator = ap length noted ∙ (length-set w.since operator now ∙ were.each_operator);
      chained = chained;
      few = few;
      exist = grind (arith, common_steps, All-append, All-weaker);
      fell = fallen_still b c falls were.fell;
      groups = its_groups;
      rest = λ other start is. elim (cases_eq other operator) [
        | inl e ↦ subst (λ n. RestsBy p c.kept made n start) (sym e) (rests start (sym since_here ∙ (ap (since_of since) (sym e) ∙ is)))
        | inr ne ↦ subst (λ (xs : List Watch). RestsBy p c.kept xs other start) (sym more.behind)
            (rests_more b.kept c.kept w.made more.more other start falls.less (were.rest other start (sym (since_there other ne) ∙ is)))
      ];
    }

  -- ---- who was unwatched

  -- where no watch of the group from `at` on is valid, none behind the watch before it is
  linked_on : (w : Watches) (group at : ℕ) (next : Option ℕ) → at < length w.made
      → ((place : ℕ) → at ≤ place → place < length w.made → (watch_at w.made place).group ≡ group → IsOver w place)
      → IsLastBelow w.made at group next → IsUnwatchedBehind w group next
  linked_on w group at h1 lt over none = grind (arith, cases_lt)

  module _ (b c : Family) (w after : Watches) (operator : ℕ) (falls : Falls p b c) (one_each : length c.kept ≡ length p.groups)
      (anew : IsWatchedAnew operator c.kept w after) where
    still : (place : ℕ) → place < length w.made → watch_at after.made place ≡ watch_at w.made place
    still place lt = ap (λ (xs : List Watch). watch_at xs place) anew.made.behind ∙ watch_still w.made anew.made.more place lt

    -- a watch that was over is over, and each of the operator that was there
    pub over_still : (place : ℕ) → place < length w.made → IsOver w place → IsOver after place
    over_still place lt over start is from = grind (arith, common_steps, cases_eq, still)

    pub over_now : (place : ℕ) → place < length w.made → (watch_at w.made place).operator ≡ operator → IsOver after place
    over_now place lt e start is from = grind (arith, common_steps, still)

    -- a new watch is of a group of the family
    pub new_kept : (place : ℕ) → length w.made ≤ place → place < length after.made → family_of c.kept (watch_at after.made place).group ≡ true
    new_kept place past lt = All-contains (λ (x : Watch). family_of c.kept x.group ≡ true) anew.made.more (watch_at after.made place) anew.made.in_family
        (subst (λ (xs : List Watch). Contains anew.made.more (watch_at xs place)) (sym anew.made.behind)
        (behind_is w.made anew.made.more place past (let len = ap length anew.made.behind in omega arith)))

    kept_before : (group : ℕ) → family_of c.kept group ≡ true → family_of b.kept group ≡ true
    kept_before group is = (falls.less group (record { exists = let lt = kept_below c.kept group is in omega arith; chosen = is })).chosen

    pub stays_unwatched : StayUnwatched b.kept w after
    stays_unwatched group out unwatched place lt is = search (rules, arith, cases_lt, over_still, still, kept_before, new_kept)

    -- one watch more of a group was unwatched
    pub unwatched_behind : (group at : ℕ) (next : Option ℕ) → (family_of b.kept group ≡ true → ⊥) → at < length w.made → (watch_at w.made at).group ≡ group
        → ((place : ℕ) → at < place → place < length w.made → (watch_at w.made place).group ≡ group → IsOver w place)
        → IsOver after at → IsLastBelow w.made at group next → IsUnwatchedBehind after group next
    unwatched_behind group at next out lt its behind here link = search (rules, arith, linked_on, cases_lt, kept_before, new_kept, cases_eq, over_still, still, last_still, length-append)

  -- where no operator is looked at, nothing changes
  pub unwatched_if_over : (w : Watches) (group at : ℕ) (next : Option ℕ) → at < length w.made
      → ((place : ℕ) → at < place → place < length w.made → (watch_at w.made place).group ≡ group → IsOver w place)
      → IsOver w at → IsLastBelow w.made at group next → IsUnwatchedBehind w group next
  unwatched_if_over w group at next lt behind here link = linked_on w group at next lt (λ place from below of. elim (cases_eq place at) [
    | inl e ↦ subst (IsOver w) (sym e) here
    | inr ne ↦ behind place (omega arith) below of
  ]) link

  -- those who watch groups that aren't in the family stay unwatched
  pub unwatched_more : (xs : List ℕ) (count : ℕ) (kept : List Bool) (w after : Watches) → ((place : ℕ) → place < count → family_of kept (get_or xs place 0) ≡ true → ⊥)
      → StayUnwatched kept w after → FallenAreUnwatched xs count w → FallenAreUnwatched xs count after
  unwatched_more xs count kept w now out stay unwatched place lt = stay (get_or xs place 0) (out place lt) (unwatched place lt)

  -- what fell at first isn't in the family
  pub fell_first : (start b : Family) → Falls p start b → AreFallen p b → (place : ℕ) → place < length start.fallen.items
      → family_of b.kept (get_or start.fallen.items place 0) ≡ true → ⊥
  fell_first start b falls fell place lt = fell.out (get_or start.fallen.items place 0)
      (subst (λ (xs : List ℕ). Contains xs (get_or start.fallen.items place 0)) (sym falls.behind)
      (Contains-append_left start.fallen.items (newly start b) (get_or start.fallen.items place 0) (Contains-get_or start.fallen.items place 0 lt)))

  pub stay_then : (start b : Family) (first w after : Watches) → Falls p start b → length b.kept ≡ length p.groups
      → StayUnwatched start.kept first w → StayUnwatched b.kept w after → StayUnwatched start.kept first after
  stay_then start b first w after falls one_each before then group out unwatched = search (rules, arith, kept_below)

  pub unwatched_in : (xs ys : List ℕ) (more : List ℕ) (count : ℕ) (w : Watches) → ys ≡ xs ++ more → count ≤ length xs → FallenAreUnwatched xs count w → FallenAreUnwatched ys count w
  unwatched_in xs ys more count w is within unwatched place lt =
      subst (IsUnwatched w) (sym (ap (λ (l : List ℕ). get_or l place 0) is ∙ get_or_append_left xs more 0 place (omega arith))) (unwatched place lt)

  -- ---- in the end

  pub rest_in_the_end : (family : Family) (w : Watches) → AreWatched p family w → FallenAreUnwatched family.fallen.items (length family.fallen.items) w
      → AreLooseAtRest p family.kept [] w (length p.operators) → (operator : ℕ) → operator < length p.operators → IsAtRest p family.kept operator
  rest_in_the_end family w watched unwatched loose operator exists = by (since_of w.since operator) refl
    where
      stands : (start place : ℕ) → since_of w.since operator ≡ Some start → IsWatchOf w.made operator start place → IsIn p (family_of family.kept) (watch_at w.made place).group
      stands start place is of = search (rules, arith, get_or_default)

      by : (since : Option ℕ) → since_of w.since operator ≡ since → IsAtRest p family.kept operator
      by None is = loose refl operator exists is
      by (Some start) is = watched.rest operator start is family.kept (λ place inside. inside) (λ place of. stands start place is of)

  -- ---- at first

  pub none_watched : (family : Family) (w : Watches) → AreUnwatched (length p.groups) (length p.operators) w → family.fallen.items ≡ [] → AreWatched p family w
  none_watched family w are none = grind (arith, common_steps, All-nil)
