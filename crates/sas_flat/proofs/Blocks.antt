-- Appending a list to a block of lists.
use Rattle.sas_flat.proofs.Imports.{◌≡◌, ℕ, zero, suc, ◌+◌, ◌-◌, ◌<◌, ◌≤◌, ◌⊎◌, inl, inr, List, [], ◌∷◌, ◌++◌, length, get_or, take, drop, replicate, refl, sym, ap, map, subst, ◌∙◌, arith, append-nil, append_assoc, length-append, length-drop, slice_index, slice_range, take-append-le, drop-append-le, take-append-drop, length-take-le, length-map, get_or-take, get_or-drop, get_or-map, table, start_of, list_at, lists_of, AreEnds, get_or-append-add, leb_tells, eq-or-lt_of_le, get_or-append, get_or-append_seam, drop-append_seam, drop-append-add, take-length, take-append_seam, items_after, AreOpen, Kept}
use Rattle.sas_flat.proofs.Tables.{length-table, table_same, table_more, table_append, get_or-table, take-table}

start_same : (ends more : List ℕ) (k : ℕ) → k ≤ length ends → start_of (ends ++ more) k ≡ start_of ends k
start_same ends more zero h = refl
start_same ends more (suc k) h = get_or-append ends more 0 k (omega arith)

range_same : {X : Type 0} (items more : List X) (a b : ℕ) → a ≤ b → b ≤ length items → slice_range (items ++ more) a b ≡ slice_range items a b
range_same items more a b ab h =
    ap (λ l. take (b - a) l) (drop-append-le a items more (omega arith))
    ∙ take-append-le (b - a) (drop a items) more (omega (arith, length-drop a items))

range_last : {X : Type 0} (items list : List X) (a b : ℕ) → a ≡ length items → b ≡ length items + length list → slice_range (items ++ list) a b ≡ list
range_last items list a b start end =
    ap (λ k. take (b - k) (drop k (items ++ list))) start
    ∙ ap (λ l. take (b - length items) l) (drop-append_seam items list)
    ∙ ap (λ n. take n list) (omega arith)
    ∙ take-length list

-- a list is where it was, whatever ends came
pub list_first : {X : Type 0} (items : List X) (ends behind : List ℕ) (k : ℕ) → k < length ends → list_at items (ends ++ behind) k ≡ list_at items ends k
list_first items ends behind k h =
    ap (λ a. slice_range items a (slice_index (ends ++ behind) k)) (start_same ends behind k (omega arith))
    ∙ ap (λ b. slice_range items (start_of ends k) b) (get_or-append ends behind 0 k h)

-- and whatever items came
list_same : {X : Type 0} (items more : List X) (ends behind : List ℕ) → AreEnds ends (length items) → (k : ℕ) → k < length ends
    → list_at (items ++ more) (ends ++ behind) k ≡ list_at items ends k
list_same items more ends behind are k h =
    list_first (items ++ more) ends behind k h
    ∙ range_same items more (start_of ends k) (slice_index ends k) (are.ascending k h) (are.within k h)

-- no list
pub no_ends : AreEnds [] 0
no_ends = record { ascending = λ i h. omega (arith, h); within = λ i h. omega (arith, h); closed = refl }

pub no_list : {X : Type 0} (items : List X) (ends : List ℕ) → ends ≡ [] → lists_of items ends ≡ []
unfolding table
no_list items ends none = ap (λ l. lists_of items l) none

module _ {X : Type 0} (items : List X) (ends : List ℕ) (lists : List (List X)) (is : lists_of items ends ≡ lists) where
  -- as many lists as ends
  pub count_of : length ends ≡ length lists
  count_of = sym (length-table (length ends) (list_at items ends)) ∙ ap length is

  pub list_of : (k : ℕ) → k < length lists → list_at items ends k ≡ get_or lists k []
  list_of k h = sym (get_or-table (length ends) (list_at items ends) k [] (omega (arith, count_of))) ∙ ap (λ l. get_or l k []) is

-- one end more
module _ (ends : List ℕ) (count end : ℕ) (are : AreEnds ends count) (fits : count ≤ end) where
  more_end : length (ends ++ end ∷ []) ≡ length ends + 1
  more_end = omega (arith, length-append ends (end ∷ []))

  more_suc : length (ends ++ end ∷ []) ≡ suc (length ends)
  more_suc = omega (arith, more_end)

  last_start : start_of (ends ++ end ∷ []) (length ends) ≡ count
  last_start = start_same ends (end ∷ []) (length ends) (omega arith) ∙ are.closed

  last_end : slice_index (ends ++ end ∷ []) (length ends) ≡ end
  last_end = get_or-append_seam ends end [] 0

  old_end : (k : ℕ) → k < length ends → slice_index (ends ++ end ∷ []) k ≡ slice_index ends k
  old_end k h = get_or-append ends (end ∷ []) 0 k h

  each_end : (P : ℕ → Type 0) → ((k : ℕ) → k < length ends → P k) → P (length ends) → (k : ℕ) → k < length (ends ++ end ∷ []) → P k
  each_end P old last k h =
      let small : (k ≡ length ends) ⊎ (k < length ends) = eq-or-lt_of_le (omega (arith, more_end)) in
      elim small [ inl e ↦ subst P (sym e) last | inr below ↦ old k below ]

  pub ends_more : AreEnds (ends ++ end ∷ []) end
  ends_more = record {
    ascending = each_end (λ k. start_of (ends ++ end ∷ []) k ≤ slice_index (ends ++ end ∷ []) k)
        (λ k h. rw (start_same ends (end ∷ []) k (omega arith), old_end k h) (are.ascending k h))
        (omega (arith, last_start, last_end, fits));
    within = each_end (λ k. slice_index (ends ++ end ∷ []) k ≤ end)
        (λ k h. omega (arith, old_end k h, are.within k h, fits))
        (omega (arith, last_end));
    closed = ap (λ k. start_of (ends ++ end ∷ []) k) more_suc ∙ last_end;
  }

-- one list more
pub lists_more : {X : Type 0} (items list : List X) (ends : List ℕ) (end : ℕ) → AreEnds ends (length items) → end ≡ length items + length list
    → lists_of (items ++ list) (ends ++ end ∷ []) ≡ lists_of items ends ++ list ∷ []
lists_more items list ends end are is =
    table_more (length ends) (length (ends ++ end ∷ [])) (list_at items ends) (list_at (items ++ list) (ends ++ end ∷ [])) list
    (omega (arith, length-append ends (end ∷ []))) (list_same items list ends (end ∷ []) are)
    (range_last items list _ _ (start_same ends (end ∷ []) (length ends) (omega arith) ∙ are.closed) (get_or-append_seam ends end [] 0 ∙ is))

-- ---- empty lists behind the others

module _ {X : Type 0} (items : List X) where
  one_empty : (ends : List ℕ) → AreEnds ends (length items) → lists_of items (ends ++ length items ∷ []) ≡ lists_of items ends ++ [] ∷ []
  one_empty ends are =
      ap (λ (l : List X). lists_of l (ends ++ length items ∷ [])) (sym (append-nil items))
      ∙ lists_more items [] ends (length items) are (omega arith)

  -- so many of them
  pub empty_more : (n : ℕ) (ends : List ℕ) → AreEnds ends (length items)
      → lists_of items (ends ++ replicate n (length items)) ≡ lists_of items ends ++ replicate n []
  empty_more zero ends are = ap (λ e. lists_of items e) (append-nil ends) ∙ sym (append-nil (lists_of items ends))
  empty_more (suc n) ends are =
      ap (λ e. lists_of items e) (sym (append_assoc ends (length items ∷ []) (replicate n (length items))))
      ∙ empty_more n (ends ++ length items ∷ []) (ends_more ends (length items) (length items) are (omega arith))
      ∙ ap (λ l. l ++ replicate n []) (one_empty ends are)
      ∙ append_assoc (lists_of items ends) ([] ∷ []) (replicate n [])

-- ---- lists behind the others, from the block where they stand behind nothing

range_behind : {X : Type 0} (items more : List X) (a b : ℕ) → slice_range (items ++ more) (a + length items) (b + length items) ≡ slice_range more a b
range_behind items more a b =
    let long : (b + length items) - (a + length items) ≡ b - a = omega arith in
    let start : a + length items ≡ length items + a = omega arith in
    ap (λ n. take n (drop (a + length items) (items ++ more))) long
    ∙ ap (λ n. take (b - a) (drop n (items ++ more))) start
    ∙ ap (λ l. take (b - a) l) (drop-append-add items more a)

module _ {X : Type 0} (items more : List X) (ends behind : List ℕ) (are : AreEnds ends (length items)) (those : AreEnds behind (length more)) where
  abbrev all : List ℕ
  all = ends ++ map (λ end. end + length items) behind

  all_length : length all ≡ length ends + length behind
  all_length = length-append ends (map (λ end. end + length items) behind) ∙ ap (λ n. length ends + n) (length-map behind (λ end. end + length items))

  end_behind : (j : ℕ) → j < length behind → slice_index all (length ends + j) ≡ slice_index behind j + length items
  end_behind j h =
      get_or-append-add ends (map (λ end. end + length items) behind) j 0
      ∙ get_or-map (λ end. end + length items) behind j 0 0 h

  start_behind : (j : ℕ) → j ≤ length behind → start_of all (length ends + j) ≡ start_of behind j + length items
  start_behind zero h =
      let none : length ends + zero ≡ length ends = omega arith in
      let no_more : length items ≡ start_of behind zero + length items = omega arith in
      ap (λ k. start_of all k) none ∙ start_same ends (map (λ end. end + length items) behind) (length ends) (omega arith) ∙ are.closed ∙ no_more
  start_behind (suc j) h =
      let after : length ends + suc j ≡ suc (length ends + j) = omega arith in
      ap (λ k. start_of all k) after ∙ end_behind j (omega arith)

  list_behind : (j : ℕ) → j < length behind → list_at (items ++ more) all (length ends + j) ≡ list_at more behind j
  list_behind j h =
      ap (λ a. slice_range (items ++ more) a (slice_index all (length ends + j))) (start_behind j (omega arith))
      ∙ ap (λ b. slice_range (items ++ more) (start_of behind j + length items) b) (end_behind j h)
      ∙ range_behind items more (start_of behind j) (slice_index behind j)

  pub lists_append : lists_of (items ++ more) all ≡ lists_of items ends ++ lists_of more behind
  lists_append =
      ap (λ n. table n (list_at (items ++ more) all)) all_length
      ∙ table_append (length ends) (length behind) _ _ _ (list_same items more ends (map (λ end. end + length items) behind) are) list_behind

  each_of_all : (P : ℕ → Type 0) → ((k : ℕ) → k < length ends → P k) → ((j : ℕ) → j < length behind → P (length ends + j)) → (k : ℕ) → k < length all → P k
  each_of_all P first second k h =
      elim (leb_tells (length ends) k) [
        | inl above ↦ let place : length ends + (k - length ends) ≡ k = omega (arith, above.1) in
            subst P place (second (k - length ends) (omega (arith, above.1, all_length)))
        | inr below ↦ first k below.1
      ]

  pub ends_append : AreEnds all (length (items ++ more))
  ends_append = record {
    ascending = each_of_all (λ k. start_of all k ≤ slice_index all k)
        (λ k h. omega (arith, start_same ends (map (λ end. end + length items) behind) k (omega arith), get_or-append ends (map (λ end. end + length items) behind) 0 k h, are.ascending k h))
        (λ j h. omega (arith, start_behind j (omega arith), end_behind j h, those.ascending j h));
    within = each_of_all (λ k. slice_index all k ≤ length (items ++ more))
        (λ k h. omega (arith, get_or-append ends (map (λ end. end + length items) behind) 0 k h, are.within k h, length-append items more))
        (λ j h. omega (arith, end_behind j h, those.within j h, length-append items more));
    closed = ap (λ k. start_of all k) all_length ∙ omega (arith, start_behind (length behind) (omega arith), those.closed, length-append items more);
  }

-- ---- fewer lists

-- a place between two ends is passed by neither
start_within : (ends : List ℕ) (count k : ℕ) → AreEnds ends count → k ≤ length ends → start_of ends k ≤ count
start_within ends count zero are h = omega arith
start_within ends count (suc k) are h = are.within k (omega arith)

-- lists end in the order in which they stand
ends_ordered : (ends : List ℕ) (count j k : ℕ) → AreEnds ends count → j < k → k ≤ length ends → slice_index ends j ≤ start_of ends k
ends_ordered ends count j zero are h b = absurd (omega arith)
ends_ordered ends count j (suc k) are h b =
    let last : (j ≡ k) ⊎ (j < k) = eq-or-lt_of_le (omega arith) in
    elim last [
      | inl e ↦ ap-le e
      | inr below ↦ omega (arith, ends_ordered ends count j k are below (omega arith), are.ascending k (omega arith))
    ]
  where
    ap-le : j ≡ k → slice_index ends j ≤ slice_index ends k
    ap-le e = subst (λ (i : ℕ). slice_index ends j ≤ slice_index ends i) e (omega arith)

start_taken : (ends : List ℕ) (n k : ℕ) → k ≤ n → start_of (take n ends) k ≡ start_of ends k
start_taken ends n zero h = refl
start_taken ends n (suc k) h = get_or-take n ends k 0 (omega arith)

range_taken : {X : Type 0} (items : List X) (n a b : ℕ) → a ≤ b → b ≤ n → n ≤ length items → slice_range (take n items) a b ≡ slice_range items a b
range_taken items n a b ab bn h =
    sym (range_same (take n items) (drop n items) a b ab (omega (arith, length-take-le n items h)))
    ∙ ap (λ l. slice_range l a b) (take-append-drop n items)

module _ {X : Type 0} (items : List X) (ends : List ℕ) (n : ℕ) (are : AreEnds ends (length items)) (fewer : n ≤ length ends) where
  cut_within : start_of ends n ≤ length items
  cut_within = start_within ends (length items) n are fewer

  taken_length : length (take n ends) ≡ n
  taken_length = length-take-le n ends fewer

  pub ends_taken : AreEnds (take n ends) (length (take (start_of ends n) items))
  ends_taken = record {
    ascending = λ k h. rw (start_taken ends n k (omega (arith, taken_length)), get_or-take n ends k 0 (omega (arith, taken_length))) (are.ascending k (omega (arith, taken_length)));
    within = λ k h. omega (
      arith,
      taken_length,
      get_or-take n ends k 0 (omega (arith, taken_length)),
      ends_ordered ends (length items) k n are (omega (arith, taken_length)) fewer,
      length-take-le (start_of ends n) items cut_within,
    );
    closed = ap (λ k. start_of (take n ends) k) taken_length ∙ start_taken ends n n (omega arith) ∙ sym (length-take-le (start_of ends n) items cut_within);
  }

  list_taken : (k : ℕ) → k < n → list_at (take (start_of ends n) items) (take n ends) k ≡ list_at items ends k
  list_taken k h =
      ap (λ a. slice_range (take (start_of ends n) items) a (slice_index (take n ends) k)) (start_taken ends n k (omega arith))
      ∙ ap (λ b. slice_range (take (start_of ends n) items) (start_of ends k) b) (get_or-take n ends k 0 h)
      ∙ range_taken items (start_of ends n) (start_of ends k) (slice_index ends k) (are.ascending k (omega arith))
      (ends_ordered ends (length items) k n are h fewer) cut_within

  pub lists_taken : lists_of (take (start_of ends n) items) (take n ends) ≡ take n (lists_of items ends)
  lists_taken =
      ap (λ m. table m (list_at (take (start_of ends n) items) (take n ends))) taken_length
      ∙ table_same n _ _ list_taken
      ∙ sym (take-table (length ends) (list_at items ends) n fewer)

-- ---- lists after which more items may follow

module _ {X : Type 0} (items : List X) (ends : List ℕ) (are : AreOpen ends (length items)) where
  pub ends_done : AreEnds ends (length (take (start_of ends (length ends)) items))
  ends_done = subst (λ (n : ℕ). AreEnds ends n) (sym (length-take-le _ items are.within)) are.done

  pub list_done : (k : ℕ) → k < length ends → list_at (take (start_of ends (length ends)) items) ends k ≡ list_at items ends k
  list_done k h = range_taken items _ _ _ (are.done.ascending k h) (are.done.within k h) are.within

  pub lists_done : lists_of (take (start_of ends (length ends)) items) ends ≡ lists_of items ends
  lists_done = table_same (length ends) _ _ list_done

  pub ends_closed : AreEnds (ends ++ length items ∷ []) (length items)
  ends_closed = ends_more ends _ (length items) are.done are.within

  pub list_last : list_at items (ends ++ length items ∷ []) (length ends) ≡ items_after items ends
  list_last =
      ap (λ a. slice_range items a (slice_index (ends ++ length items ∷ []) (length ends))) (start_same ends (length items ∷ []) (length ends) (omega arith))
      ∙ ap (λ b. slice_range items (start_of ends (length ends)) b) (get_or-append_seam ends (length items) [] 0)
      ∙ ap (λ n. take n (items_after items ends)) (sym (length-drop (start_of ends (length ends)) items))
      ∙ take-length (items_after items ends)

  pub lists_closed : lists_of items (ends ++ length items ∷ []) ≡ lists_of items ends ++ items_after items ends ∷ []
  lists_closed = table_more (length ends) _ _ _ _ (omega (arith, length-append ends (length items ∷ []))) (list_first items ends (length items ∷ [])) list_last

-- items came after the last list
module _ {X : Type 0} (old new : List X) (ends : List ℕ) (are : AreEnds ends (length old)) (kept : Kept old new) where
  pub ends_opened : AreOpen ends (length new)
  ends_opened = record {
    done = subst (λ (n : ℕ). AreEnds ends n) (sym are.closed) are;
    within = omega (arith, are.closed, ap length kept.is, length-append old kept.more);
  }

  pub list_opened : (k : ℕ) → k < length ends → list_at new ends k ≡ list_at old ends k
  list_opened k h =
      sym (list_done new ends ends_opened k h)
      ∙ ap (λ l. list_at l ends k) (ap (λ n. take n new) are.closed ∙ ap (take (length old)) kept.is ∙ take-append_seam old kept.more)

  pub lists_opened : lists_of new ends ≡ lists_of old ends
  lists_opened = table_same (length ends) _ _ list_opened

  pub after_opened : items_after new ends ≡ kept.more
  after_opened = ap (λ n. drop n new) are.closed ∙ ap (drop (length old)) kept.is ∙ drop-append_seam old kept.more

  pub one_list_more : lists_of new ends ++ items_after new ends ∷ [] ≡ lists_of old ends ++ kept.more ∷ []
  one_list_more = ap (λ l. l ++ items_after new ends ∷ []) lists_opened ∙ ap (λ l. lists_of old ends ++ l ∷ []) after_opened

-- ---- a list and its items

module _ {X : Type 0} (items : List X) (ends : List ℕ) (are : AreEnds ends (length items)) (k : ℕ) (h : k < length ends) where
  pub list_length : length (list_at items ends k) + start_of ends k ≡ slice_index ends k
  list_length = omega (
    arith,
    length-take-le (slice_index ends k - start_of ends k) (drop (start_of ends k) items)
        (omega (arith, length-drop (start_of ends k) items, are.within k h)),
    are.ascending k h,
  )

  -- the item at a place of the list
  pub item_of_list : (i : ℕ) (d : X) → i < length (list_at items ends k) → get_or (list_at items ends k) i d ≡ get_or items (start_of ends k + i) d
  item_of_list i d below =
      get_or-take (slice_index ends k - start_of ends k) (drop (start_of ends k) items) i d (omega (arith, list_length, are.ascending k h))
      ∙ get_or-drop (start_of ends k) items i d
