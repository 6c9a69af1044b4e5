-- The counts of lines along a tracker: part by part, they are those of a task.
use Rattle.sas_task_file.proofs.Imports.{◌≡◌, ℕ, suc, ◌+◌, ◌-◌, List, [], ◌∷◌, ◌++◌, length, map, refl, sym, ap, subst, ◌∙◌, append_assoc, append-nil, arith, codes, length-append, length-map, Option, Some, None, flat_map, Fact, Variable, Operator, Effect, Place, TaskLine, word, name, number, signed, fact, effect, head, single_line, variable_lines, group_lines, operator_lines, rule_lines, Tracker, track_line, track, row_in, number_in, Counts, ListCount, after_count, counts_after, count_at, Counted, in_order, before_items, list_counts, section_counts, variable_counts, group_counts, operator_counts, rule_counts}
use Rattle.sas_task_file.specs.declared.places.Place.TheVariants as place
use Rattle.sas_task_file.proofs.Tracking.{track-append}

-- the counts of lines after a tracker, of which the first is line k
abbrev pub counts_along : ℕ → Tracker → Counts → List TaskLine → List (Option ListCount)
counts_along k t c [] = []
counts_along k t c (i ∷ items) = count_at t.place (length t.ranges) c ∷ counts_along (k + 1) (track_line t i) (after_count (row_in t).moves k (number_in i) c) items

-- ---- lines after lines

length-counts : (k : ℕ) (t : Tracker) (c : Counts) (items : List TaskLine) → length (counts_along k t c items) ≡ length items
length-counts k t c [] = refl
length-counts k t c (i ∷ items) = ap suc (length-counts (k + 1) (track_line t i) (after_count (row_in t).moves k (number_in i) c) items)

counts-append : (k : ℕ) (t : Tracker) (c : Counts) (a b : List TaskLine) → counts_along k t c (a ++ b) ≡ counts_along k t c a ++ counts_along (k + length a) (track t a) (counts_after k t c a) b
counts-append k t c [] b = ap (λ (n : ℕ). counts_along n t c b) (omega arith)
counts-append k t c (i ∷ a) b =
    let u = track_line t i in
    let d = after_count (row_in t).moves k (number_in i) c in
    let on : k + 1 + length a ≡ k + suc (length a) = omega arith in
    ap (λ (x : List (Option ListCount)). count_at t.place (length t.ranges) c ∷ x) (counts-append (k + 1) u d a b ∙ ap (λ (n : ℕ). counts_along (k + 1) u d a ++ counts_along n (track u a) (counts_after (k + 1) u d a) b) on)

pub after-append : (k : ℕ) (t : Tracker) (c : Counts) (a b : List TaskLine) → counts_after k t c (a ++ b) ≡ counts_after (k + length a) (track t a) (counts_after k t c a) b
after-append k t c [] b = ap (λ (n : ℕ). counts_after n t c b) (omega arith)
after-append k t c (i ∷ a) b =
    let u = track_line t i in
    let d = after_count (row_in t).moves k (number_in i) c in
    let on : k + 1 + length a ≡ k + suc (length a) = omega arith in
    after-append (k + 1) u d a b ∙ ap (λ (n : ℕ). counts_after n (track u a) (counts_after (k + 1) u d a) b) on

-- from line k on, the lines have these counts, and lead to that tracker and those counts
pub record Tells (k : ℕ) (t : Tracker) (c : Counts) (items : List TaskLine) (said : List (Option ListCount)) (u : Tracker) (d : Counts) : Type 0 where
  pub counts : counts_along k t c items ≡ said
  pub tracks : track t items ≡ u
  pub notes : counts_after k t c items ≡ d

infixr 20 ◌and◌
pub ◌and◌ : {k : ℕ} {t u v : Tracker} {c d e : Counts} {a b : List TaskLine} {m n : List (Option ListCount)} → Tells k t c a m u d → Tells (k + length m) u d b n v e → Tells k t c (a ++ b) (m ++ n) v e
◌and◌ {k = k} {t = t} {u = u} {c = c} {d = d} {a = a} {b = b} {m = m} {n = n} s r =
    let long : length a ≡ length m = sym (length-counts k t c a) ∙ ap length s.counts in
    record {
      counts = counts-append k t c a b
          ∙ ap (λ (x : Tracker). counts_along k t c a ++ counts_along (k + length a) x (counts_after k t c a) b) s.tracks
          ∙ ap (λ (x : Counts). counts_along k t c a ++ counts_along (k + length a) u x b) s.notes
          ∙ ap (λ (x : ℕ). counts_along k t c a ++ counts_along (k + x) u d b) long
          ∙ ap (λ (x : List (Option ListCount)). counts_along k t c a ++ x) r.counts
          ∙ ap (λ (x : List (Option ListCount)). x ++ n) s.counts;
      tracks = track-append t a b ∙ ap (λ (x : Tracker). track x b) s.tracks ∙ r.tracks;
      notes = after-append k t c a b
          ∙ ap (λ (x : Tracker). counts_after (k + length a) x (counts_after k t c a) b) s.tracks
          ∙ ap (λ (x : Counts). counts_after (k + length a) u x b) s.notes
          ∙ ap (λ (x : ℕ). counts_after (k + x) u d b) long
          ∙ r.notes;
    }

module _ {k : ℕ} {t u : Tracker} {c d : Counts} {a : List TaskLine} {m : List (Option ListCount)} (s : Tells k t c a m u d) where
  -- the same, in another form
  pub spelled_so : {b : List TaskLine} → a ≡ b → Tells k t c b m u d
  spelled_so e = subst (λ (x : List TaskLine). Tells k t c x m u d) e s

  pub told_so : {n : List (Option ListCount)} → m ≡ n → Tells k t c a n u d
  told_so e = record { counts = s.counts ∙ e; tracks = s.tracks; notes = s.notes }

  pub leading_to : {v : Tracker} → u ≡ v → Tells k t c a m v d
  leading_to e = record { counts = s.counts; tracks = s.tracks ∙ e; notes = s.notes }

-- no line
pub no_line : {k : ℕ} {t : Tracker} {c : Counts} → Tells k t c [] [] t c
no_line = record { counts = refl; tracks = refl; notes = refl }

-- ---- n lines of one kind

module _ {A : Type 0} (says : A → TaskLine) (p : Place) (t : Tracker) (c : Counts) (x : Option ListCount)
    (moves : (n : ℕ) (i : TaskLine) → track_line (record t { place = p; more = suc n }) i ≡ record t { place = p; more = suc n - 1 })
    (notes : (n k : ℕ) (i : TaskLine) → after_count (row_in (record t { place = p; more = suc n })).moves k (number_in i) c ≡ c)
    (has : count_at p (length t.ranges) c ≡ x) where
  one_told : (k n : ℕ) (a : A) → Tells k (record t { place = p; more = suc n }) c (says a ∷ []) (x ∷ []) (record t { place = p; more = n }) c
  one_told k n a =
      let less : suc n - 1 ≡ n = omega arith in
      record {
        counts = ap (λ (y : Option ListCount). y ∷ []) has;
        tracks = moves n (says a) ∙ ap (λ (y : ℕ). let r : Tracker = record t { place = p; more = y } in r) less;
        notes = notes n k (says a);
      }

  pub each_told : (k : ℕ) (xs : List A) → Tells k (record t { place = p; more = length xs }) c (flat_map (single_line says) xs) (map (λ _. x) xs) (record t { place = p; more = 0 }) c
  each_told k [] = no_line
  each_told k (a ∷ xs) = ◌and◌ (one_told k (length xs) a) (each_told (k + 1) xs)

-- the items of a list, and the line behind them
module _ {A : Type 0} (says : A → TaskLine) (p : Place) (t : Tracker) (c : Counts)
    (moves : (n : ℕ) (i : TaskLine) → track_line (record t { place = p; more = suc n }) i ≡ record t { place = p; more = suc n - 1 })
    (notes : (n k : ℕ) (i : TaskLine) → after_count (row_in (record t { place = p; more = suc n })).moves k (number_in i) c ≡ c)
    (has : count_at p (length t.ranges) c ≡ Some c.list) where
  pub list_told : (k : ℕ) (xs : List A) (i : TaskLine) → c.list ≡ before_items xs k
      → Tells k (record t { place = p; more = length xs }) c (flat_map (single_line says) xs ++ i ∷ []) (list_counts xs k)
      (track_line (record t { place = p; more = 0 }) i) (after_count (row_in (record t { place = p; more = 0 })).moves (k + length xs) (number_in i) c)
  list_told k xs i e =
      let x = Some (before_items xs k) in
      let is : count_at p (length t.ranges) c ≡ x = has ∙ ap (λ (y : ListCount). Some y) e in
      let u : Tracker = record t { place = p; more = 0 } in
      let long = length-map xs (λ _. x) in
      ◌and◌ (each_told says p t c x moves notes is k xs)
      (record { counts = ap (λ (y : Option ListCount). y ∷ []) is; tracks = refl; notes = ap (λ (n : ℕ). after_count (row_in u).moves (k + n) (number_in i) c) long })

-- the number of the next list stands on the line behind the items
list_line : {A : Type 0} (k : ℕ) (xs : List A) → k + length xs ≡ k + length (list_counts xs k) - 1
list_line k xs =
    let x = Some (before_items xs k) in
    omega (arith, length-append (map (λ _. x) xs) (x ∷ []), length-map xs (λ _. x))

-- ---- blocks

-- a block of a section leads to that tracker, and keeps the number of the section's blocks
pub record Block (k : ℕ) (t : Tracker) (c : Counts) (items : List TaskLine) (said : List (Option ListCount)) (u : Tracker) : Type 0 where
  pub behind : Counts
  pub tells : Tells k t c items said u behind
  pub same : behind.section ≡ c.section

-- a block with the count of its section on its first line
abbrev pub block_counts : ListCount → List Counted → Counted
block_counts x inside = in_order ((λ _. Some x ∷ []) ∷ inside)

line_before : (k n : ℕ) (c : Counts) → (let r : ListCount = record { line = k + n; number = c.list.number } in r ≡ record { line = k + suc n - 1; number = c.list.number })
line_before k n c = ap (λ (l : ℕ). let r : ListCount = record { line = l; number = c.list.number } in r) (omega arith)

module _ (t : Tracker) (n k : ℕ) (c : Counts) where
  one_less : suc n - 1 ≡ n
  one_less = omega arith

  -- these lines, of a block that has begun
  within : Place → ℕ → Tracker
  within p more = record t { place = p; left = suc n - 1; more = more }

  abbrev behind_block : Place → List ℕ → Tracker
  behind_block p ranges = record t { place = p; left = n; more = 0; ranges = ranges }

  ended_block : (p : Place) (ranges : List ℕ) → (let r : Tracker = record t { place = p; left = suc n - 1; more = 0; ranges = ranges } in r) ≡ behind_block p ranges
  ended_block p ranges = ap (λ (l : ℕ). let r : Tracker = record t { place = p; left = l; more = 0; ranges = ranges } in r) one_less

  pub variable_told : (v : Variable) → Block k (record t { place = place.Variables; left = suc n }) c (variable_lines v) (block_counts c.section (variable_counts v) k) (behind_block place.Variables (t.ranges ++ length v.values ∷ []))
  variable_told v =
      let ranges = t.ranges ++ length v.values ∷ [] in
      let d : Counts = record c { list = record { line = k + 1 + 2; number = length v.values } } in
      let u : Tracker = record t { left = suc n - 1; ranges = ranges } in
      let begins : Tells k (record t { place = place.Variables; left = suc n }) c (word (codes "begin_variable") ∷ []) (Some c.section ∷ []) (record t { place = place.VariableName; left = suc n - 1 }) c = record { counts = refl; tracks = refl; notes = refl } in
      let names : Tells (k + 1) (record t { place = place.VariableName; left = suc n - 1 }) c (name v.name ∷ signed v.layer ∷ number (length v.values) ∷ []) (None ∷ None ∷ None ∷ []) (record u { place = place.VariableValues; more = length v.values }) d =
      record { counts = refl; tracks = refl; notes = ap (λ (l : ℕ). let r : Counts = record c { list = record { line = l; number = length v.values } } in r) (omega arith) } in
      let values = list_told name place.VariableValues u d (λ m i. refl) (λ m l i. refl) refl (k + 1 + 3) v.values (word (codes "end_variable")) (line_before (k + 1) 2 d) in
      record {
        behind = d;
        tells = spelled_so (leading_to (told_so (◌and◌ begins (◌and◌ names (◌and◌ values no_line))) refl) (ended_block place.Variables ranges)) (simp (append_assoc, append-nil));
        same = refl;
      }

  pub group_told : (facts : List Fact) → Block k (record t { place = place.Groups; left = suc n }) c (group_lines facts) (block_counts c.section (group_counts facts) k) (behind_block place.Groups t.ranges)
  group_told facts =
      let d : Counts = record c { list = record { line = k + 1 + 0; number = length facts } } in
      let u : Tracker = record t { left = suc n - 1 } in
      let begins : Tells k (record t { place = place.Groups; left = suc n }) c (word (codes "begin_mutex_group") ∷ []) (Some c.section ∷ []) (record u { place = place.GroupSize }) c = record { counts = refl; tracks = refl; notes = refl } in
      let size : Tells (k + 1) (record u { place = place.GroupSize }) c (number (length facts) ∷ []) (None ∷ []) (record u { place = place.GroupFacts; more = length facts }) d =
      record { counts = refl; tracks = refl; notes = ap (λ (l : ℕ). let r : Counts = record c { list = record { line = l; number = length facts } } in r) (omega arith) } in
      let each = list_told fact place.GroupFacts u d (λ m i. refl) (λ m l i. refl) refl (k + 1 + 1) facts (word (codes "end_mutex_group")) (line_before (k + 1) 0 d) in
      record {
        behind = d;
        tells = spelled_so (leading_to (◌and◌ begins (◌and◌ size (◌and◌ each no_line))) (ended_block place.Groups t.ranges)) (simp (append_assoc, append-nil));
        same = refl;
      }

  pub operator_told : (o : Operator) → Block k (record t { place = place.Operators; left = suc n }) c (operator_lines o) (block_counts c.section (operator_counts o) k) (behind_block place.Operators t.ranges)
  operator_told o =
      let d : Counts = record c { list = record { line = k + 1 + 1; number = length o.prevail } } in
      let l = k + 1 + 2 + length o.prevail in
      let e : Counts = record c { list = record { line = l; number = length o.effects } } in
      let u : Tracker = record t { left = suc n - 1 } in
      let begins : Tells k (record t { place = place.Operators; left = suc n }) c (word (codes "begin_operator") ∷ []) (Some c.section ∷ []) (record u { place = place.OperatorName }) c = record { counts = refl; tracks = refl; notes = refl } in
      let names : Tells (k + 1) (record u { place = place.OperatorName }) c (name o.name ∷ number (length o.prevail) ∷ []) (None ∷ None ∷ []) (record u { place = place.Prevail; more = length o.prevail }) d = record { counts = refl; tracks = refl; notes = refl } in
      let prevail = list_told fact place.Prevail u d (λ m i. refl) (λ m l i. refl) refl (k + 1 + 2) o.prevail (number (length o.effects)) (line_before (k + 1) 1 d) in
      let effects = list_told effect place.Effects u e (λ m i. refl) (λ m l i. refl) refl (k + 1 + 2 + length (list_counts o.prevail (k + 1 + 2))) o.effects (number o.cost)
      (ap (λ (y : ℕ). let r : ListCount = record { line = y; number = length o.effects } in r) (list_line (k + 1 + 2) o.prevail)) in
      let ends : Tells (k + 1 + 2 + length (list_counts o.prevail (k + 1 + 2)) + length (list_counts o.effects (k + 1 + 2 + length (list_counts o.prevail (k + 1 + 2))))) (record u { place = place.OperatorEnd; more = 0 }) e (word (codes "end_operator") ∷ []) (None ∷ []) (record u { place = place.Operators; more = 0 }) e = record { counts = refl; tracks = refl; notes = refl } in
      record {
        behind = e;
        tells = spelled_so (leading_to (◌and◌ begins (◌and◌ names (◌and◌ prevail (◌and◌ effects (◌and◌ ends no_line))))) (ended_block place.Operators t.ranges)) (simp (append_assoc, append-nil));
        same = refl;
      }

  pub rule_told : (r : Effect) → Block k (record t { place = place.Rules; left = suc n }) c (rule_lines r) (block_counts c.section (rule_counts r) k) (behind_block place.Rules t.ranges)
  rule_told r =
      let d : Counts = record c { list = record { line = k + 1 + 0; number = length r.conditions } } in
      let u : Tracker = record t { left = suc n - 1 } in
      let begins : Tells k (record t { place = place.Rules; left = suc n }) c (word (codes "begin_rule") ∷ []) (Some c.section ∷ []) (record u { place = place.RuleSize }) c = record { counts = refl; tracks = refl; notes = refl } in
      let size : Tells (k + 1) (record u { place = place.RuleSize }) c (number (length r.conditions) ∷ []) (None ∷ []) (record u { place = place.RuleConditions; more = length r.conditions }) d =
      record { counts = refl; tracks = refl; notes = ap (λ (l : ℕ). let q : Counts = record c { list = record { line = l; number = length r.conditions } } in q) (omega arith) } in
      let each = list_told fact place.RuleConditions u d (λ m i. refl) (λ m l i. refl) refl (k + 1 + 1) r.conditions (head r.var r.old r.new) (line_before (k + 1) 0 d) in
      let ends : Tells (k + 1 + 1 + length (list_counts r.conditions (k + 1 + 1))) (record u { place = place.RuleEnd; more = 0 }) d (word (codes "end_rule") ∷ []) (None ∷ []) (record u { place = place.Rules; more = 0 }) d = record { counts = refl; tracks = refl; notes = refl } in
      record {
        behind = d;
        tells = spelled_so (leading_to (◌and◌ begins (◌and◌ size (◌and◌ each (◌and◌ ends no_line)))) (ended_block place.Rules t.ranges)) (simp (append_assoc, append-nil));
        same = refl;
      }

-- ---- sections

in_order-append : (a b : List Counted) (k : ℕ) → in_order (a ++ b) k ≡ in_order a k ++ in_order b (k + length (in_order a k))
in_order-append [] b k = ap (in_order b) (omega arith)
in_order-append (part ∷ a) b k =
    let l = k + length (part k) in
    let on : l + length (in_order a l) ≡ k + length (part k ++ in_order a l) = omega (arith, length-append (part k) (in_order a l)) in
    ap (λ (x : List (Option ListCount)). part k ++ x) (in_order-append a b l ∙ ap (λ (n : ℕ). in_order a l ++ in_order b n) on)
    ∙ sym (append_assoc (part k) (in_order a l) (in_order b (k + length (part k ++ in_order a l))))

module _ {A : Type 0} (lines : A → List TaskLine) (inside : A → List Counted) (at_left : List ℕ → ℕ → Tracker) (next : List ℕ → A → List ℕ)
    (block : (r : List ℕ) (n k : ℕ) (c : Counts) (a : A) → Block k (at_left r (suc n)) c (lines a) (block_counts c.section (inside a) k) (at_left (next r a) n)) where
  -- the blocks of a section
  blocks_told : (r : List ℕ) (k : ℕ) (c : Counts) (x : ListCount) (xs : List A) → c.section ≡ x → (s : List ℕ) × Block k (at_left r (length xs)) c (flat_map lines xs) (in_order (flat_map (λ a. (λ _. Some x ∷ []) ∷ inside a) xs) k) (at_left s 0)
  blocks_told r k c x [] e = (r, record { behind = c; tells = no_line; same = refl })
  blocks_told r k c x (a ∷ xs) e =
      let f = block r (length xs) k c a in
      let first : Tells k (at_left r (suc (length xs))) c (lines a) (block_counts x (inside a) k) (at_left (next r a) (length xs)) f.behind = told_so f.tells (ap (λ (y : ListCount). block_counts y (inside a) k) e) in
      let more = blocks_told (next r a) (k + length (block_counts x (inside a) k)) f.behind x xs (f.same ∙ e) in (
        more.0,
        record {
          behind = more.1.behind;
          tells = told_so (◌and◌ first more.1.tells) (sym (in_order-append ((λ _. Some x ∷ []) ∷ inside a) (flat_map (λ b. (λ _. Some x ∷ []) ∷ inside b) xs) k));
          same = more.1.same ∙ f.same;
        },
      )

  -- the blocks of a section, and the line behind them; where they lead is known
  pub section_told : (r : List ℕ) (k : ℕ) (c : Counts) (xs : List A) (i : TaskLine) (u : Tracker) → c.section ≡ before_items xs k → track (at_left r (length xs)) (flat_map lines xs) ≡ u → ((d : Counts) → count_at u.place (length u.ranges) d ≡ Some d.section)
      → (d : Counts) × Tells k (at_left r (length xs)) c (flat_map lines xs ++ i ∷ []) (section_counts inside xs k) (track_line u i) (after_count (row_in u).moves (k + length (section_counts inside xs k) - 1) (number_in i) d)
  section_told r k c xs i u e ends has =
      let x = before_items xs k in
      let count : Counted = λ _. Some x ∷ [] in
      let parts = flat_map (λ a. count ∷ inside a) xs in
      let blocks = (blocks_told r k c x xs e).1 in
      let d = blocks.behind in
      let there : Tells k (at_left r (length xs)) c (flat_map lines xs) (in_order parts k) u d = record { counts = blocks.tells.counts; tracks = ends; notes = blocks.tells.notes } in
      let last : k + length (in_order parts k) ≡ k + length (section_counts inside xs k) - 1 = omega (arith, ap length (in_order-append parts (count ∷ []) k), length-append (in_order parts k) (Some x ∷ [])) in
      let behind : Tells (k + length (in_order parts k)) u d (i ∷ []) (Some x ∷ []) (track_line u i) (after_count (row_in u).moves (k + length (section_counts inside xs k) - 1) (number_in i) d) =
      record { counts = ap (λ (y : Option ListCount). y ∷ []) (has d ∙ ap (λ (y : ListCount). Some y) (blocks.same ∙ e)); tracks = refl; notes = ap (λ (n : ℕ). after_count (row_in u).moves n (number_in i) d) last } in
      (d, told_so (◌and◌ there behind) (sym (in_order-append parts (count ∷ []) k)))
