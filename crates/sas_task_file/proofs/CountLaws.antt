-- The counts of a task are those of a tracker over its lines. After the same lines of a task, one
-- count applies, or none.
use Rattle.sas_task_file.proofs.Imports.{ranges_of, ◌≡◌, ℕ, suc, ◌+◌, ◌-◌, List, [], ◌∷◌, ◌++◌, length, map, refl, sym, ap, ◌∙◌, append_assoc, append-nil, map-append, arith, codes, length-map, Option, Some, None, slice_get, flat_map, Variable, Parts, WellRanged, cut_at, TaskLine, word, number, fact, single_line, version_lines, metric_lines, variable_lines, group_lines, operator_lines, rule_lines, task_layout, task_line_bytes, Tracker, tracker_start, track_line, track, row_in, number_in, Counts, ListCount, after_count, counts_start, counts_after, counted_on_seven, count_at, list_counts, section_counts, variable_counts, group_counts, operator_counts, rule_counts, task_counts, IsCounted, OneCount, SomeCount}
use Rattle.sas_task_file.specs.declared.places.Place.TheVariants as place
use Rattle.sas_task_file.proofs.TaskSections.{InRanges, state_paired}
use Rattle.sas_task_file.proofs.TrackedSections.{variables_scan, groups_scan, operators_scan, rules_scan}
use Rattle.sas_task_file.proofs.Counting.{counts_along, Tells, spelled_so, leading_to, ◌and◌, no_line, each_told, list_told, variable_told, group_told, operator_told, rule_told, section_told}
use Rattle.sas_task_file.proofs.MarkLaws.{same_items}

-- ---- all lines of a task

many_values : (vs : List Variable) (xs : List ℕ) → InRanges vs xs → length vs ≡ length xs
many_values [] [] h = refl
many_values [] (x ∷ xs) h = absurd h
many_values (v ∷ vs) [] h = absurd h
many_values (v ∷ vs) (x ∷ xs) h = ap suc (many_values vs xs h.1)

-- the parts of the lines of a task that are told, and a line behind them
parts_told : {A : Type 0} (a vs gs init goal ops rules : List A) (n g b e f m w o r i : A)
    → (a ++ n ∷ []) ++ ((vs ++ g ∷ []) ++ ((gs ++ b ∷ []) ++ (init ++ ((e ∷ f ∷ m ∷ []) ++ ((goal ++ w ∷ []) ++ ((o ∷ []) ++ ((ops ++ r ∷ []) ++ ((rules ++ i ∷ []) ++ []))))))))
    ≡ (a ++ ((n ∷ []) ++ vs) ++ ((g ∷ []) ++ gs) ++ ((b ∷ []) ++ init ++ (e ∷ [])) ++ ((f ∷ []) ++ ((m ∷ []) ++ goal) ++ (w ∷ [])) ++ ((o ∷ []) ++ ops) ++ ((r ∷ []) ++ rules)) ++ (i ∷ [])
parts_told a vs gs init goal ops rules n g b e f m w o r i = simp (append_assoc, append-nil)

module _ (p : Parts) (good : WellRanged p) where
  -- a tracker behind the variables, with these items left of these many
  abbrev in_section : ℕ → ℕ → Tracker
  in_section total left = record tracker_start { total = total; left = left; ranges = ranges_of p.variables }

  -- the lines of the task, and any line behind them
  abbrev behind_all : TaskLine → List TaskLine
  behind_all i = task_layout p ++ i ∷ []

  told : (i : TaskLine) → (u : Tracker) × (d : Counts) × Tells 1 tracker_start counts_start (behind_all i) (task_counts p) u d
  told i =
      let vs = p.variables in
      let ranges = ranges_of vs in
      let first = in_section (length vs) 0 in
      let begin : Tells 1 tracker_start counts_start (version_lines ++ metric_lines p.metric ++ number (length vs) ∷ []) (None ∷ None ∷ None ∷ None ∷ None ∷ None ∷ None ∷ [])
      (record tracker_start { place = place.Variables; total = length vs; left = length vs }) (record counts_start { section = record { line = 7; number = length vs } }) = record { counts = refl; tracks = refl; notes = refl } in
      let c0 : Counts = record counts_start { section = record { line = 7; number = length vs } } in
      let variables = section_told variable_lines variable_counts (λ r n. let t : Tracker = record tracker_start { place = place.Variables; total = length vs; left = n; ranges = r } in t) (λ r v. r ++ length v.values ∷ [])
      (λ r n k c v. variable_told (record tracker_start { total = length vs; ranges = r }) n k c v) [] 8 c0 vs (number (length p.groups)) (record first { place = place.Variables }) refl
      (variables_scan ranges (record tracker_start { total = length vs }) 0 vs (omega arith)).ends (λ d. refl) in
      let k2 = 8 + length (section_counts variable_counts vs 8) in
      let second = in_section (length p.groups) 0 in
      let c1 : Counts = record variables.0 { section = record { line = k2 - 1; number = length p.groups } } in
      let groups = section_told group_lines group_counts (λ r n. let t : Tracker = record tracker_start { place = place.Groups; total = length p.groups; left = n; ranges = r } in t) (λ r g. r)
      (λ r n k c g. group_told (record tracker_start { total = length p.groups; ranges = r }) n k c g) ranges k2 c1 p.groups (word (codes "begin_state")) (record second { place = place.Groups }) refl
      (groups_scan ranges second refl p.groups (omega arith)).ends (λ d. refl) in
      let k3 = k2 + length (section_counts group_counts p.groups k2) in
      let c2 = groups.0 in
      let many : length ranges ≡ length p.init = length-map vs (λ (v : Variable). length v.values) ∙ many_values vs p.init (state_paired vs p.init good.init) in
      let on_seven = Some (counted_on_seven (length vs)) in
      let state : count_at place.StateValues (length ranges) c2 ≡ on_seven = ap (λ (n : ℕ). Some (counted_on_seven n)) (length-map vs (λ (v : Variable). length v.values)) in
      let values = each_told number place.StateValues second c2 on_seven (λ n j. refl) (λ n k j. refl) state k3 p.init in
      let k4 = k3 + length (map (λ _. on_seven) p.init) in
      let c3 : Counts = record c2 { list = record { line = k4 + 2; number = length p.goal } } in
      let between : Tells k4 (record second { place = place.StateValues; more = 0 }) c2 (word (codes "end_state") ∷ word (codes "begin_goal") ∷ number (length p.goal) ∷ []) (on_seven ∷ None ∷ None ∷ []) (record second { place = place.GoalFacts; more = length p.goal }) c3 =
      record { counts = ap (λ (y : Option ListCount). y ∷ None ∷ None ∷ []) state; tracks = refl; notes = ap (λ (l : ℕ). let r : Counts = record c2 { list = record { line = l; number = length p.goal } } in r) (omega arith) } in
      let k5 = k4 + 3 in
      let goal = list_told fact place.GoalFacts second c3 (λ n j. refl) (λ n k j. refl) refl k5 p.goal (word (codes "end_goal"))
      (ap (λ (l : ℕ). let r : ListCount = record { line = l; number = length p.goal } in r) (omega arith)) in
      let k6 = k5 + length (list_counts p.goal k5) in
      let third = in_section (length p.operators) 0 in
      let c4 : Counts = record c3 { section = record { line = k6; number = length p.operators } } in
      let count : Tells k6 (record second { place = place.OperatorCount }) c3 (number (length p.operators) ∷ []) (None ∷ []) (record third { place = place.Operators; left = length p.operators }) c4 = record { counts = refl; tracks = refl; notes = refl } in
      let k7 = k6 + 1 in
      let operators = section_told operator_lines operator_counts (λ r n. let t : Tracker = record tracker_start { place = place.Operators; total = length p.operators; left = n; ranges = r } in t) (λ r o. r)
      (λ r n k c o. operator_told (record tracker_start { total = length p.operators; ranges = r }) n k c o) ranges k7 c4 p.operators (number (length p.rules)) (record third { place = place.Operators })
      (ap (λ (l : ℕ). let r : ListCount = record { line = l; number = length p.operators } in r) (omega arith))
      (operators_scan ranges third refl p.operators (omega arith)).ends (λ d. refl) in
      let k8 = k7 + length (section_counts operator_counts p.operators k7) in
      let fourth = in_section (length p.rules) 0 in
      let c5 : Counts = record operators.0 { section = record { line = k8 - 1; number = length p.rules } } in
      let rules = section_told rule_lines rule_counts (λ r n. let t : Tracker = record tracker_start { place = place.Rules; total = length p.rules; left = n; ranges = r } in t) (λ r e. r)
      (λ r n k c e. rule_told (record tracker_start { total = length p.rules; ranges = r }) n k c e) ranges k8 c5 p.rules i (record fourth { place = place.Rules }) refl
      (rules_scan ranges fourth refl p.rules (omega arith)).ends (λ d. refl) in
      let all = ◌and◌ begin (◌and◌ variables.1 (◌and◌ (leading_to groups.1 (ap (λ (n : ℕ). let t : Tracker = record second { place = place.StateValues; more = n } in t) many)) (◌and◌ values (◌and◌ between (◌and◌ goal (◌and◌ count (◌and◌ operators.1 (◌and◌ rules.1 no_line)))))))) in (
        _,
        _,
        spelled_so all (parts_told (version_lines ++ metric_lines p.metric) (flat_map variable_lines vs) (flat_map group_lines p.groups) (flat_map (single_line number) p.init) (flat_map (single_line fact) p.goal) (flat_map operator_lines p.operators) (flat_map rule_lines p.rules)
            (number (length vs)) (number (length p.groups)) (word (codes "begin_state")) (word (codes "end_state")) (word (codes "begin_goal")) (number (length p.goal)) (word (codes "end_goal")) (number (length p.operators)) (number (length p.rules)) i),
      )

  -- ---- the first lines

  count_at_line : (k : ℕ) (t : Tracker) (c : Counts) (before : List TaskLine) (i : TaskLine) (more : List TaskLine) → slice_get (counts_along k t c (before ++ i ∷ more)) (length before) ≡ Some (count_at (track t before).place (length (track t before).ranges) (counts_after k t c before))
  count_at_line k t c [] i more = refl
  count_at_line k t c (j ∷ before) i more = count_at_line (k + 1) (track_line t j) (after_count (row_in t).moves k (number_in j) c) before i more

  -- the count of the task there
  pub counted_behind : (before more : List TaskLine) → task_layout p ≡ before ++ more → slice_get (task_counts p) (length before) ≡ Some (count_at (track tracker_start before).place (length (track tracker_start before).ranges) (counts_after 1 tracker_start counts_start before))
  counted_behind before [] e =
      let i = word [] in
      ap (λ (x : List (Option ListCount)). slice_get x (length before)) (sym (told i).2.counts)
      ∙ ap (λ (x : List TaskLine). slice_get (counts_along 1 tracker_start counts_start (x ++ i ∷ [])) (length before)) (e ∙ append-nil before)
      ∙ count_at_line 1 tracker_start counts_start before i []
  counted_behind before (j ∷ more) e =
      let i = word [] in
      ap (λ (x : List (Option ListCount)). slice_get x (length before)) (sym (told i).2.counts)
      ∙ ap (λ (x : List TaskLine). slice_get (counts_along 1 tracker_start counts_start x) (length before)) (ap (λ (x : List TaskLine). x ++ i ∷ []) e ∙ append_assoc before (j ∷ more) (i ∷ []))
      ∙ count_at_line 1 tracker_start counts_start before j (more ++ i ∷ [])

-- the count after these items of a task
abbrev pub count_after : List TaskLine → Option ListCount
count_after items = count_at (track tracker_start items).place (length (track tracker_start items).ranges) (counts_after 1 tracker_start counts_start items)

pub is_counted : (v : Parts) → WellRanged v → (begun : List (List ℕ)) (items more : List TaskLine) → map task_line_bytes items ≡ begun → task_layout v ≡ items ++ more → IsCounted begun (count_after items)
is_counted v good begun items more s e = record {
  begins = (v, map task_line_bytes more, good, ap (map task_line_bytes) e ∙ map-append task_line_bytes items more ∙ ap (λ (x : List (List ℕ)). x ++ map task_line_bytes more) s);
  counted = ap (λ (n : ℕ). slice_get (task_counts v) n) (ap length (sym s) ∙ length-map items task_line_bytes) ∙ counted_behind v good items more e;
}

pub some_count : SomeCount
some_count begun b =
    let c = cut_at task_line_bytes begun b.1 (task_layout b.0) b.3 in
    (count_after c.before, is_counted b.0 b.2 begun c.before c.after c.front_is c.whole)

-- the count of a task is that after its first lines
counted_is : (begun : List (List ℕ)) (x : Option ListCount) (h : IsCounted begun x) → (let c = cut_at task_line_bytes begun h.begins.1 (task_layout h.begins.0) h.begins.3 in x ≡ count_after c.before)
unfolding is_counted
counted_is begun x h =
    let b = h.begins in
    let c = cut_at task_line_bytes begun b.1 (task_layout b.0) b.3 in
    let there = is_counted b.0 b.2 begun c.before c.after c.front_is c.whole in
    let same : Some x ≡ Some (count_after c.before) = sym h.counted ∙ there.counted in
    cc

pub one_count : OneCount
one_count begun x y h g =
    let b = cut_at task_line_bytes begun h.begins.1 (task_layout h.begins.0) h.begins.3 in
    let c = cut_at task_line_bytes begun g.begins.1 (task_layout g.begins.0) g.begins.3 in
    let same = same_items h.begins.0 g.begins.0 h.begins.2 g.begins.2 b.before b.after c.before c.after b.whole c.whole (b.front_is ∙ sym c.front_is) in
    counted_is begun x h ∙ ap count_after same ∙ sym (counted_is begun y g)
