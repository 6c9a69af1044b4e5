-- A tracker over all lines of a task: its marks are those of the task.
use Rattle.sas_task_file.proofs.Imports.{ranges_of, ◌≡◌, ℕ, suc, ◌+◌, ◌-◌, List, [], ◌∷◌, ◌++◌, length, map, refl, sym, ap, ◌∙◌, append_assoc, arith, codes, length-append, slice_index_or, flat_map, map-append, length-map, get_or-append-add, Variable, Parts, WellRanged, Due, Mark, TaskLine, word, number, single_line, counted, version_lines, metric_lines, variable_lines, group_lines, state_lines, goal_lines, operator_lines, rule_lines, task_layout, between_words, there, any_number, positive_number, numbered, variable_dues, group_dues, operator_dues, rule_dues, task_marks, Tracker, tracker_start, mark, value_dues}
use Rattle.sas_task_file.specs.declared.places.Place.TheVariants as place
use Rattle.sas_task_file.specs.declared.marks.What.TheVariants as what
use Rattle.sas_task_file.specs.declared.marks.Due.TheVariants as due
use Rattle.sas_task_file.specs.declared.marks.FixedWord.TheVariants as fixed
use Rattle.sas_task_file.specs.declared.marks.Location.TheVariants as at
use Rattle.sas_task_file.proofs.TaskSections.{InRanges, state_paired, eight}
use Rattle.sas_task_file.proofs.Tracking.{Scan, ◌then◌, marked, spelled, one}
use Rattle.sas_task_file.proofs.TrackedSections.{version_scan, metric_scan, variables_scan, groups_scan, goal_scan, operators_scan, rules_scan}

read_next : (done : List ℕ) (x : ℕ) (rest : List ℕ) → slice_index_or (done ++ x ∷ rest) (length done) 0 ≡ x
read_next done x rest = let all : length done ≡ length done + 0 = omega arith in ap (λ (i : ℕ). slice_index_or (done ++ x ∷ rest) i 0) all ∙ get_or-append-add done (x ∷ rest) 0 0

module _ (ranges : List ℕ) (t : Tracker) where
  -- this many values are left
  abbrev at_value : ℕ → Tracker
  at_value n = record t { place = place.StateValues; left = 0; more = n; ranges = ranges }

  value_scan : (n : ℕ) (done : List ℕ) (v : Variable) (vs : List Variable) (x : ℕ) → length done ≡ n → ranges ≡ done ++ ranges_of (v ∷ vs)
      → Scan ranges (at_value (suc (length vs))) (number x ∷ []) (there at.State (due.Number (what.ValueOf n) 0 (length v.values - 1) ∷ [])) (at_value (length vs))
  value_scan n done v vs x is e =
      let many : length ranges ≡ length done + length (ranges_of (v ∷ vs)) = ap length e ∙ length-append done (ranges_of (v ∷ vs)) in
      let next : length ranges - suc (length vs) ≡ n = omega (arith, is, many, length-map vs (λ (w : Variable). length w.values)) in
      let less : suc (length vs) - 1 ≡ length vs = omega arith in
      let value : slice_index_or ranges n 0 ≡ length v.values = ap (λ (i : ℕ). slice_index_or ranges i 0) (sym is) ∙ ap (λ (r : List ℕ). slice_index_or r (length done) 0) e ∙ read_next done (length v.values) (ranges_of vs) in
      marked ranges (one ranges (number x) (λ h. refl) refl (ap at_value less) (λ h. refl))
      (ap (λ (i : ℕ). mark at.State (due.Number (what.ValueOf i) 0 (slice_index_or ranges i 0 - 1)) ∷ []) next
      ∙ ap (λ (m : ℕ). mark at.State (due.Number (what.ValueOf n) 0 (m - 1)) ∷ []) value)

  values_scan : (n : ℕ) (done : List ℕ) (vs : List Variable) (xs : List ℕ) → InRanges vs xs → length done ≡ n → ranges ≡ done ++ ranges_of vs
      → Scan ranges (at_value (length vs)) (flat_map (single_line number) xs) (there at.State (value_dues n vs)) (at_value 0)
  values_scan n done [] [] p is e = record { marks = refl; ends = refl; along = λ h. refl }
  values_scan n done [] (x ∷ xs) p is e = absurd p
  values_scan n done (v ∷ vs) [] p is e = absurd p
  values_scan n done (v ∷ vs) (x ∷ xs) p is e =
      let more : length (done ++ length v.values ∷ []) ≡ n + 1 = omega (arith, is, length-append done (length v.values ∷ [])) in
      ◌then◌ ranges (value_scan n done v vs x is e) (values_scan (n + 1) (done ++ length v.values ∷ []) vs xs p.1 more (e ∙ sym (append_assoc done (length v.values ∷ []) (ranges_of vs))))

  state_scan : (vs : List Variable) (xs : List ℕ) → InRanges vs xs → ranges ≡ ranges_of vs
      → Scan ranges (record t { place = place.Groups; left = 0; more = 0; ranges = ranges }) (state_lines xs) (there at.State (between_words fixed.BeginState (value_dues 0 vs) fixed.EndState))
      (record t { place = place.GoalBegin; left = 0; more = 0; ranges = ranges })
  state_scan vs xs p e =
      let many : length ranges ≡ length vs = ap length e ∙ length-map vs (λ (w : Variable). length w.values) in
      let begins : Scan ranges (record t { place = place.Groups; left = 0; more = 0; ranges = ranges }) (word (codes "begin_state") ∷ []) (there at.State (due.Word fixed.BeginState ∷ [])) (at_value (length vs)) = record { marks = refl; ends = ap at_value many; along = (λ h. refl, refl, λ h. refl) } in
      let ends : Scan ranges (at_value 0) (word (codes "end_state") ∷ []) (there at.State (due.Word fixed.EndState ∷ [])) (record t { place = place.GoalBegin; left = 0; more = 0; ranges = ranges }) = record { marks = refl; ends = refl; along = (λ h. refl, refl, λ h. refl) } in
      marked ranges (◌then◌ ranges begins (◌then◌ ranges (values_scan 0 [] vs xs p refl e) ends))
      (ap (λ (x : List Mark). there at.State (due.Word fixed.BeginState ∷ []) ++ x) (sym (map-append (mark at.State) (value_dues 0 vs) (due.Word fixed.EndState ∷ []))))

-- ---- the task

module _ (p : Parts) where
  -- after the variables, the groups, the state, and all lines
  abbrev behind_variables : Tracker
  behind_variables = record tracker_start { place = place.Variables; total = length p.variables; ranges = ranges_of p.variables }

  abbrev behind_groups : Tracker
  behind_groups = record behind_variables { place = place.Groups; total = length p.groups }

  abbrev behind_state : Tracker
  behind_state = record behind_groups { place = place.GoalBegin }

  abbrev behind_operators : Tracker
  behind_operators = record behind_state { place = place.Operators; total = length p.operators }

  abbrev pub behind_all : Tracker
  behind_all = record behind_operators { place = place.Rules; total = length p.rules }

  abbrev Scans : Tracker → List TaskLine → List Mark → Tracker → Type 0
  Scans = Scan (ranges_of p.variables)

  variables_part : Scans (record tracker_start { place = place.VariableCount }) (counted variable_lines p.variables) (mark at.Variables (positive_number what.Variables) ∷ numbered at.Variable variable_dues 0 p.variables) behind_variables
  variables_part =
      let n = length p.variables in
      let count : Scans (record tracker_start { place = place.VariableCount }) (number n ∷ []) (mark at.Variables (positive_number what.Variables) ∷ []) (record tracker_start { place = place.Variables; total = n; left = n }) = record { marks = refl; ends = refl; along = (λ h. absurd h, refl, λ h. absurd h) } in
      ◌then◌ (ranges_of p.variables) count (variables_scan (ranges_of p.variables) (record tracker_start { total = n }) 0 p.variables (omega arith))

  groups_part : Scans behind_variables (counted group_lines p.groups) (mark at.Groups (any_number what.Groups) ∷ numbered at.Group group_dues 0 p.groups) behind_groups
  groups_part =
      let count : Scans behind_variables (number (length p.groups) ∷ []) (mark at.Groups (any_number what.Groups) ∷ []) (record behind_groups { left = length p.groups }) = record { marks = refl; ends = refl; along = (λ h. absurd h, refl, λ h. refl) } in
      ◌then◌ (ranges_of p.variables) count (groups_scan (ranges_of p.variables) behind_groups refl p.groups (omega arith))

  operators_part : Scans (record behind_state { place = place.OperatorCount }) (counted operator_lines p.operators) (mark at.Operators (any_number what.Operators) ∷ numbered at.Operator operator_dues 0 p.operators) behind_operators
  operators_part =
      let count : Scans (record behind_state { place = place.OperatorCount }) (number (length p.operators) ∷ []) (mark at.Operators (any_number what.Operators) ∷ []) (record behind_operators { left = length p.operators }) = record { marks = refl; ends = refl; along = (λ h. refl, refl, λ h. refl) } in
      ◌then◌ (ranges_of p.variables) count (operators_scan (ranges_of p.variables) behind_operators refl p.operators (omega arith))

  rules_part : Scans behind_operators (counted rule_lines p.rules) (mark at.Rules (any_number what.Rules) ∷ numbered at.Rule rule_dues 0 p.rules) behind_all
  rules_part =
      let count : Scans behind_operators (number (length p.rules) ∷ []) (mark at.Rules (any_number what.Rules) ∷ []) (record behind_all { left = length p.rules }) = record { marks = refl; ends = refl; along = (λ h. refl, refl, λ h. refl) } in
      ◌then◌ (ranges_of p.variables) count (rules_scan (ranges_of p.variables) behind_all refl p.rules (omega arith))

  -- the marks of a tracker are those of a task, line by line
  pub task_scan : WellRanged p → Scan (ranges_of p.variables) tracker_start (task_layout p) (task_marks p) behind_all
  task_scan good =
      let r = ranges_of p.variables in
      let state = state_scan r behind_groups p.variables p.init (state_paired p.variables p.init good.init) refl in
      let goal = goal_scan r behind_state refl p.goal in
      spelled r (◌then◌ r (version_scan r) (◌then◌ r (metric_scan r p.metric) (◌then◌ r variables_part (◌then◌ r groups_part (◌then◌ r state (◌then◌ r goal (◌then◌ r operators_part rules_part)))))))
      (sym (eight version_lines (metric_lines p.metric) (counted variable_lines p.variables) (counted group_lines p.groups) (state_lines p.init) (goal_lines p.goal) (counted operator_lines p.operators) (counted rule_lines p.rules)))
