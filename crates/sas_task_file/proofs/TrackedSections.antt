-- A tracker over the sections of a task: its marks are those of each section, and its counts after
-- each section are right.
use Rattle.std.proofs.lemmas.Grind.{common_steps}
use Rattle.sas_task_file.proofs.Imports.{◌≡◌, ℕ, suc, ◌+◌, ◌-◌, Bool, List, [], ◌∷◌, ◌++◌, length, map, refl, sym, ap, ◌∙◌, append_assoc, arith, codes, flat_map, map-append, Fact, Variable, Operator, Effect, Place, Due, Location, Mark, TaskLine, word, name, number, signed, fact, effect, head, task_slot, single_line, version_lines, metric_lines, variable_lines, group_lines, goal_lines, operator_lines, rule_lines, between_words, counted_dues, there, slot_of_due, any_number, variable_dues, group_dues, operator_dues, rule_dues, numbered, Tracker, tracker_start, track_line, mark, mark_in, this_number}
use Rattle.std.proofs.Common.{append-nil}
use Rattle.sas_task_file.specs.declared.places.Place.TheVariants as place
use Rattle.sas_task_file.specs.declared.marks.What.TheVariants as what
use Rattle.sas_task_file.specs.declared.marks.Due.TheVariants as due
use Rattle.sas_task_file.specs.declared.marks.FixedWord.TheVariants as fixed
use Rattle.sas_task_file.specs.declared.marks.Location.TheVariants as at
use Rattle.sas_task_file.proofs.Tracking.{IsBehindVariables, Known, Scan, marked, leading, spelled, one, ◌then◌}

-- ---- marks of the lines of a section

-- the same line for each item
abbrev for_each : {A : Type 0} → Due → List A → List Due
for_each one items = map (λ _. one) items

-- the marks of an operator's lines from its prevail conditions on
abbrev operator_parts : (Due → Mark) → List Due → List Due → Due → Due → Due → List Mark
operator_parts f a b c d w = map f a ++ (f c ∷ (map f b ++ f d ∷ f w ∷ []))

operator_marks : (f : Due → Mark) (a b : List Due) (c d w : Due) → operator_parts f a b c d w ≡ map f ((a ++ c ∷ (b ++ d ∷ [])) ++ w ∷ [])
operator_marks f a b c d w = grind (arith, common_steps, map-append, append_assoc)

rule_marks : (f : Due → Mark) (a : List Due) (h w : Due) → map f a ++ f h ∷ f w ∷ [] ≡ map f ((a ++ h ∷ []) ++ w ∷ [])
rule_marks f a h w = sym (map-append f (a ++ h ∷ []) (w ∷ []) ∙ ap (λ (x : List Mark). x ++ f w ∷ []) (map-append f a (h ∷ [])) ∙ append_assoc (map f a) (f h ∷ []) (f w ∷ []))

-- the number of an item, from the total and how many are left: before and after it begins
abbrev IsNumbered : ℕ → ℕ → ℕ → Type 0
IsNumbered total left n = n + suc left ≡ total

this_is : (total left n : ℕ) → IsNumbered total left n → total - left - 1 ≡ n
this_is total left n e = omega (arith, e)

-- the marks of the first lines of a section
first_marks : (l : ℕ → Location) (total left n : ℕ) (d : Due) (dues : List Due) → IsNumbered total left n → mark (l (total - suc left)) d ∷ there (l (total - (suc left - 1) - 1)) dues ≡ there (l n) (d ∷ dues)
first_marks l total left n d dues e = grind (arith, common_steps)

module _ (ranges : List ℕ) where
  -- ---- the version and the metric

  pub version_scan : Scan ranges tracker_start version_lines (there at.Version (between_words fixed.BeginVersion (due.Number what.Version 3 3 ∷ []) fixed.EndVersion)) (record tracker_start { place = place.MetricBegin })
  version_scan = record { marks = refl; ends = refl; along = (λ h. absurd h, refl, (λ h. absurd h, refl, (λ h. absurd h, refl, λ h. absurd h))) }

  pub metric_scan : (m : Bool) → Scan ranges (record tracker_start { place = place.MetricBegin }) (metric_lines m) (there at.Metric (between_words fixed.BeginMetric (due.Number what.Metric 0 1 ∷ []) fixed.EndMetric)) (record tracker_start { place = place.VariableCount })
  metric_scan m = record { marks = refl; ends = refl; along = (λ h. absurd h, refl, (λ h. absurd h, refl, (λ h. absurd h, refl, λ h. absurd h))) }

  -- ---- n lines of one kind, which are counted down

  module _ {A : Type 0} (says : A → TaskLine) (p : Place) (where_it_stands : Location) (d : Due) (t : Tracker)
      (moves : (n : ℕ) (i : TaskLine) → track_line (record t { place = p; more = suc n }) i ≡ record t { place = p; more = suc n - 1 })
      (marks : (n : ℕ) → mark_in (record t { place = p; more = suc n }) ≡ mark where_it_stands d)
      (belongs : (a : A) → slot_of_due d ≡ task_slot (says a))
      (known : IsBehindVariables p → t.ranges ≡ ranges) where
    one_of_each : (n : ℕ) (a : A) → Scan ranges (record t { place = p; more = suc n }) (says a ∷ []) (mark where_it_stands d ∷ []) (record t { place = p; more = n })
    one_of_each n a =
        let less : suc n - 1 ≡ n = omega arith in
        marked ranges (one ranges (says a) known (ap (λ (m : Mark). slot_of_due m.due) (marks n) ∙ belongs a) (moves n (says a) ∙ ap (λ (x : ℕ). let r : Tracker = record t { place = p; more = x } in r) less) known)
        (ap (λ (m : Mark). m ∷ []) (marks n))

    pub each_scan : (xs : List A) → Scan ranges (record t { place = p; more = length xs }) (flat_map (single_line says) xs) (there where_it_stands (for_each d xs)) (record t { place = p; more = 0 })
    each_scan [] = record { marks = refl; ends = refl; along = known }
    each_scan (x ∷ xs) = ◌then◌ ranges (one_of_each (length xs) x) (each_scan xs)

  -- ---- variables

  variable_begins : (t : Tracker) (n k : ℕ) (v : Variable) → IsNumbered t.total n k
      → Scan ranges (record t { place = place.Variables; left = suc n; more = 0 })
      (word (codes "begin_variable") ∷ name v.name ∷ signed v.layer ∷ number (length v.values) ∷ [])
      (there (at.Variable k) (due.Word fixed.BeginVariable ∷ due.Name what.Variable ∷ due.Layer ∷ due.Number what.Range 1 2147483647 ∷ []))
      (record t { place = place.VariableValues; left = n; more = length v.values; ranges = t.ranges ++ length v.values ∷ [] })
  variable_begins t n k v e =
      let less : suc n - 1 ≡ n = omega arith in
      record {
        marks = first_marks at.Variable t.total n k (due.Word fixed.BeginVariable) (due.Name what.Variable ∷ due.Layer ∷ due.Number what.Range 1 2147483647 ∷ []) e;
        ends = ap (λ (x : ℕ). let r : Tracker = record t { place = place.VariableValues; left = x; more = length v.values; ranges = t.ranges ++ length v.values ∷ [] } in r) less;
        along = (λ h. absurd h, refl, (λ h. absurd h, refl, (λ h. absurd h, refl, (λ h. absurd h, refl, λ h. absurd h))));
      }

  -- after a variable
  abbrev pub behind_variable : Tracker → Variable → Tracker
  behind_variable t v = record t { ranges = t.ranges ++ length v.values ∷ [] }

  variable_ends : (t : Tracker) → Scan ranges (record t { place = place.VariableValues; more = 0 }) (word (codes "end_variable") ∷ []) (there (at.Variable (this_number t)) (due.Word fixed.EndVariable ∷ []))
      (record t { place = place.Variables; more = 0 })
  variable_ends t = record { marks = refl; ends = refl; along = (λ h. absurd h, refl, λ h. absurd h) }

  pub variable_scan : (t : Tracker) (n k : ℕ) (v : Variable) → IsNumbered t.total n k
      → Scan ranges (record t { place = place.Variables; left = suc n; more = 0 }) (variable_lines v) (there (at.Variable k) (variable_dues v))
      (record (behind_variable t v) { place = place.Variables; left = n; more = 0 })
  variable_scan t n k v e =
      let u : Tracker = record t { left = n; ranges = t.ranges ++ length v.values ∷ [] } in
      let first = there (at.Variable k) (due.Word fixed.BeginVariable ∷ due.Name what.Variable ∷ due.Layer ∷ due.Number what.Range 1 2147483647 ∷ []) in
      marked ranges (◌then◌ ranges (variable_begins t n k v e) (◌then◌ ranges
      (each_scan name place.VariableValues (at.Variable (t.total - n - 1)) (due.Name what.Value) u (λ m i. refl) (λ m. refl) (λ a. refl) (λ h. absurd h) v.values)
      (variable_ends u)))
      (ap (λ (x : ℕ). first ++ (there (at.Variable x) (for_each (due.Name what.Value) v.values) ++ there (at.Variable x) (due.Word fixed.EndVariable ∷ []))) (this_is t.total n k e)
      ∙ ap (λ (x : List Mark). first ++ x)
      (sym (map-append (λ d. mark (at.Variable k) d) (for_each (due.Name what.Value) v.values) (due.Word fixed.EndVariable ∷ []))))

  pub variables_scan : (t : Tracker) (k : ℕ) (vs : List Variable) → k + length vs ≡ t.total
      → Scan ranges (record t { place = place.Variables; left = length vs; more = 0 }) (flat_map variable_lines vs) (numbered at.Variable variable_dues k vs)
      (record t { place = place.Variables; left = 0; more = 0; ranges = t.ranges ++ map (λ v. length v.values) vs })
  variables_scan t k [] e = record {
    marks = refl;
    ends = ap (λ (x : List ℕ). let r : Tracker = record t { place = place.Variables; left = 0; more = 0; ranges = x } in r) (sym (append-nil t.ranges));
    along = λ h. absurd h;
  }
  variables_scan t k (v ∷ vs) e =
      leading ranges (◌then◌ ranges (variable_scan t (length vs) k v e) (variables_scan (behind_variable t v) (k + 1) vs (omega (arith, e))))
      (ap (λ (x : List ℕ). let r : Tracker = record t { place = place.Variables; left = 0; more = 0; ranges = x } in r)
      (append_assoc t.ranges (length v.values ∷ []) (map (λ v. length v.values) vs)))

  -- ---- groups, operators and rules, which are counted down

  module _ {A : Type 0} (lines : A → List TaskLine) (where_it_stands : ℕ → Location) (dues : A → List Due) (total : ℕ) (with_left : ℕ → Tracker)
      (each : (left n : ℕ) (a : A) → IsNumbered total left n → Scan ranges (with_left (suc left)) (lines a) (there (where_it_stands n) (dues a)) (with_left left))
      (known : Known ranges (with_left 0)) where
    all_scan : (n : ℕ) (xs : List A) → n + length xs ≡ total → Scan ranges (with_left (length xs)) (flat_map lines xs) (numbered where_it_stands dues n xs) (with_left 0)
    all_scan n [] e = record { marks = refl; ends = refl; along = known }
    all_scan n (x ∷ xs) e = ◌then◌ ranges (each (length xs) n x e) (all_scan (n + 1) xs (omega (arith, e)))

  module _ (t : Tracker) (k : t.ranges ≡ ranges) where
    facts_scan : (p : Place) (where_it_stands : Location) (left : ℕ)
        (moves : (n : ℕ) (i : TaskLine) → track_line (record t { place = p; left = left; more = suc n }) i ≡ record t { place = p; left = left; more = suc n - 1 })
        (marks : (n : ℕ) → mark_in (record t { place = p; left = left; more = suc n }) ≡ mark where_it_stands due.Fact)
        (facts : List Fact) → Scan ranges (record t { place = p; left = left; more = length facts }) (flat_map (single_line fact) facts) (there where_it_stands (for_each due.Fact facts)) (record t { place = p; left = left; more = 0 })
    facts_scan p where_it_stands left moves marks facts = each_scan fact p where_it_stands due.Fact (record t { left = left }) moves marks (λ a. refl) (λ h. k) facts

    pub goal_scan : (facts : List Fact) → Scan ranges (record t { place = place.GoalBegin; left = 0; more = 0 }) (goal_lines facts) (there at.Goal (between_words fixed.BeginGoal (counted_dues what.Facts due.Fact facts) fixed.EndGoal)) (record t { place = place.OperatorCount; left = 0; more = 0 })
    goal_scan facts =
        let begins : Scan ranges (record t { place = place.GoalBegin; left = 0; more = 0 }) (word (codes "begin_goal") ∷ number (length facts) ∷ []) (there at.Goal (due.Word fixed.BeginGoal ∷ any_number what.Facts ∷ [])) (record t { place = place.GoalFacts; left = 0; more = length facts }) = record { marks = refl; ends = refl; along = (λ h. k, refl, (λ h. k, refl, λ h. k)) } in
        let ends : Scan ranges (record t { place = place.GoalFacts; left = 0; more = 0 }) (word (codes "end_goal") ∷ []) (there at.Goal (due.Word fixed.EndGoal ∷ [])) (record t { place = place.OperatorCount; left = 0; more = 0 }) = record { marks = refl; ends = refl; along = (λ h. k, refl, λ h. k) } in
        marked ranges (◌then◌ ranges begins (◌then◌ ranges (facts_scan place.GoalFacts at.Goal 0 (λ n i. refl) (λ n. refl) facts) ends))
        (ap (λ (x : List Mark). there at.Goal (due.Word fixed.BeginGoal ∷ any_number what.Facts ∷ []) ++ x) (sym (map-append (mark at.Goal) (for_each due.Fact facts) (due.Word fixed.EndGoal ∷ []))))

    -- the number of groups that are left
    abbrev pub at_group : ℕ → Tracker
    at_group left = record t { place = place.Groups; left = left; more = 0 }

    group_begins : (left n : ℕ) (facts : List Fact) → IsNumbered t.total left n
        → Scan ranges (at_group (suc left)) (word (codes "begin_mutex_group") ∷ number (length facts) ∷ []) (there (at.Group n) (due.Word fixed.BeginMutexGroup ∷ any_number what.Facts ∷ []))
        (record (at_group left) { place = place.GroupFacts; more = length facts })
    group_begins left n facts e =
        let less : suc left - 1 ≡ left = omega arith in
        record {
          marks = first_marks at.Group t.total left n (due.Word fixed.BeginMutexGroup) (any_number what.Facts ∷ []) e;
          ends = ap (λ (x : ℕ). let r : Tracker = record (at_group x) { place = place.GroupFacts; more = length facts } in r) less;
          along = (λ h. k, refl, (λ h. k, refl, λ h. k));
        }

    group_ends : (left : ℕ) → Scan ranges (record (at_group left) { place = place.GroupFacts }) (word (codes "end_mutex_group") ∷ []) (there (at.Group (t.total - left - 1)) (due.Word fixed.EndMutexGroup ∷ [])) (at_group left)
    group_ends left = record { marks = refl; ends = refl; along = (λ h. k, refl, λ h. k) }

    pub group_scan : (left n : ℕ) (facts : List Fact) → IsNumbered t.total left n → Scan ranges (at_group (suc left)) (group_lines facts) (there (at.Group n) (group_dues facts)) (at_group left)
    group_scan left n facts e =
        let first = there (at.Group n) (due.Word fixed.BeginMutexGroup ∷ any_number what.Facts ∷ []) in
        marked ranges (◌then◌ ranges (group_begins left n facts e) (◌then◌ ranges
        (each_scan fact place.GroupFacts (at.Group (t.total - left - 1)) due.Fact (record t { left = left }) (λ n i. refl) (λ n. refl) (λ a. refl) (λ h. k) facts)
        (group_ends left)))
        (ap (λ (x : ℕ). first ++ (there (at.Group x) (for_each due.Fact facts) ++ there (at.Group x) (due.Word fixed.EndMutexGroup ∷ []))) (this_is t.total left n e)
        ∙ ap (λ (x : List Mark). first ++ x) (sym (map-append (mark (at.Group n)) (for_each due.Fact facts) (due.Word fixed.EndMutexGroup ∷ []))))

    pub groups_scan : (groups : List (List Fact)) → 0 + length groups ≡ t.total → Scan ranges (at_group (length groups)) (flat_map group_lines groups) (numbered at.Group group_dues 0 groups) (at_group 0)
    groups_scan groups e = all_scan group_lines at.Group group_dues t.total at_group group_scan (λ h. k) 0 groups e

    -- ---- operators

    abbrev pub at_operator : ℕ → Tracker
    at_operator left = record t { place = place.Operators; left = left; more = 0 }

    operator_begins : (left n : ℕ) (o : Operator) → IsNumbered t.total left n
        → Scan ranges (at_operator (suc left)) (word (codes "begin_operator") ∷ name o.name ∷ number (length o.prevail) ∷ []) (there (at.Operator n) (due.Word fixed.BeginOperator ∷ due.Name what.Operator ∷ any_number what.Prevail ∷ []))
        (record (at_operator left) { place = place.Prevail; more = length o.prevail })
    operator_begins left n o e =
        let less : suc left - 1 ≡ left = omega arith in
        record {
          marks = first_marks at.Operator t.total left n (due.Word fixed.BeginOperator) (due.Name what.Operator ∷ any_number what.Prevail ∷ []) e;
          ends = ap (λ (x : ℕ). let r : Tracker = record (at_operator x) { place = place.Prevail; more = length o.prevail } in r) less;
          along = (λ h. k, refl, (λ h. k, refl, (λ h. k, refl, λ h. k)));
        }

    effects_begin : (left : ℕ) (o : Operator)
        → Scan ranges (record (at_operator left) { place = place.Prevail }) (number (length o.effects) ∷ []) (there (at.Operator (t.total - left - 1)) (any_number what.Effects ∷ []))
        (record (at_operator left) { place = place.Effects; more = length o.effects })
    effects_begin left o = record { marks = refl; ends = refl; along = (λ h. k, refl, λ h. k) }

    operator_ends : (left : ℕ) (o : Operator)
        → Scan ranges (record (at_operator left) { place = place.Effects }) (number o.cost ∷ word (codes "end_operator") ∷ []) (there (at.Operator (t.total - left - 1)) (any_number what.Cost ∷ due.Word fixed.EndOperator ∷ [])) (at_operator left)
    operator_ends left o = record { marks = refl; ends = refl; along = (λ h. k, refl, (λ h. k, refl, λ h. k)) }

    pub operator_scan : (left n : ℕ) (o : Operator) → IsNumbered t.total left n → Scan ranges (at_operator (suc left)) (operator_lines o) (there (at.Operator n) (operator_dues o)) (at_operator left)
    operator_scan left n o e =
        let u : Tracker = record t { left = left } in
        let this = at.Operator (t.total - left - 1) in
        let first = there (at.Operator n) (due.Word fixed.BeginOperator ∷ due.Name what.Operator ∷ any_number what.Prevail ∷ []) in
        let prevail = each_scan fact place.Prevail this due.Fact u (λ n i. refl) (λ n. refl) (λ a. refl) (λ h. k) o.prevail in
        let effects = each_scan effect place.Effects this due.Effect u (λ n i. refl) (λ n. refl) (λ a. refl) (λ h. k) o.effects in
        marked ranges (spelled ranges (◌then◌ ranges (operator_begins left n o e) (◌then◌ ranges prevail (◌then◌ ranges (effects_begin left o) (◌then◌ ranges effects (operator_ends left o)))))
        (simp append_assoc))
        (ap (λ (x : ℕ). first ++ operator_parts (mark (at.Operator x)) (for_each due.Fact o.prevail) (for_each due.Effect o.effects) (any_number what.Effects) (any_number what.Cost) (due.Word fixed.EndOperator)) (this_is t.total left n e)
        ∙ ap (λ (x : List Mark). first ++ x)
        (operator_marks (mark (at.Operator n)) (for_each due.Fact o.prevail) (for_each due.Effect o.effects) (any_number what.Effects) (any_number what.Cost) (due.Word fixed.EndOperator)))

    pub operators_scan : (operators : List Operator) → 0 + length operators ≡ t.total → Scan ranges (at_operator (length operators)) (flat_map operator_lines operators) (numbered at.Operator operator_dues 0 operators) (at_operator 0)
    operators_scan operators e = all_scan operator_lines at.Operator operator_dues t.total at_operator operator_scan (λ h. k) 0 operators e

    -- ---- rules

    abbrev pub at_rule : ℕ → Tracker
    at_rule left = record t { place = place.Rules; left = left; more = 0 }

    rule_begins : (left n : ℕ) (r : Effect) → IsNumbered t.total left n
        → Scan ranges (at_rule (suc left)) (word (codes "begin_rule") ∷ number (length r.conditions) ∷ []) (there (at.Rule n) (due.Word fixed.BeginRule ∷ any_number what.Conditions ∷ []))
        (record (at_rule left) { place = place.RuleConditions; more = length r.conditions })
    rule_begins left n r e =
        let less : suc left - 1 ≡ left = omega arith in
        record {
          marks = first_marks at.Rule t.total left n (due.Word fixed.BeginRule) (any_number what.Conditions ∷ []) e;
          ends = ap (λ (x : ℕ). let q : Tracker = record (at_rule x) { place = place.RuleConditions; more = length r.conditions } in q) less;
          along = (λ h. k, refl, (λ h. k, refl, λ h. k));
        }

    rule_ends : (left : ℕ) (r : Effect)
        → Scan ranges (record (at_rule left) { place = place.RuleConditions }) (head r.var r.old r.new ∷ word (codes "end_rule") ∷ []) (there (at.Rule (t.total - left - 1)) (due.Head ∷ due.Word fixed.EndRule ∷ [])) (at_rule left)
    rule_ends left r = record { marks = refl; ends = refl; along = (λ h. k, refl, (λ h. k, refl, λ h. k)) }

    pub rule_scan : (left n : ℕ) (r : Effect) → IsNumbered t.total left n → Scan ranges (at_rule (suc left)) (rule_lines r) (there (at.Rule n) (rule_dues r)) (at_rule left)
    rule_scan left n r e =
        let first = there (at.Rule n) (due.Word fixed.BeginRule ∷ any_number what.Conditions ∷ []) in
        let conditions = each_scan fact place.RuleConditions (at.Rule (t.total - left - 1)) due.Fact (record t { left = left }) (λ n i. refl) (λ n. refl) (λ a. refl) (λ h. k) r.conditions in
        marked ranges (spelled ranges (◌then◌ ranges (rule_begins left n r e) (◌then◌ ranges conditions (rule_ends left r))) (simp append_assoc))
        (ap (λ (x : ℕ). first ++ (there (at.Rule x) (for_each due.Fact r.conditions) ++ there (at.Rule x) (due.Head ∷ due.Word fixed.EndRule ∷ []))) (this_is t.total left n e)
        ∙ ap (λ (x : List Mark). first ++ x) (rule_marks (mark (at.Rule n)) (for_each due.Fact r.conditions) due.Head (due.Word fixed.EndRule)))

    pub rules_scan : (rules : List Effect) → 0 + length rules ≡ t.total → Scan ranges (at_rule (length rules)) (flat_map rule_lines rules) (numbered at.Rule rule_dues 0 rules) (at_rule 0)
    rules_scan rules e = all_scan rule_lines at.Rule rule_dues t.total at_rule rule_scan (λ h. k) 0 rules e
