-- The lines of a variable, a mutex group, an operator or a rule lead through this part of a task.
use Rattle.sas_task_reader.proofs.Imports.{◌≡◌, ℕ, zero, suc, ◌<◌, ◌-◌, Bool, List, [], ◌∷◌, ◌++◌, length, refl, sym, ap, subst, ◌∙◌, append_assoc, arith, IsTrue, codes, AllByRecursion, flat_map, list_all, and_parts, IsName, Fact, Variable, Operator, Effect, TaskLine, word, name, number, fact, effect, head, single_line, variable_lines, group_lines, operator_lines, rule_lines, TaskLineFits, Due, Place, Tracker, SoFar, TaskState, HasNames, OperatorInRanges, fact_in_ranges, effect_in_ranges, change_in_ranges, behind_variable, behind_group, behind_operator, behind_rule, past_section, Some, None}
use Rattle.sas_task_file.specs.declared.places.Place.TheVariants as at
use Rattle.sas_task_file.specs.declared.marks.What.TheVariants as what
use Rattle.sas_task_file.specs.declared.marks.Due.TheVariants as due
use Rattle.sas_task_file.proofs.Stretches.{LeadsOn, Allowed, one_less}
use Rattle.sas_task_file.proofs.Blocks.{state_at, FactsAllowed, VariableAllowed, OperatorAllowed, variable_block, group_block, operator_block, rule_block}
use Rattle.sas_task_file.proofs.TaskSections.{all_map, any_allowed, positive_allowed}

-- a file can spell each number on each of the lines
abbrev pub AllFit : List TaskLine → Type 0
AllFit items = AllByRecursion TaskLineFits items

-- ---- what is allowed

-- lines of one kind that pass a test, and other lines
tested : {A : Type 0} (ranges : List ℕ) (d : Due) (into : A → TaskLine) (ok : A → Bool) → ((a : A) → TaskLineFits (into a) → IsTrue (ok a) → Allowed ranges d (into a)) → (xs : List A) (rest : List TaskLine)
    → AllFit (flat_map (single_line into) xs ++ rest) → IsTrue (list_all ok xs) → AllByRecursion (λ a. Allowed ranges d (into a)) xs × AllFit rest
tested ranges d into ok allowed [] rest fits good = (tt, fits)
tested ranges d into ok allowed (x ∷ xs) rest fits good =
    let parts = and_parts (ok x) (list_all ok xs) good in
    let others = tested ranges d into ok allowed xs rest fits.1 parts.1 in
    ((allowed x fits.0 parts.0, others.0), others.1)

module _ (ranges : List ℕ) where
  facts_tested : (facts : List Fact) (rest : List TaskLine) → AllFit (number (length facts) ∷ (flat_map (single_line fact) facts ++ rest)) → IsTrue (list_all (fact_in_ranges ranges) facts) → FactsAllowed ranges facts × AllFit rest
  facts_tested facts rest fits good =
      let t = tested ranges due.Fact fact (fact_in_ranges ranges) (λ f h g. record { slot = refl; fits = h; good = g }) facts rest fits.1 good in
      ((any_allowed ranges (length facts) fits.0, t.0), t.1)

  named : (w : List ℕ) → IsName w → Allowed ranges (due.Name what.Value) (name w)
  named w h = record { slot = refl; fits = tt; good = h }

-- ---- the sections

-- one of n items, and then n - 1 items
next_of : (n : ℕ) → 0 < n → n ≡ suc (n - 1)
next_of zero h = absurd (omega arith)
next_of (suc n) h = omega arith

-- the lines of a block lead past it, if they do so at its place
from_place : (t : Tracker) (s behind : SoFar) (place : Place) (ranges : List ℕ) (items : List TaskLine) → t.place ≡ place → 0 < t.left
    → LeadsOn (state_at place (suc (t.left - 1)) t.more t s) items (state_at place (suc (t.left - 1) - 1) 0 (record t { ranges = ranges }) behind)
    → LeadsOn (record { tracker = t; so_far = s }) items (record { tracker = record (past_section None t) { ranges = ranges }; so_far = behind })
from_place t s behind place ranges items here left on =
    let begins : state_at place (suc (t.left - 1)) t.more t s ≡ record { tracker = t; so_far = s } = ap (λ (n : ℕ). state_at place n t.more t s) (sym (next_of t.left left)) ∙ ap (λ (p : Place). state_at p t.left t.more t s) (sym here) in
    let ends : state_at place (suc (t.left - 1) - 1) 0 (record t { ranges = ranges }) behind ≡ record { tracker = record (past_section None t) { ranges = ranges }; so_far = behind } = ap (λ (n : ℕ). state_at place n 0 (record t { ranges = ranges }) behind) (one_less (t.left - 1)) ∙ ap (λ (p : Place). state_at p (t.left - 1) 0 (record t { ranges = ranges }) behind) (sym here) in
    subst (λ (x : TaskState). LeadsOn x items (record { tracker = record (past_section None t) { ranges = ranges }; so_far = behind })) begins (subst (LeadsOn (state_at place (suc (t.left - 1)) t.more t s) items) ends on)

pub variable_on : (t : Tracker) (s : SoFar) (v : Variable) → t.place ≡ at.Variables → 0 < t.left → HasNames v → AllFit (variable_lines v)
    → LeadsOn (record { tracker = t; so_far = s }) (variable_lines v) (record { tracker = past_section (Some (length v.values)) t; so_far = behind_variable s v })
variable_on t s v here left good fits =
    let layer = fits.1.1 in
    let names = all_map IsName (λ w. Allowed t.ranges (due.Name what.Value) (name w)) (named t.ranges) v.values good.values in
    let allowed : VariableAllowed t.ranges v = (named t.ranges v.name good.name, (record { slot = refl; fits = layer.0; good = refl }, (positive_allowed t.ranges (length v.values) good.some layer.1.0, names))) in
    from_place t s (behind_variable s v) at.Variables (t.ranges ++ length v.values ∷ []) (variable_lines v) here left ((variable_block (t.left - 1) t.more t s).complete v allowed)

pub group_on : (t : Tracker) (s : SoFar) (facts : List Fact) → t.place ≡ at.Groups → 0 < t.left → IsTrue (list_all (fact_in_ranges t.ranges) facts) → AllFit (group_lines facts)
    → LeadsOn (record { tracker = t; so_far = s }) (group_lines facts) (record { tracker = past_section None t; so_far = behind_group s facts })
group_on t s facts here left good fits =
    from_place t s (behind_group s facts) at.Groups t.ranges (group_lines facts) here left ((group_block (t.left - 1) t.more t s).complete facts (facts_tested t.ranges facts (word (codes "end_mutex_group") ∷ []) fits.1 good).0)

-- an operator's lines after its name, and a rule's after its first word
operator_lines_are : (o : Operator)
    → operator_lines o ≡ word (codes "begin_operator") ∷ name o.name ∷ number (length o.prevail)
    ∷ (flat_map (single_line fact) o.prevail ++ number (length o.effects) ∷ (flat_map (single_line effect) o.effects ++ number o.cost ∷ word (codes "end_operator") ∷ []))
operator_lines_are o =
    let facts = flat_map (single_line fact) o.prevail in
    let effects = number (length o.effects) ∷ flat_map (single_line effect) o.effects in
    let last = word (codes "end_operator") in
    ap (λ (l : List TaskLine). word (codes "begin_operator") ∷ name o.name ∷ number (length o.prevail) ∷ l)
    (append_assoc (facts ++ effects) (number o.cost ∷ []) (last ∷ []) ∙ append_assoc facts effects (number o.cost ∷ last ∷ []))

pub operator_on : (t : Tracker) (s : SoFar) (o : Operator) → t.place ≡ at.Operators → 0 < t.left → OperatorInRanges t.ranges o → AllFit (operator_lines o)
    → LeadsOn (record { tracker = t; so_far = s }) (operator_lines o) (record { tracker = past_section None t; so_far = behind_operator s o })
operator_on t s o here left good fits =
    let all = subst AllFit (operator_lines_are o) fits in
    let facts = facts_tested t.ranges o.prevail _ all.1.1 good.prevail in
    let effects = tested t.ranges due.Effect effect (effect_in_ranges t.ranges) (λ e h g. record { slot = refl; fits = h; good = g }) o.effects _ facts.1.1 good.effects in
    let allowed : OperatorAllowed t.ranges o = (named t.ranges o.name good.name, (facts.0, ((any_allowed t.ranges (length o.effects) facts.1.0, effects.0), any_allowed t.ranges o.cost effects.1.0))) in
    from_place t s (behind_operator s o) at.Operators t.ranges (operator_lines o) here left ((operator_block (t.left - 1) t.more t s).complete o allowed)

rule_lines_are : (r : Effect)
    → rule_lines r ≡ word (codes "begin_rule") ∷ number (length r.conditions) ∷ (flat_map (single_line fact) r.conditions ++ head r.var r.old r.new ∷ word (codes "end_rule") ∷ [])
rule_lines_are r =
    ap (λ (l : List TaskLine). word (codes "begin_rule") ∷ number (length r.conditions) ∷ l)
    (append_assoc (flat_map (single_line fact) r.conditions) (head r.var r.old r.new ∷ []) (word (codes "end_rule") ∷ []))

pub rule_on : (t : Tracker) (s : SoFar) (r : Effect) → t.place ≡ at.Rules → 0 < t.left → IsTrue (effect_in_ranges t.ranges r) → AllFit (rule_lines r)
    → LeadsOn (record { tracker = t; so_far = s }) (rule_lines r) (record { tracker = past_section None t; so_far = behind_rule s r })
rule_on t s r here left good fits =
    let parts = and_parts (list_all (fact_in_ranges t.ranges) r.conditions) (change_in_ranges t.ranges r.var r.old r.new) good in
    let all = subst AllFit (rule_lines_are r) fits in
    let facts = facts_tested t.ranges r.conditions _ all.1 parts.0 in
    from_place t s (behind_rule s r) at.Rules t.ranges (rule_lines r) here left ((rule_block (t.left - 1) t.more t s).complete r (facts.0, record { slot = refl; fits = facts.1.0; good = parts.1 }))
