-- Operators and rules begin at their lines: the heights of all that stands before them are summed up.
use Rattle.sas_task_file.proofs.Imports.{◌≡◌, ℕ, zero, suc, ◌+◌, ◌<◌, List, [], ◌∷◌, ◌++◌, length, codes, refl, sym, ap, ◌∙◌, append_assoc, length-append, arith, Fact, Variable, Effect, Operator, Parts, flat_map, TaskLine, word, name, number, signed, fact, effect, head, single_line, between, counted, version_lines, metric_lines, variable_lines, group_lines, state_lines, goal_lines, operator_lines, rule_lines}
use Rattle.std.proofs.Common.{take, drop, get_or}
use Rattle.std.proofs.lemmas.List.Sums.{sum_by-cons}
use Rattle.std.specs.List.{sum_by}
use Rattle.sas_core.specs.Grounded.{operator_at, rule_at}
use Rattle.sas_core.specs.LineNumbers.{variable_height, group_height, operator_height, rule_height}
use Rattle.sas_task_file.specs.Beginnings.{OperatorsBegin, RulesBegin}

-- ---- how many lines there are

length_between : (first : List ℕ) (lines : List TaskLine) (last : List ℕ) → length (between first lines last) ≡ 2 + length lines
length_between first lines last = omega (arith, length-append lines (single_line word last))

singles : {A : Type 0} (says : A → TaskLine) (items : List A) → length (flat_map (single_line says) items) ≡ length items
singles says [] = refl
singles says (a ∷ items) = omega (arith, singles says items)

variable_lines_are : (v : Variable) → length (variable_lines v) ≡ variable_height v
variable_lines_are v =
    let front = single_line name v.name ++ single_line signed v.layer in
    omega (arith, length_between (codes "begin_variable") (front ++ counted (single_line name) v.values) (codes "end_variable"), length-append front (counted (single_line name) v.values), singles name v.values)

group_lines_are : (facts : List Fact) → length (group_lines facts) ≡ group_height facts
group_lines_are facts = omega (arith, length_between (codes "begin_mutex_group") (counted (single_line fact) facts) (codes "end_mutex_group"), singles fact facts)

abbrev front_of : Operator → List TaskLine
front_of o = single_line name o.name ++ counted (single_line fact) o.prevail

operator_lines_are : (o : Operator) → length (operator_lines o) ≡ operator_height o
operator_lines_are o =
    omega (
      arith,
      length_between (codes "begin_operator") (front_of o ++ counted (single_line effect) o.effects ++ single_line number o.cost) (codes "end_operator"),
      length-append (front_of o ++ counted (single_line effect) o.effects) (single_line number o.cost),
      length-append (front_of o) (counted (single_line effect) o.effects),
      singles fact o.prevail,
      singles effect o.effects,
    )

rule_lines_are : (r : Effect) → length (rule_lines r) ≡ rule_height r
rule_lines_are r =
    let end = head r.var r.old r.new ∷ [] in
    omega (arith, length_between (codes "begin_rule") (counted (single_line fact) r.conditions ++ end) (codes "end_rule"), length-append (counted (single_line fact) r.conditions) end, singles fact r.conditions)

module _ {A : Type 0} (lines : A → List TaskLine) where
  heights : (height : A → ℕ) → ((a : A) → length (lines a) ≡ height a) → (items : List A) → length (flat_map lines items) ≡ sum_by height items
  heights height are [] = refl
  heights height are (a ∷ items) = omega (arith, length-append (lines a) (flat_map lines items), are a, heights height are items, sum_by-cons height a items)

  -- the lines of an item, with those before it and behind it
  split : (items : List A) (i : ℕ) (d : A) → i < length items → flat_map lines items ≡ flat_map lines (take i items) ++ (lines (get_or items i d) ++ flat_map lines (drop (suc i) items))
  split [] i d h = absurd (omega (arith, h))
  split (a ∷ items) zero d h = refl
  split (a ∷ items) (suc i) d h =
      ap (λ (l : List TaskLine). lines a ++ l) (split items i d (omega (arith, h)))
      ∙ sym (append_assoc (lines a) (flat_map lines (take i items)) (lines (get_or items i d) ++ flat_map lines (drop (suc i) items)))

-- ---- the layout

regroup : (x p o q : List TaskLine) → x ++ (p ++ (o ++ q)) ≡ x ++ p ++ o ++ q
regroup x p o q = sym (append_assoc x p (o ++ q)) ∙ sym (append_assoc (x ++ p) o q)

module _ (p : Parts) where
  abbrev head_lines : List TaskLine
  head_lines = version_lines ++ metric_lines p.metric ++ counted variable_lines p.variables ++ counted group_lines p.groups

  abbrev to_goal : List TaskLine
  to_goal = head_lines ++ state_lines p.init ++ goal_lines p.goal

  length_to_goal : length to_goal ≡ 13 + sum_by variable_height p.variables + sum_by group_height p.groups + length p.init + length p.goal
  length_to_goal =
      omega (
        arith,
        length-append (head_lines ++ state_lines p.init) (goal_lines p.goal),
        length-append head_lines (state_lines p.init),
        length-append (version_lines ++ metric_lines p.metric ++ counted variable_lines p.variables) (counted group_lines p.groups),
        length-append (version_lines ++ metric_lines p.metric) (counted variable_lines p.variables),
        heights variable_lines variable_height variable_lines_are p.variables,
        heights group_lines group_height group_lines_are p.groups,
        length_between (codes "begin_state") (flat_map (single_line number) p.init) (codes "end_state"),
        singles number p.init,
        length_between (codes "begin_goal") (counted (single_line fact) p.goal) (codes "end_goal"),
        singles fact p.goal,
      )

pub operators_begin : OperatorsBegin
operators_begin p i h =
    let count = number (length p.operators) in
    let first = flat_map operator_lines (take i p.operators) in
    let its = operator_lines (operator_at p i) in
    let more = flat_map operator_lines (drop (suc i) p.operators) in
    let rules = counted rule_lines p.rules in
    record {
      before = to_goal p ++ count ∷ first;
      behind = more ++ rules;
      whole =
          ap (λ (l : List TaskLine). to_goal p ++ count ∷ l ++ rules) (split operator_lines p.operators i _ h)
          ∙ ap (λ (l : List TaskLine). l ++ rules) (regroup (to_goal p) (count ∷ first) its more)
          ∙ append_assoc (to_goal p ++ count ∷ first ++ its) more rules;
      place = omega (arith, length-append (to_goal p) (count ∷ first), length_to_goal p, heights operator_lines operator_height operator_lines_are (take i p.operators));
    }

pub rules_begin : RulesBegin
rules_begin p i h =
    let count = number (length p.rules) in
    let to_rules = to_goal p ++ counted operator_lines p.operators in
    let first = flat_map rule_lines (take i p.rules) in
    let its = rule_lines (rule_at p i) in
    let more = flat_map rule_lines (drop (suc i) p.rules) in
    record {
      before = to_rules ++ count ∷ first;
      behind = more;
      whole = ap (λ (l : List TaskLine). to_rules ++ count ∷ l) (split rule_lines p.rules i _ h) ∙ regroup to_rules (count ∷ first) its more;
      place = omega (
        arith,
        length-append to_rules (count ∷ first),
        length-append (to_goal p) (counted operator_lines p.operators),
        length_to_goal p,
        heights operator_lines operator_height operator_lines_are p.operators,
        heights rule_lines rule_height rule_lines_are (take i p.rules),
      );
    }
