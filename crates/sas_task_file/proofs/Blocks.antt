-- The blocks of a task file are stretches: a variable, a mutex group, an operator, a rule.
use Rattle.sas_task_file.proofs.Imports.{◌≡◌, ℕ, suc, ◌-◌, List, [], ◌∷◌, ◌++◌, length, refl, ap, ◌∙◌, append_assoc, codes, Fact, Variable, Effect, Operator, AllByRecursion, Change, Place, Tracker, SoFar, Due, FixedWord, TaskState, table_node, state_after, before, TaskLine, word, name, number, signed, fact, effect, head, word_slot, name_slot, number_slot, signed_slot, fact_slot, effect_slot, head_slot, task_slot, slot_of_due, fixed_word_bytes, any_number, positive_number, single_line, between, counted, variable_lines, group_lines, operator_lines, rule_lines, test_of_due, name_in, number_in, signed_in, fact_in, effect_in, head_in, behind_variable, behind_group, behind_operator, behind_rule}
use Rattle.sas_task_file.specs.declared.places.Place.TheVariants as place
use Rattle.sas_task_file.specs.declared.marks.What.TheVariants as what
use Rattle.sas_task_file.specs.declared.marks.Due.TheVariants as due
use Rattle.sas_task_file.specs.declared.marks.FixedWord.TheVariants as fixed
use Rattle.sas_task_file.proofs.Stretches.{Stretch, Allowed, line, ◌then◌, converted, numbered}

-- ---- the value of a line of a slot

pub word_is : (w : List ℕ) (i : TaskLine) → task_slot i ≡ word_slot w → word w ≡ i
word_is w (word v) e = cc
word_is w _ e = absurd cc

pub name_is : (i : TaskLine) → task_slot i ≡ name_slot → name (name_in i) ≡ i
name_is (name b) e = refl
name_is _ e = absurd cc

pub number_is : (i : TaskLine) → task_slot i ≡ number_slot → number (number_in i) ≡ i
number_is (number n) e = refl
number_is _ e = absurd cc

pub signed_is : (i : TaskLine) → task_slot i ≡ signed_slot → signed (signed_in i) ≡ i
signed_is (signed n) e = refl
signed_is _ e = absurd cc

pub fact_is : (i : TaskLine) → task_slot i ≡ fact_slot → fact (fact_in i) ≡ i
fact_is (fact f) e = refl
fact_is _ e = absurd cc

pub effect_is : (i : TaskLine) → task_slot i ≡ effect_slot → effect (effect_in i) ≡ i
effect_is (effect e) q = refl
effect_is _ q = absurd cc

abbrev pub head_line : Change → TaskLine
head_line h = head h.var h.old h.new

pub head_is : (i : TaskLine) → task_slot i ≡ head_slot → head_line (head_in i) ≡ i
head_is (head var old new) e = refl
head_is _ e = absurd cc

-- ---- states, and what is allowed

-- at a place, with this many blocks and lines left
abbrev pub state_at : Place → ℕ → ℕ → Tracker → SoFar → TaskState
state_at p left more t s = record { tracker = record t { place = p; left = left; more = more }; so_far = s }

-- a number of lines, and these lines
abbrev pub ListAllowed : List ℕ → Due → Due → {A : Type 0} → (A → TaskLine) → List A → Type 0
ListAllowed ranges count d into xs = Allowed ranges count (number (length xs)) × AllByRecursion (λ a. Allowed ranges d (into a)) xs

abbrev pub VariableAllowed : List ℕ → Variable → Type 0
VariableAllowed ranges v = Allowed ranges (due.Name what.Variable) (name v.name) × (Allowed ranges due.Layer (signed v.layer) × ListAllowed ranges (positive_number what.Range) (due.Name what.Value) name v.values)

abbrev pub FactsAllowed : List ℕ → List Fact → Type 0
FactsAllowed ranges facts = ListAllowed ranges (any_number what.Facts) due.Fact fact facts

abbrev pub OperatorAllowed : List ℕ → Operator → Type 0
OperatorAllowed ranges o =
    Allowed ranges (due.Name what.Operator) (name o.name)
    × (FactsAllowed ranges o.prevail × (ListAllowed ranges (any_number what.Effects) due.Effect effect o.effects × Allowed ranges (any_number what.Cost) (number o.cost)))

abbrev pub RuleAllowed : List ℕ → Effect → Type 0
RuleAllowed ranges r = FactsAllowed ranges r.conditions × Allowed ranges due.Head (head r.var r.old r.new)

-- a fixed word has no value
none_in : TaskLine → Unit {0}
none_in i = tt

-- a stretch between two words
pub enclosed : {x : TaskState} {A : Type 0} {lines : A → List TaskLine} {Good : A → Type 0} {middle : A → TaskState} (first last : FixedWord)
    → table_node x ≡ before (slot_of_due (due.Word first)) (test_of_due x.tracker.ranges (due.Word first)) (state_after x) → Stretch (state_after x (word (fixed_word_bytes first))) lines Good middle
    → ((a : A) → table_node (middle a) ≡ before (slot_of_due (due.Word last)) (test_of_due (middle a).tracker.ranges (due.Word last)) (state_after (middle a)))
    → Stretch x (λ a. between (fixed_word_bytes first) (lines a) (fixed_word_bytes last)) Good (λ a. state_after (middle a) (word (fixed_word_bytes last)))
enclosed {x = x} {middle = middle} first last here m there =
    converted (λ p. p.1.0)
    (line (due.Word first) here (λ (u : Unit {0}). word (fixed_word_bytes first)) none_in (word_is (fixed_word_bytes first)) then (λ (u : Unit {0}). m then (λ a. line (due.Word last) (there a) (λ (u : Unit {0}). word (fixed_word_bytes last)) none_in (word_is (fixed_word_bytes last)))))
    (record { good = λ p g. g.1.0; lines_are = λ p g. refl; next_is = λ p g. refl; back = λ a g. ((tt, (a, tt)), (allowed_word x.tracker.ranges first, (g, allowed_word (middle a).tracker.ranges last)), refl) })
  where
    allowed_word : (ranges : List ℕ) (w : FixedWord) → Allowed ranges (due.Word w) (word (fixed_word_bytes w))
    allowed_word ranges w = record { slot = refl; fits = tt; good = refl }

-- ---- the blocks

pub four : {A : Type 0} (a b c d : List A) → a ++ b ++ c ++ d ≡ a ++ (b ++ (c ++ d))
four a b c d = append_assoc (a ++ b) c d ∙ append_assoc a b (c ++ d)

module _ (left more : ℕ) (t : Tracker) (s : SoFar) where
  -- with this many blocks left, of which the last has begun
  abbrev inside : Place → ℕ → SoFar → TaskState
  inside p n u = state_at p (suc left - 1) n t u

  pub variable_block : Stretch (state_at place.Variables (suc left) more t s) variable_lines (VariableAllowed t.ranges) (λ v. state_at place.Variables (suc left - 1) 0 (record t { ranges = t.ranges ++ length v.values ∷ [] }) (behind_variable s v))
  variable_block = converted (λ p. record { name = p.0; layer = p.1.0; values = p.1.1 })
      (enclosed fixed.BeginVariable fixed.EndVariable refl
      (line (due.Name what.Variable) refl name name_in name_is then (λ label. line due.Layer refl signed signed_in signed_is then (λ layer.
      numbered (λ m n xs. state_at place.VariableValues (suc left - 1) n (record t { ranges = t.ranges ++ m ∷ [] }) (record s { name = label; layer = layer; values = xs })) (line (positive_number what.Range) refl number number_in number_is) (λ m n xs. line (due.Name what.Value) refl name name_in name_is))))
      (λ p. refl))
      (record { good = λ p g. g; lines_are = λ p g. refl; next_is = λ p g. refl; back = λ v g. ((v.name, (v.layer, v.values)), g, refl) })

  pub group_block : Stretch (state_at place.Groups (suc left) more t s) group_lines (FactsAllowed t.ranges) (λ g. state_at place.Groups (suc left - 1) 0 t (behind_group s g))
  group_block = enclosed fixed.BeginMutexGroup fixed.EndMutexGroup refl (numbered (λ m n fs. inside place.GroupFacts n (record s { facts = fs })) (line (any_number what.Facts) refl number number_in number_is) (λ m n fs. line due.Fact refl fact fact_in fact_is)) (λ fs. refl)

  pub operator_block : Stretch (state_at place.Operators (suc left) more t s) operator_lines (OperatorAllowed t.ranges) (λ o. state_at place.Operators (suc left - 1) 0 t (behind_operator s o))
  operator_block = converted (λ p. record { name = p.0; prevail = p.1.0; effects = p.1.1.0; cost = p.1.1.1 })
      (enclosed fixed.BeginOperator fixed.EndOperator refl
      (line (due.Name what.Operator) refl name name_in name_is
      then (λ label. numbered (λ m n fs. inside place.Prevail n (record s { name = label; facts = fs })) (line (any_number what.Prevail) refl number number_in number_is) (λ m n fs. line due.Fact refl fact fact_in fact_is)
      then (λ fs. numbered (λ m n es. inside place.Effects n (record s { name = label; facts = fs; effects = es })) (line (any_number what.Effects) refl number number_in number_is) (λ m n es. line due.Effect refl effect effect_in effect_is)
      then (λ es. line (any_number what.Cost) refl number number_in number_is))))
      (λ p. refl))
      (record {
        good = λ p g. g;
        lines_are = λ p g. ap (λ (x : List TaskLine). between (codes "begin_operator") x (codes "end_operator")) (four (single_line name p.0) (counted (single_line fact) p.1.0) (counted (single_line effect) p.1.1.0) (single_line number p.1.1.1));
        next_is = λ p g. refl;
        back = λ o g. ((o.name, (o.prevail, (o.effects, o.cost))), g, refl);
      })

  pub rule_block : Stretch (state_at place.Rules (suc left) more t s) rule_lines (RuleAllowed t.ranges) (λ r. state_at place.Rules (suc left - 1) 0 t (behind_rule s r))
  rule_block = converted (λ p. record { conditions = p.0; var = p.1.var; old = p.1.old; new = p.1.new })
      (enclosed fixed.BeginRule fixed.EndRule refl
      (numbered (λ m n fs. inside place.RuleConditions n (record s { facts = fs })) (line (any_number what.Conditions) refl number number_in number_is) (λ m n fs. line due.Fact refl fact fact_in fact_is)
      then (λ fs. line due.Head refl head_line head_in head_is))
      (λ p. refl))
      (record { good = λ p g. g; lines_are = λ p g. refl; next_is = λ p g. refl; back = λ r g. ((r.conditions, record { var = r.var; old = r.old; new = r.new }), g, refl) })
