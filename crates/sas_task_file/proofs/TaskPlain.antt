-- No line of a well ranged task contains LF or CR.
use Rattle.sas_task_file.proofs.Imports.{ℕ, ◌<◌, Bool, true, false, List, [], ◌∷◌, ◌++◌, length, map, refl, arith, IsTrue, Option, Some, None, codes, flat_map, list_all, AllByRecursion, decimal, Fact, Variable, Effect, Operator, Parts, is_plain, IsName, IsNumber, IsSigned, FactExists, Listed, VariableFits, EffectFits, OperatorFits, WellRanged, signed_decimal, joined, lines_of, TaskLine, word, name, number, signed, fact, effect, head, fact_words, head_words, effect_words, task_line_bytes, TaskLineFits, FactNumbers, HeadNumbers, EffectNumbers, single_line, between, counted, version_lines, metric_lines, variable_lines, group_lines, goal_lines, operator_lines, rule_lines, task_layout, task_texts, IsPlain, plain-decimal, plain-name, plain-append}
use Rattle.sas_task_file.proofs.TaskSections.{Known, known, Ranged, InRanges, state_paired, fact_numbers, effect_numbers, change_numbers}

-- ---- one line

plain-number : (n : ℕ) → IsNumber n → IsPlain (decimal n)
plain-number n h = plain-decimal n

plain-signed : (n : Option ℕ) → IsSigned n → IsPlain (signed_decimal n)
plain-signed None h = refl
plain-signed (Some n) h = plain-number n h

plain-joined : (words : List (List ℕ)) → AllByRecursion IsPlain words → IsPlain (joined words)
plain-joined [] h = refl
plain-joined (w ∷ []) h = h.0
plain-joined (w ∷ v ∷ ws) h = plain-append w (32 ∷ joined (v ∷ ws)) h.0 (plain-joined (v ∷ ws) h.1)

plain-facts : (facts : List Fact) (words : List (List ℕ)) → AllByRecursion FactNumbers facts → AllByRecursion IsPlain words → AllByRecursion IsPlain (flat_map fact_words facts ++ words)
plain-facts [] words h g = g
plain-facts (f ∷ facts) words h g = (plain-number f.var h.0.0, (plain-number f.value h.0.1, plain-facts facts words h.1 g))

plain-head : (var : ℕ) (old : Option ℕ) (new : ℕ) → HeadNumbers var old new → AllByRecursion IsPlain (head_words var old new)
plain-head var old new h = (plain-number var h.0, (plain-signed old h.1, (plain-number new h.2, tt)))

plain-effect : (e : Effect) → EffectNumbers e → AllByRecursion IsPlain (effect_words e)
plain-effect e h = (plain-number (length e.conditions) h.count, plain-facts e.conditions (head_words e.var e.old e.new) h.conditions (plain-head e.var e.old e.new h.head))

-- a word or a name without LF and CR, or numbers that a file can spell
abbrev pub Sayable : TaskLine → Type 0
Sayable (word w) = IsPlain w
Sayable (name bytes) = IsName bytes
Sayable i = TaskLineFits i

pub plain-line : (i : TaskLine) → Sayable i → IsPlain (task_line_bytes i)
plain-line (word w) h = h
plain-line (name bytes) h = plain-name bytes h
plain-line (number n) h = plain-number n h
plain-line (signed n) h = plain-signed n h
plain-line (fact f) h = plain-joined (fact_words f) (plain-number f.var h.0, (plain-number f.value h.1, tt))
plain-line (effect e) h = plain-joined (effect_words e) (plain-effect e h)
plain-line (head var old new) h = plain-joined (head_words var old new) (plain-head var old new h)

-- ---- several lines

record AllSayable (items : List TaskLine) : Type 0 where
  all : AllByRecursion Sayable items

plain-lines : (items : List TaskLine) → AllByRecursion Sayable items → AllByRecursion IsPlain (map task_line_bytes items)
plain-lines [] h = tt
plain-lines (i ∷ items) h = (plain-line i h.0, plain-lines items h.1)

append_all : (a b : List TaskLine) → AllByRecursion Sayable a → AllByRecursion Sayable b → AllByRecursion Sayable (a ++ b)
append_all [] b h g = g
append_all (i ∷ a) b h g = (h.0, append_all a b h.1 g)

also : {a b : List TaskLine} → AllSayable a → AllSayable b → AllSayable (a ++ b)
also {a = a} {b = b} h g = record { all = append_all a b h.all g.all }

one : (i : TaskLine) → Sayable i → AllSayable (i ∷ [])
one i h = record { all = (h, tt) }

module _ {A : Type 0} {Good : A → Type 0} (items : A → List TaskLine) (each : (a : A) → Good a → AllSayable (items a)) where
  of_each : (xs : List A) → AllByRecursion Good xs → AllSayable (flat_map items xs)
  of_each [] h = record { all = tt }
  of_each (x ∷ xs) h = also (each x h.0) (of_each xs h.1)

  of_list : (xs : List A) → Listed Good xs → AllSayable (counted items xs)
  of_list xs h = also (one (number (length xs)) h.count) (of_each xs h.each)

enclosed : {items : List TaskLine} (first last : List ℕ) → IsTrue (list_all is_plain first) → IsTrue (list_all is_plain last) → AllSayable items → AllSayable (between first items last)
enclosed first last f l h = also (also (one (word first) f) h) (one (word last) l)

of_metric : (m : Bool) → AllSayable (metric_lines m)
of_metric true = record { all = (refl, (omega arith, (refl, tt))) }
of_metric false = record { all = (refl, (omega arith, (refl, tt))) }

of_names : (xs : List (List ℕ)) → Listed IsName xs → AllSayable (counted (single_line name) xs)
of_names xs h = of_list (single_line name) (λ b g. one (name b) g) xs h

of_variable : (v : Variable) → VariableFits v → AllSayable (variable_lines v)
of_variable v h = enclosed (codes "begin_variable") (codes "end_variable") refl refl (also (also (one (name v.name) h.name) (one (signed v.layer) h.layer)) (of_names v.values h.values))

of_values : (vs : List Variable) (xs : List ℕ) → AllByRecursion Ranged vs → InRanges vs xs → AllSayable (flat_map (single_line number) xs)
of_values [] [] r h = record { all = tt }
of_values [] (x ∷ xs) r h = absurd h
of_values (v ∷ vs) [] r h = absurd h
of_values (v ∷ vs) (x ∷ xs) r h = also (one (number x) (let n : IsNumber (length v.values) = r.0.1 in let l : x < length v.values = h.0 in omega arith)) (of_values vs xs r.1 h.1)

module _ (vs : List Variable) (k : Known vs) where
  of_facts : (fs : List Fact) → Listed (FactExists vs) fs → AllSayable (counted (single_line fact) fs)
  of_facts fs h = of_list (single_line fact) (λ f g. one (fact f) (fact_numbers vs k f g)) fs h

  of_effects : (es : List Effect) → Listed (EffectFits vs) es → AllSayable (counted (single_line effect) es)
  of_effects es h = of_list (single_line effect) (λ e g. one (effect e) (effect_numbers vs k e g)) es h

  of_group : (fs : List Fact) → Listed (FactExists vs) fs → AllSayable (group_lines fs)
  of_group fs h = enclosed (codes "begin_mutex_group") (codes "end_mutex_group") refl refl (of_facts fs h)

  of_goal : (fs : List Fact) → Listed (FactExists vs) fs → AllSayable (goal_lines fs)
  of_goal fs h = enclosed (codes "begin_goal") (codes "end_goal") refl refl (of_facts fs h)

  of_operator : (o : Operator) → OperatorFits vs o → AllSayable (operator_lines o)
  of_operator o h = enclosed (codes "begin_operator") (codes "end_operator") refl refl (also (also (also (one (name o.name) h.name) (of_facts o.prevail h.prevail)) (of_effects o.effects h.effects)) (one (number o.cost) h.cost))

  of_rule : (r : Effect) → EffectFits vs r → AllSayable (rule_lines r)
  of_rule r h = enclosed (codes "begin_rule") (codes "end_rule") refl refl (also (of_facts r.conditions h.conditions) (one (head r.var r.old r.new) (change_numbers vs k r.var r.old r.new (h.old, h.new))))

-- ---- the task

of_version : AllSayable version_lines
of_version = record { all = (refl, (omega arith, (refl, tt))) }

of_task : (p : Parts) → WellRanged p → AllSayable (task_layout p)
of_task p h =
    let k = known p.variables h.variables in
    let variables = also (also of_version (of_metric p.metric)) (of_list variable_lines of_variable p.variables h.variables) in
    let groups = also variables (of_list group_lines (of_group p.variables k) p.groups h.groups) in
    let init = also groups (enclosed (codes "begin_state") (codes "end_state") refl refl (of_values p.variables p.init k.each (state_paired p.variables p.init h.init))) in
    let goal = also init (of_goal p.variables k p.goal h.goal) in
    also (also goal (of_list operator_lines (of_operator p.variables k) p.operators h.operators)) (of_list rule_lines (of_rule p.variables k) p.rules h.rules)

pub task_plain : (p : Parts) → WellRanged p → AllByRecursion IsPlain (lines_of task_texts p)
task_plain p h = plain-lines (task_layout p) (of_task p h).all
