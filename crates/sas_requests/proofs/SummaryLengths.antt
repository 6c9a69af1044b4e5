-- How long a summary is. What is read of a task is at most 4 GiB, and so a `usize` holds the length of its summary.
use Rattle.sas_requests.proofs.Imports.{◌≡◌, ℕ, suc, zero, ◌+◌, ◌*◌, ◌^◌, ◌<◌, ◌≤◌, List, [], ◌∷◌, ◌++◌, length, map, codes, length-append, arith, sym, ap, subst, ◌∙◌, Some, decimal, slice_get, enumerate_from, length-map, length-enumerate_from, AllByRecursion, flat_map-append, map-append, cases_lt, none-some, mul-le-mul_left, Fact, Variable, Parts, text, ValueOf, TaskLine, word, name, signed, fact, task_line_bytes, single_line, between, counted, version_lines, metric_lines, variable_lines, group_lines, state_lines, operator_lines, rule_lines, task_layout, task_format, Outline, OutlineOf, outline_of, value_name, unwrap_or, joined, fact_line, number_lines, initial_lines, goal_fact_lines, summary_lines}
use Rattle.std.specs.List.{flat_map}
use Rattle.sas_task_file.specs.TaskFormat.{number}
use Rattle.sas_requests.proofs.Lengths.{decimal_short, text_short}
use Rattle.sas_requests.proofs.GroupLines.{all_both}
use Rattle.sas_task_file.specs.TaskFormat as file

-- ---- how many bytes lines of a file take

size : List TaskLine → ℕ
size items = length (text (map task_line_bytes items))

size_of_both : (a b : List TaskLine) → size (a ++ b) ≡ size a + size b
unfolding size
size_of_both a b =
    let ends : List ℕ → List ℕ = λ l. l ++ 10 ∷ [] in
    ap (λ (l : List (List ℕ)). length (text l)) (map-append task_line_bytes a b)
    ∙ ap length (flat_map-append ends (map task_line_bytes a) (map task_line_bytes b))
    ∙ length-append (text (map task_line_bytes a)) (text (map task_line_bytes b))

size_of_one : (item : TaskLine) → size (item ∷ []) ≡ length (task_line_bytes item) + 1
unfolding size
size_of_one item = omega (arith, length-append (task_line_bytes item ++ 10 ∷ []) [], length-append (task_line_bytes item) (10 ∷ []))

-- each takes a byte at least
size_of_each : {A : Type 0} (says : A → TaskLine) (items : List A) → length items ≤ size (flat_map (single_line says) items)
size_of_each says [] = omega arith
size_of_each says (a ∷ items) = omega (arith, size_of_both (says a ∷ []) (flat_map (single_line says) items), size_of_one (says a), size_of_each says items)

-- what stands within takes no more than all
size_within : (a b c : List TaskLine) → size b ≤ size (a ++ b ++ c)
size_within a b c = omega (arith, size_of_both (a ++ b) c, size_of_both a b)

size_behind : (a b : List TaskLine) → size b ≤ size (a ++ b)
size_behind a b = omega (arith, size_of_both a b)

size_before : (a b : List TaskLine) → size a ≤ size (a ++ b)
size_before a b = omega (arith, size_of_both a b)

-- ---- names

value_short : (values : List (List ℕ)) (value : ℕ) (bytes : List ℕ) → slice_get values value ≡ Some bytes → length bytes ≤ size (flat_map (single_line name) values)
value_short [] value bytes is = absurd (none-some bytes is)
value_short (first ∷ values) zero bytes is =
    let same : first ≡ bytes = cc in
    omega (arith, size_before (name first ∷ []) (flat_map (single_line name) values), size_of_one (name first), ap (λ (l : List ℕ). length l) same)
value_short (first ∷ values) (suc value) bytes is =
    omega (arith, size_behind (name first ∷ []) (flat_map (single_line name) values), value_short values value bytes is)

values_short : (v : Variable) → size (flat_map (single_line name) v.values) ≤ size (variable_lines v)
values_short v = search (arith, flat_map, single_line, name, number, length, signed, size_behind, size_within, word, codes)

name_short : (variables : List Variable) (var value : ℕ) (bytes : List ℕ) → value_name variables var value ≡ Some bytes → length bytes ≤ size (flat_map variable_lines variables)
name_short [] var value bytes is = absurd (none-some bytes is)
name_short (v ∷ variables) zero value bytes is =
    omega (arith, value_short v.values value bytes is, values_short v, size_before (variable_lines v) (flat_map variable_lines variables))
name_short (v ∷ variables) (suc var) value bytes is =
    omega (arith, name_short variables var value bytes is, size_behind (variable_lines v) (flat_map variable_lines variables))

-- ---- the lines of the summary

-- so many bytes, where each line is shorter than this
lines_fit : (most : ℕ) (ls : List (List ℕ)) → AllByRecursion (λ l. length l < most) ls → length (text ls) ≤ length ls * most
lines_fit most [] h = omega arith
lines_fit most (l ∷ ls) h = omega (arith, lines_fit most ls h.1, h.0, length-append (l ++ 10 ∷ []) (text ls), length-append l (10 ∷ []))

each_fits : {A : Type 0} (most : ℕ) (line_of : A → List ℕ) → ((a : A) → length (line_of a) < most) → (items : List A) → AllByRecursion (λ l. length l < most) (map line_of items)
each_fits most line_of short [] = tt
each_fits most line_of short (a ∷ items) = (short a, each_fits most line_of short items)

module _ (variables : List Variable) (n : ℕ) (h : size (flat_map variable_lines variables) ≤ n) where
  fact_short : (first : List ℕ) → length first ≤ 9 → (var value : ℕ) → length (fact_line first variables var value) < n + 150
  fact_short first short var value = grind (arith, value_name, name_short, length, size, flat_map, variable_lines, joined, decimal, unwrap_or, length-append, decimal_short)

summary_short : (o : Outline) (n : ℕ) → size (flat_map variable_lines o.variables) ≤ n → length (text (summary_lines o)) ≤ (length (number_lines o) + length o.init + length o.goal) * (n + 150)
summary_short o n h =
    let Short = λ (l : List ℕ). length l < n + 150 in
    let numbers : AllByRecursion Short (number_lines o) = search (arith, decimal_short, length-append, codes, length) in
    let initial = each_fits (n + 150) (λ (var, value). fact_line (codes "initial") o.variables var value) (λ (var, value). fact_short o.variables n h (codes "initial") (omega arith) var value) (enumerate_from 0 o.init) in
    let goal = each_fits (n + 150) (λ (f : Fact). fact_line (codes "goal") o.variables f.var f.value) (λ f. fact_short o.variables n h (codes "goal") (omega arith) f.var f.value) o.goal in
    let behind = initial_lines o.variables o.init ++ goal_fact_lines o.variables o.goal in
    let all = all_both Short (number_lines o) behind numbers (all_both Short (initial_lines o.variables o.init) (goal_fact_lines o.variables o.goal) initial goal) in
    let many : length (summary_lines o) ≡ length (number_lines o) + length o.init + length o.goal = omega (
      arith,
      length-append (number_lines o) behind,
      length-append (initial_lines o.variables o.init) (goal_fact_lines o.variables o.goal),
      length-map (enumerate_from 0 o.init) (λ (var, value). fact_line (codes "initial") o.variables var value),
      length-enumerate_from 0 o.init,
      length-map o.goal (λ (f : Fact). fact_line (codes "goal") o.variables f.var f.value),
    ) in
    subst (λ (k : ℕ). length (text (summary_lines o)) ≤ k * (n + 150)) many (lines_fit (n + 150) (summary_lines o) all)

-- ---- the whole

-- what three sections take together
size_of_sections : (a b c d e f g h : List TaskLine) → size c + size e + size f ≤ size (a ++ b ++ c ++ d ++ e ++ f ++ g ++ h)
size_of_sections a b c d e f g h = omega (arith, size_of_both)

counted_size : {A : Type 0} (lines_of : A → List TaskLine) (items : List A) → size (flat_map lines_of items) ≤ size (counted lines_of items)
counted_size lines_of items = size_behind (single_line number (length items)) (flat_map lines_of items)

between_size : (first : List ℕ) (inner : List TaskLine) (last : List ℕ) → size inner ≤ size (between first inner last)
between_size first inner last = size_within (word first ∷ []) inner (word last ∷ [])

goal_size : (facts : List Fact) → size (flat_map (single_line fact) facts) ≤ size (file.goal_lines facts)
goal_size facts = search (arith, counted_size, single_line, fact, between_size, codes, counted)

-- a text that was read takes as many bytes as were read, at most
size_of_read : (bytes : List ℕ) (p : Parts) → ValueOf task_format bytes p → size (task_layout p) ≤ 2 ^ 32
unfolding size
size_of_read bytes p (reads, short) =
    subst (λ (l : List (List ℕ)). length (text l) ≤ 2 ^ 32) reads.lines (omega (arith, text_short bytes, short))

-- a line for each of so many items, and some more, each with no more than n bytes of a name
product_fits : (n many whole : ℕ) → many + n ≤ 2 ^ 32 + 100 → whole ≤ many * (n + 150) → whole < 2 ^ 64
product_fits n many whole few h = grind (arith, cases_lt, mul-le-mul_left)

pub summary_fits : (bytes : List ℕ) (o : Outline) → OutlineOf bytes o → length (text (summary_lines o)) < 2 ^ 64
summary_fits bytes o (p, value, is) =
    let variables = flat_map variable_lines p.variables in
    let values = flat_map (single_line number) p.init in
    let sections = size_of_sections version_lines (metric_lines p.metric) (counted variable_lines p.variables) (counted group_lines p.groups) (state_lines p.init) (file.goal_lines p.goal) (counted operator_lines p.operators) (counted rule_lines p.rules) in
    let of_variables = counted_size variable_lines p.variables in
    let of_values = between_size (codes "begin_state") values (codes "end_state") in
    let of_facts = goal_size p.goal in
    let all = size_of_read bytes p value in
    let few_values = size_of_each number p.init in
    let few_facts = size_of_each fact p.goal in
    subst (λ (q : Outline). length (text (summary_lines q)) < 2 ^ 64) (sym is)
    (product_fits (size variables) (length (number_lines (outline_of p)) + length p.init + length p.goal) _ (omega (arith, sections, of_variables, of_values, of_facts, all, few_values, few_facts))
    (summary_short (outline_of p) (size variables) (omega arith)))
