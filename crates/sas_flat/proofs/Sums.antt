-- Sums over the first items of lists: how many lines they have in a task file.
use Rattle.sas_flat.proofs.Imports.{◌≡◌, ℕ, zero, suc, ◌+◌, ◌*◌, ◌<◌, ◌≤◌, List, [], ◌∷◌, length, take, get_or, refl, sym, ap, ◌∙◌, arith, sum_by, sum_by_push, sum_by-cons, slice_index, length-map, None, Parts, variable, operator_line, take-length, Variable, Operator, Effect, Fact, Change, Head, VariableColumns, OperatorColumns, variable_height, group_height, operator_height, rule_height, table, start_of, list_at, lists_of, AreEnds, effects_of, variables_in, VariableColumnsAlign, operators_in, prevail_ends, effect_ends, OperatorColumnsAlign}
use Rattle.sas_flat.proofs.Tables.{length-table, get_or-table, take-table}
use Rattle.sas_flat.proofs.Blocks.{list_length}
use Rattle.sas_flat.proofs.Rows.{variable_count}

-- a sum over a table, by what it is at each place
sum_of_table : {X : Type 0} (height : X → ℕ) (f : ℕ → X) (upto : ℕ → ℕ) (n : ℕ) → upto 0 ≡ 0 → ((i : ℕ) → i < n → upto i + height (f i) ≡ upto (suc i)) → sum_by height (table n f) ≡ upto n
unfolding table
sum_of_table height f upto zero start step = sym start
sum_of_table height f upto (suc n) start step =
    omega (arith, sum_by_push height (table n f) (f n), sum_of_table height f upto n start (λ i h. step i (omega arith)), step n (omega arith))

-- and over its first items
sum_of_first : {X : Type 0} (height : X → ℕ) (f : ℕ → X) (upto : ℕ → ℕ) (n k : ℕ) → k ≤ n → upto 0 ≡ 0 → ((i : ℕ) → i < n → upto i + height (f i) ≡ upto (suc i)) → sum_by height (take k (table n f)) ≡ upto k
sum_of_first height f upto n k fits start step = ap (sum_by height) (take-table n f k fits) ∙ sum_of_table height f upto k start (λ i h. step i (omega arith))

-- the items of the first lists
pub items_before : {X : Type 0} (items : List X) (ends : List ℕ) (k : ℕ) → AreEnds ends (length items) → k ≤ length ends → sum_by (λ (l : List X). length l) (take k (lists_of items ends)) ≡ start_of ends k
items_before items ends k are fits =
    sum_of_first (λ l. length l) (list_at items ends) (start_of ends) (length ends) k fits refl (λ i h. omega (arith, list_length items ends are i h))

-- the lines of groups
pub group_lines : (groups : List (List Fact)) → sum_by group_height groups ≡ 3 * length groups + sum_by (λ (l : List Fact). length l) groups
group_lines [] = refl
group_lines (g ∷ groups) = omega (arith, sum_by-cons group_height g groups, sum_by-cons (λ (l : List Fact). length l) g groups, group_lines groups)

-- the lines of variables
pub variable_lines : (c : VariableColumns) (vs : List Variable) → VariableColumnsAlign AreEnds c → variables_in c ≡ vs → sum_by variable_height vs ≡ 5 * length vs + length c.values
variable_lines c vs aligned is =
    let lists = length-table (length c.ends) (list_at c.values c.ends) in
    let sums = sum_of_table variable_height (λ i. variable (get_or c.names i []) (get_or c.layers.items i None) (get_or (lists_of c.values c.ends) i [])) (λ i. 5 * i + start_of c.ends i) (length (lists_of c.values c.ends)) refl (λ i h.
    let there : i < length c.ends = omega (arith, h, lists) in
    let its = ap (λ (l : List (List ℕ)). length l) (get_or-table (length c.ends) (list_at c.values c.ends) i [] there) in
    omega (arith, its, list_length c.values c.ends aligned.values i there)) in
    let closed = aligned.values.closed in
    let ends = ap (start_of c.ends) lists in
    let count = variable_count c.names c.layers.items (lists_of c.values c.ends) vs is in
    ap (sum_by variable_height) (sym is) ∙ sums ∙ omega (arith, closed, ends, lists, count)

-- the lines of the first operators
pub operator_lines : (c : OperatorColumns) (os : List Operator) (k : ℕ) → OperatorColumnsAlign AreEnds c → operators_in c ≡ os → k ≤ length c.heads.items
    → sum_by operator_height (take k os) ≡ 6 * k + start_of (prevail_ends c.heads.items) k + start_of (effect_ends c.heads.items) k
operator_lines c os k aligned is fits =
    let heads = c.heads.items in
    ap (λ l. sum_by operator_height (take k l)) (sym is)
    ∙ sum_of_first operator_height _ (λ i. 6 * i + start_of (prevail_ends heads) i + start_of (effect_ends heads) i) (length heads) k fits refl (λ i h.
    omega (
      arith,
      list_length c.prevail.items (prevail_ends heads) aligned.prevail i (omega (arith, h, length-map heads (λ (h : Head). h.prevail))),
      list_length c.effects (effect_ends heads) aligned.effects i (omega (arith, h, length-map heads (λ (h : Head). h.effects))),
    ))

-- the conditions of the first rules
one_more : {X : Type 0} (lists : List (List X)) (i : ℕ) → sum_by (λ (l : List X). length l) (take (suc i) lists) ≡ sum_by (λ (l : List X). length l) (take i lists) + length (get_or lists i [])
one_more [] zero = refl
one_more [] (suc i) = refl
one_more (l ∷ lists) zero = omega (arith, sum_by-cons (λ (l : List _). length l) l [])
one_more (l ∷ lists) (suc i) =
    omega (arith, sum_by-cons (λ (l : List _). length l) l (take (suc i) lists), sum_by-cons (λ (l : List _). length l) l (take i lists), one_more lists i)

pub rule_lines : (cs : List Change) (ds : List (List Fact)) (rules : List Effect) (k : ℕ) → effects_of cs ds ≡ rules → k ≤ length cs
    → sum_by rule_height (take k rules) ≡ 4 * k + sum_by (λ (l : List Fact). length l) (take k ds)
rule_lines cs ds rules k is fits =
    ap (λ l. sum_by rule_height (take k l)) (sym is)
    ∙ sum_of_first rule_height _ (λ i. 4 * i + sum_by (λ (l : List Fact). length l) (take i ds)) (length cs) k fits refl (λ i h. omega (arith, one_more ds i))

-- the lines up to an operator
pub lines_to_operator : (p : Parts) (k variables values groups facts state goal prevail effects : ℕ) → variables ≡ length p.variables → 5 * length p.variables + values ≡ sum_by variable_height p.variables
    → groups ≡ length p.groups → facts ≡ sum_by (λ (l : List Fact). length l) (take groups p.groups) → state ≡ length p.init → goal ≡ length p.goal
    → 6 * k + prevail + effects ≡ sum_by operator_height (take k p.operators)
    → 14 + 5 * variables + values + 3 * groups + facts + state + goal + 6 * k + prevail + effects + 1 ≡ operator_line p k
lines_to_operator p k variables values groups facts state goal prevail effects v w g f s t o =
    let all : facts ≡ sum_by (λ (l : List Fact). length l) p.groups = f ∙ ap (λ (l : List (List Fact)). sum_by (λ (l : List Fact). length l) l) (ap (λ n. take n p.groups) g ∙ take-length p.groups) in
    omega (arith, v, w, g, all, group_lines p.groups, s, t, o)
