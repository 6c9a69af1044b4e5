-- The sections of task files: stretches of the table of places.
use Rattle.sas_task_file.proofs.Imports.{◌≡◌, ◌≤◌, ℕ, zero, suc, ◌+◌, ◌-◌, ◌<◌, Bool, true, false, List, [], ◌∷◌, ◌++◌, length, length-append, length-map, get_or-append-add, refl, sym, ap, subst, ◌∙◌, append_assoc, append-nil, arith, IsTrue, rules, Some, None, Option, nat_lt, ◌==◌, slice_index, slice_index_or, if◌then◌else◌, list_all, flat_map, AllByRecursion, ltb-true, Fact, Variable, Effect, Operator, Parts, IsName, IsNumber, IsSigned, range_of, HasValue, MayHaveValue, FactExists, IsState, Listed, VariableFits, EffectFits, OperatorFits, WellRanged, and_from, and_parts, Place, Due, TaskState, table_node, table_start, one_allocator, one_ended, after_ends, TaskLine, TaskSlot, name, number, fact, effect, any_number, positive_number, FactNumbers, HeadNumbers, EffectNumbers, single_line, counted, version_lines, metric_lines, variable_lines, group_lines, state_lines, goal_lines, operator_lines, rule_lines, task_layout, task_format, TaskLineFits, is_from, number_in, fact_in, ranges_of, value_in, fact_in_ranges, change_in_ranges, effect_in_ranges, no_parts, SoFar}
use Rattle.sas_task_file.specs.declared.places.Place.TheVariants as place
use Rattle.sas_task_file.specs.declared.marks.What.TheVariants as what
use Rattle.sas_task_file.specs.declared.marks.Due.TheVariants as due
use Rattle.sas_task_file.specs.declared.marks.FixedWord.TheVariants as fixed
use Rattle.sas_task_file.proofs.Ranges.{range_is, ranges_push}
use Rattle.sas_task_file.proofs.Stretches.{Ends, LeadsOn, Stretch, Allowed, line, both, ◌then◌, converted, restated, numbered}
use Rattle.sas_task_file.proofs.Blocks.{four, number_is, fact_is, state_at, ListAllowed, VariableAllowed, FactsAllowed, OperatorAllowed, RuleAllowed, enclosed, variable_block, group_block, operator_block, rule_block}

-- ---- tests

pub less : (a b : ℕ) → a < b → IsTrue (nat_lt a b)
less a b h = search rules

pub is_less : (a b : ℕ) → IsTrue (nat_lt a b) → a < b
is_less a b h = ltb-true a b h

all_tests : {A : Type 0} (P : A → Type 0) (p : A → Bool) → ((a : A) → P a → IsTrue (p a)) → (xs : List A) → AllByRecursion P xs → IsTrue (list_all p xs)
all_tests P p f [] g = refl
all_tests P p f (x ∷ xs) g = and_from (p x) (list_all p xs) (f x g.0) (all_tests P p f xs g.1)

all_tested : {A : Type 0} (P : A → Type 0) (p : A → Bool) → ((a : A) → IsTrue (p a) → P a) → (xs : List A) → IsTrue (list_all p xs) → AllByRecursion P xs
all_tested P p f [] g = tt
all_tested P p f (x ∷ xs) g = let h = and_parts (p x) (list_all p xs) g in (f x h.0, all_tested P p f xs h.1)

pub all_map : {A : Type 0} (P Q : A → Type 0) → ((a : A) → P a → Q a) → (xs : List A) → AllByRecursion P xs → AllByRecursion Q xs
all_map P Q f [] g = tt
all_map P Q f (x ∷ xs) g = (f x g.0, all_map P Q f xs g.1)

-- ---- numbers from one to another

pub is_between : (least most n : ℕ) → least ≤ n → n ≤ most → IsTrue (is_from least most n)
is_between least most n low high = and_from (nat_lt least (n + 1)) (nat_lt n (most + 1)) (less least (n + 1) (omega arith)) (less n (most + 1) (omega arith))

pub between_of : (least most n : ℕ) → IsTrue (is_from least most n) → (least ≤ n) × (n ≤ most)
between_of least most n h =
    let p = and_parts (nat_lt least (n + 1)) (nat_lt n (most + 1)) h in
    let low = is_less least (n + 1) p.0 in
    let high = is_less n (most + 1) p.1 in
    (omega arith, omega arith)

-- a number that a file can spell is allowed as a count
pub any_allowed : (ranges : List ℕ) (n : ℕ) → IsNumber n → Allowed ranges (any_number what.Facts) (number n)
any_allowed ranges n h = record { slot = refl; fits = h; good = is_between 0 2147483647 n (omega arith) (omega (arith, h)) }

pub positive_allowed : (ranges : List ℕ) (n : ℕ) → 0 < n → IsNumber n → Allowed ranges (positive_number what.Range) (number n)
positive_allowed ranges n some h = record { slot = refl; fits = h; good = is_between 1 2147483647 n (omega (arith, some)) (omega (arith, h)) }

pub some_if_positive : (ranges : List ℕ) (n : ℕ) → Allowed ranges (positive_number what.Range) (number n) → 0 < n
some_if_positive ranges n a = let b = between_of 1 2147483647 n a.good in omega (arith, b.0)

-- ---- lines with variables and values

abbrev pub Ranged : Variable → Type 0
Ranged v = (0 < length v.values) × IsNumber (length v.values)

-- what is known after the variables
pub record Known (vs : List Variable) : Type 0 where
  pub few : (i : ℕ) → IsNumber (range_of vs i)
  pub below : (i x : ℕ) → HasValue vs i x → IsNumber i
  pub each : AllByRecursion Ranged vs

ranges_few : (vs : List Variable) (i : ℕ) → AllByRecursion VariableFits vs → IsNumber (range_of vs i)
ranges_few [] i h = omega arith
ranges_few (v ∷ vs) zero h = h.0.values.count
ranges_few (v ∷ vs) (suc i) h = ranges_few vs i h.1

ranges_below : (vs : List Variable) (i x : ℕ) → x < range_of vs i → i < length vs
ranges_below [] i x h = absurd (omega arith)
ranges_below (v ∷ vs) zero x h = omega arith
ranges_below (v ∷ vs) (suc i) x h = let k = ranges_below vs i x h in omega arith

pub known : (vs : List Variable) → Listed VariableFits vs → Known vs
known vs g = record {
  few = λ i. ranges_few vs i g.each;
  below = λ i x h. let b = ranges_below vs i x h in let l : IsNumber (length vs) = g.count in omega arith;
  each = all_map VariableFits Ranged (λ v h. (h.some_value, h.values.count)) vs g.each;
}

value_small : (vs : List Variable) → Known vs → (i x : ℕ) → HasValue vs i x → IsNumber x
value_small vs k i x h = let f : IsNumber (range_of vs i) = k.few i in omega arith

-- ---- facts, effects and heads

pub fact_numbers : (vs : List Variable) → Known vs → (f : Fact) → FactExists vs f → FactNumbers f
fact_numbers vs k f g = (k.below f.var f.value g, value_small vs k f.var f.value g)

-- the ranges say which values there are
is_there : (vs : List Variable) (var value : ℕ) → HasValue vs var value → IsTrue (value_in (ranges_of vs) var value)
is_there vs var value h = subst (λ (n : ℕ). IsTrue (nat_lt value n)) (sym (range_is vs var)) (less value (range_of vs var) h)

there : (vs : List Variable) (var value : ℕ) → IsTrue (value_in (ranges_of vs) var value) → HasValue vs var value
there vs var value t = is_less value (range_of vs var) (subst (λ (n : ℕ). IsTrue (nat_lt value n)) (range_is vs var) t)

-- the variable exists, and its new value and its old value, if any, are in its range
abbrev pub Changes : List Variable → ℕ → Option ℕ → ℕ → Type 0
Changes vs var old new = MayHaveValue vs var old × HasValue vs var new

pub change_test : (vs : List Variable) (var : ℕ) (old : Option ℕ) (new : ℕ) → Changes vs var old new → IsTrue (change_in_ranges (ranges_of vs) var old new)
change_test vs var None new g = is_there vs var new g.1
change_test vs var (Some x) new g = and_from (value_in (ranges_of vs) var x) (value_in (ranges_of vs) var new) (is_there vs var x g.0) (is_there vs var new g.1)

pub change_tested : (vs : List Variable) (var : ℕ) (old : Option ℕ) (new : ℕ) → IsTrue (change_in_ranges (ranges_of vs) var old new) → Changes vs var old new
change_tested vs var None new t = (tt, there vs var new t)
change_tested vs var (Some x) new t = let p = and_parts (value_in (ranges_of vs) var x) (value_in (ranges_of vs) var new) t in (there vs var x p.0, there vs var new p.1)

old_signed : (vs : List Variable) → Known vs → (var : ℕ) (old : Option ℕ) → MayHaveValue vs var old → IsSigned old
old_signed vs k var None g = tt
old_signed vs k var (Some x) g = value_small vs k var x g

pub change_numbers : (vs : List Variable) → Known vs → (var : ℕ) (old : Option ℕ) (new : ℕ) → Changes vs var old new → HeadNumbers var old new
change_numbers vs k var old new g = (k.below var new g.1, old_signed vs k var old g.0, value_small vs k var new g.1)

pub effect_test : (vs : List Variable) (e : Effect) → EffectFits vs e → IsTrue (effect_in_ranges (ranges_of vs) e)
effect_test vs e g =
    and_from (list_all (fact_in_ranges (ranges_of vs)) e.conditions) (change_in_ranges (ranges_of vs) e.var e.old e.new)
    (all_tests (FactExists vs) (fact_in_ranges (ranges_of vs)) (λ f h. is_there vs f.var f.value h) e.conditions g.conditions.each)
    (change_test vs e.var e.old e.new (g.old, g.new))

pub effect_tested : (vs : List Variable) (e : Effect) → EffectNumbers e → IsTrue (effect_in_ranges (ranges_of vs) e) → EffectFits vs e
effect_tested vs e n t =
    let p = and_parts (list_all (fact_in_ranges (ranges_of vs)) e.conditions) (change_in_ranges (ranges_of vs) e.var e.old e.new) t in
    let c = change_tested vs e.var e.old e.new p.1 in
    record { conditions = record { count = n.count; each = all_tested (FactExists vs) (fact_in_ranges (ranges_of vs)) (λ f l. there vs f.var f.value l) e.conditions p.0 }; new = c.1; old = c.0 }

pub effect_numbers : (vs : List Variable) → Known vs → (e : Effect) → EffectFits vs e → EffectNumbers e
effect_numbers vs k e g = record { count = g.conditions.count; conditions = all_map (FactExists vs) FactNumbers (fact_numbers vs k) e.conditions g.conditions.each; head = change_numbers vs k e.var e.old e.new (g.old, g.new) }

-- ---- the initial state

abbrev pub InRange : Variable → ℕ → Type 0
InRange v x = x < length v.values

-- a value for each variable
abbrev pub InRanges : List Variable → List ℕ → Type 0
InRanges [] [] = Unit {0}
InRanges [] (x ∷ xs) = ⊥
InRanges (v ∷ vs) [] = ⊥
InRanges (v ∷ vs) (x ∷ xs) = InRange v x × InRanges vs xs

one_more : (v : Variable) (vs : List Variable) (x : ℕ) (xs : List ℕ) → InRange v x → IsState vs xs → (i : ℕ) → i < length (v ∷ vs) → slice_index (x ∷ xs) i < range_of (v ∷ vs) i
one_more v vs x xs g s zero l = g
one_more v vs x xs g s (suc i) l = s.in_range i (omega arith)

paired_state : (vs : List Variable) (xs : List ℕ) → InRanges vs xs → IsState vs xs
paired_state [] [] g = record { one_each = refl; in_range = λ i l. absurd (omega arith) }
paired_state [] (x ∷ xs) g = absurd g
paired_state (v ∷ vs) [] g = absurd g
paired_state (v ∷ vs) (x ∷ xs) g = let t = paired_state vs xs g.1 in record { one_each = ap suc t.one_each; in_range = one_more v vs x xs g.0 t }

pub state_paired : (vs : List Variable) (xs : List ℕ) → IsState vs xs → InRanges vs xs
state_paired [] [] s = tt
state_paired [] (x ∷ xs) s = absurd (omega (arith, s.one_each))
state_paired (v ∷ vs) [] s = absurd (omega (arith, s.one_each))
state_paired (v ∷ vs) (x ∷ xs) s = (s.in_range 0 (omega arith), state_paired vs xs (record { one_each = omega (arith, s.one_each); in_range = λ i l. s.in_range (suc i) (omega arith) }))

-- ---- what is allowed, and what is good

-- as many lines as their number says
module _ (ranges : List ℕ) (d : Due) {A : Type 0} (into : A → TaskLine) {Good : A → Type 0} where
  list_good : ((a : A) → Allowed ranges d (into a) → Good a) → (xs : List A) → ListAllowed ranges (any_number what.Facts) d into xs → Listed Good xs
  list_good good xs h = record { count = h.0.fits; each = all_map (λ a. Allowed ranges d (into a)) Good good xs h.1 }

  list_allowed : ((a : A) → Good a → Allowed ranges d (into a)) → (xs : List A) → Listed Good xs → ListAllowed ranges (any_number what.Facts) d into xs
  list_allowed allowed xs h = (any_allowed ranges (length xs) h.count, all_map Good (λ a. Allowed ranges d (into a)) allowed xs h.each)

variable_good : (ranges : List ℕ) (v : Variable) → VariableAllowed ranges v → VariableFits v
variable_good ranges v h = record { name = h.0.good; layer = h.1.0.fits; some_value = some_if_positive ranges (length v.values) h.1.1.0; values = record { count = h.1.1.0.fits; each = all_map (λ w. Allowed ranges (due.Name what.Value) (name w)) IsName (λ w a. a.good) v.values h.1.1.1 } }

variable_allowed : (ranges : List ℕ) (v : Variable) → VariableFits v → VariableAllowed ranges v
variable_allowed ranges v g =
    let named : (w : List ℕ) → IsName w → Allowed ranges (due.Name what.Value) (name w) = λ w h. record { slot = refl; fits = tt; good = h } in
    (named v.name g.name, (record { slot = refl; fits = g.layer; good = refl }, (positive_allowed ranges (length v.values) g.some_value g.values.count, all_map IsName (λ w. Allowed ranges (due.Name what.Value) (name w)) named v.values g.values.each)))

module _ (vs : List Variable) where
  abbrev r : List ℕ
  r = ranges_of vs

  facts_good : (fs : List Fact) → FactsAllowed r fs → Listed (FactExists vs) fs
  facts_good fs h = list_good r due.Fact fact (λ f a. there vs f.var f.value a.good) fs h

  operator_good : (o : Operator) → OperatorAllowed r o → OperatorFits vs o
  operator_good o h = record { name = h.0.good; prevail = facts_good o.prevail h.1.0; effects = list_good r due.Effect effect (λ e a. effect_tested vs e a.fits a.good) o.effects h.1.1.0; cost = h.1.1.1.fits }

  rule_good : (e : Effect) → RuleAllowed r e → EffectFits vs e
  rule_good e h = let c = change_tested vs e.var e.old e.new h.1.good in record { conditions = facts_good e.conditions h.0; new = c.1; old = c.0 }

  module _ (k : Known vs) where
    facts_allowed : (fs : List Fact) → Listed (FactExists vs) fs → FactsAllowed r fs
    facts_allowed fs g = list_allowed r due.Fact fact (λ f h. record { slot = refl; fits = fact_numbers vs k f h; good = is_there vs f.var f.value h }) fs g

    operator_allowed : (o : Operator) → OperatorFits vs o → OperatorAllowed r o
    operator_allowed o g = (
      record { slot = refl; fits = tt; good = g.name },
      (
        facts_allowed o.prevail g.prevail,
        (list_allowed r due.Effect effect (λ e h. record { slot = refl; fits = effect_numbers vs k e h; good = effect_test vs e h }) o.effects g.effects, any_allowed r o.cost g.cost),
      ),
    )

    rule_allowed : (e : Effect) → EffectFits vs e → RuleAllowed r e
    rule_allowed e g = (facts_allowed e.conditions g.conditions, record { slot = refl; fits = change_numbers vs k e.var e.old e.new (g.old, g.new); good = change_test vs e.var e.old e.new (g.old, g.new) })

-- ---- between the blocks

-- the content between two blocks; the last variable has this layer
abbrev content : Parts → Option ℕ → SoFar
content p layer = record { alloc = one_allocator; parts = p; name = []; layer = layer; values = []; facts = []; effects = [] }

abbrev between_blocks : Place → ℕ → ℕ → List ℕ → Parts → Option ℕ → TaskState
between_blocks place total left ranges p layer = record { tracker = record { place = place; total = total; left = left; more = 0; ranges = ranges }; so_far = content p layer }

-- ---- the version and the metric

three_stretch : Stretch (between_blocks place.VersionNumber 0 0 [] no_parts None) (λ (u : Unit {0}). number 3 ∷ []) (λ u. Unit {0}) (λ u. between_blocks place.VersionEnd 0 0 [] no_parts None)
three_stretch = converted (λ n. tt) (line (due.Number what.Version 3 3) refl number number_in number_is) (record {
  good = λ n g. tt;
  lines_are = λ n g. let b = between_of 3 3 n g.good in let three : 3 ≡ n = omega (arith, b.0, b.1) in ap (λ (m : ℕ). number m ∷ []) three;
  next_is = λ n g. refl;
  back = λ u g. (3, record { slot = refl; fits = omega arith; good = refl }, refl);
})

version_stretch : Stretch table_start (λ (u : Unit {0}). version_lines) (λ u. Unit {0}) (λ u. between_blocks place.MetricBegin 0 0 [] no_parts None)
version_stretch = enclosed fixed.BeginVersion fixed.EndVersion refl three_stretch (λ u. refl)

abbrev with_metric : Bool → Parts
with_metric m = record no_parts { metric = m }

abbrev metric_number : Bool → ℕ
metric_number m = if m then 1 else 0

bit_number : (n : ℕ) → n ≤ 1 → metric_number (n == 1) ≡ n
bit_number zero h = refl
bit_number (suc zero) h = refl
bit_number (suc (suc n)) h = absurd (omega arith)

bit_back : (m : Bool) → Unit {0} → (n : ℕ) × Allowed [] (due.Number what.Metric 0 1) (number n) × ((n == 1) ≡ m)
bit_back true g = (1, record { slot = refl; fits = omega arith; good = refl }, refl)
bit_back false g = (0, record { slot = refl; fits = omega arith; good = refl }, refl)

bit_stretch : Stretch (between_blocks place.MetricNumber 0 0 [] no_parts None) (λ m. number (metric_number m) ∷ []) (λ m. Unit {0}) (λ m. between_blocks place.MetricEnd 0 0 [] (with_metric m) None)
bit_stretch = converted (λ n. n == 1) (line (due.Number what.Metric 0 1) refl number number_in number_is) (record {
  good = λ n g. tt;
  lines_are = λ n g. let b = between_of 0 1 n g.good in ap (λ (m : ℕ). number m ∷ []) (bit_number n b.1);
  next_is = λ n g. refl;
  back = bit_back;
})

metric_stretch : Stretch (between_blocks place.MetricBegin 0 0 [] no_parts None) metric_lines (λ m. Unit {0}) (λ m. between_blocks place.VariableCount 0 0 [] (with_metric m) None)
metric_stretch = enclosed fixed.BeginMetric fixed.EndMetric refl bit_stretch (λ m. refl)

-- ---- the variables

-- the layer of the last variable
abbrev last_layer : List Variable → Option ℕ
last_layer [] = None
last_layer (v ∷ []) = v.layer
last_layer (v ∷ w ∷ vs) = last_layer (w ∷ vs)

last_is : (vs : List Variable) (v : Variable) → last_layer (vs ++ v ∷ []) ≡ v.layer
last_is [] v = refl
last_is (w ∷ []) v = refl
last_is (w ∷ x ∷ vs) v = last_is (x ∷ vs) v

abbrev with_variables : Bool → List Variable → Parts
with_variables m vs = record (with_metric m) { variables = vs }

abbrev at_variables : Bool → ℕ → ℕ → List Variable → TaskState
at_variables m total left vs = between_blocks place.Variables total left (ranges_of vs) (with_variables m vs) (last_layer vs)

variables_stretch : (m : Bool) → Stretch (between_blocks place.VariableCount 0 0 [] (with_metric m) None) (counted variable_lines) (λ vs. Allowed [] (positive_number what.Variables) (number (length vs)) × AllByRecursion VariableFits vs) (λ vs. at_variables m (length vs) 0 vs)
variables_stretch m = numbered (at_variables m) (line (positive_number what.Variables) refl number number_in number_is) (λ total n vs. converted (λ v. v) (variable_block n 0 (at_variables m total n vs).tracker (at_variables m total n vs).so_far) (record {
  good = variable_good (ranges_of vs);
  lines_are = λ v g. refl;
  next_is = λ v g. ap (λ (r : List ℕ). between_blocks place.Variables total (suc n - 1) r (with_variables m (vs ++ v ∷ [])) (last_layer (vs ++ v ∷ []))) (ranges_push vs v)
      ∙ ap (λ (l : Option ℕ). between_blocks place.Variables total (suc n - 1) (ranges_of vs ++ length v.values ∷ []) (with_variables m (vs ++ v ∷ [])) l) (last_is vs v);
  back = λ v g. (v, variable_allowed (ranges_of vs) v g, refl);
}))

-- ---- after the variables

-- a number, and then this many blocks
blocks : {A : Type 0} {x : TaskState} (ranges : List ℕ) {lines : A → List TaskLine} {Good : A → Type 0} (at : ℕ → ℕ → List A → TaskState) → Stretch x (single_line number) (λ n. Allowed ranges (any_number what.Facts) (number n)) (λ n. at n n [])
    → ((m n : ℕ) (xs : List A) → Stretch (at m (suc n) xs) lines Good (λ a. at m (suc n - 1) (xs ++ a ∷ []))) → Stretch x (counted lines) (Listed Good) (λ xs. at (length xs) 0 xs)
blocks ranges at count one = restated (λ xs g. record { count = g.0.fits; each = g.1 }) (λ xs g. (any_allowed ranges (length xs) g.count, g.each)) (numbered at count one)

module _ (vs : List Variable) (k : Known vs) (l : Option ℕ) where
  abbrev ranges : List ℕ
  ranges = ranges_of vs

  module _ (total : ℕ) (p : Parts) where
    abbrev with_values : List ℕ → Parts
    with_values xs = record p { init = xs }

    abbrev at_value : ℕ → List ℕ → TaskState
    at_value more xs = state_at place.StateValues 0 more (between_blocks place.Groups total 0 ranges p l).tracker (content (with_values xs) l)

    -- the next value is one of the next variable
    read_next : (done : List ℕ) (x : ℕ) (rest : List ℕ) → slice_index_or (done ++ x ∷ rest) (length done) 0 ≡ x
    read_next done x rest = let all : length done ≡ length done + 0 = omega arith in ap (λ (i : ℕ). slice_index_or (done ++ x ∷ rest) i 0) all ∙ get_or-append-add done (x ∷ rest) 0 0

    next_range : (done : List ℕ) (v : Variable) (ws : List Variable) → ranges ≡ done ++ ranges_of (v ∷ ws) → slice_index_or ranges (length ranges - suc (length ws)) 0 ≡ length v.values
    next_range done v ws e =
        let many : length ranges ≡ length done + length (ranges_of (v ∷ ws)) = ap length e ∙ length-append done (ranges_of (v ∷ ws)) in
        let next : length ranges - suc (length ws) ≡ length done = omega (arith, many, length-map ws (λ (w : Variable). length w.values)) in
        ap (λ (i : ℕ). slice_index_or ranges i 0) next ∙ ap (λ (x : List ℕ). slice_index_or x (length done) 0) e ∙ read_next done (length v.values) (ranges_of ws)

    value_good : (v : Variable) (n : ℕ) → n ≡ length v.values → Ranged v → (x : ℕ) → Allowed ranges (due.Number what.Cost 0 (n - 1)) (number x) → InRange v x
    value_good v n e h x a = let b = between_of 0 (n - 1) x a.good in omega (arith, e, b.1, h.0)

    value_allowed : (v : Variable) (n : ℕ) → n ≡ length v.values → Ranged v → (x : ℕ) → InRange v x → Allowed ranges (due.Number what.Cost 0 (n - 1)) (number x)
    value_allowed v n e h x g = record { slot = refl; fits = omega (arith, g, h.1); good = is_between 0 (n - 1) x (omega arith) (omega (arith, e, g)) }

    values_back : (v : Variable) (ws : List Variable) (xs : List ℕ) → InRanges (v ∷ ws) xs → (q : ℕ × List ℕ) × (InRange v q.0 × InRanges ws q.1) × (q.0 ∷ q.1 ≡ xs)
    values_back v ws [] g = absurd g
    values_back v ws (x ∷ xs) g = ((x, xs), g, refl)

    none_complete : (xs more : List ℕ) → InRanges [] more → LeadsOn (at_value 0 xs) (flat_map (single_line number) more) (at_value 0 (xs ++ more))
    none_complete xs [] g = ap (at_value 0) (sym (append-nil xs))
    none_complete xs (x ∷ more) g = absurd g

    state_values : (done : List ℕ) (ws : List Variable) (xs : List ℕ) → ranges ≡ done ++ ranges_of ws → AllByRecursion Ranged ws → Stretch (at_value (length ws) xs) (flat_map (single_line number)) (InRanges ws) (λ more. at_value 0 (xs ++ more))
    state_values done [] xs e h = record {
      sound = λ items v t. record { value = []; rest = items; whole = refl; good = tt; ends = subst (λ (ys : List ℕ). Ends (at_value 0 ys) items v) (sym (append-nil xs)) t };
      complete = none_complete xs;
    }
    state_values done (v ∷ ws) xs e h =
        let less : suc (length ws) - 1 ≡ length ws = omega arith in
        let n = slice_index_or ranges (length ranges - suc (length ws)) 0 in
        let next = next_range done v ws e in
        converted (λ q. q.0 ∷ q.1)
        (both (restated (value_good v n next h.0) (value_allowed v n next h.0) (line (due.Number (what.ValueOf (length ranges - suc (length ws))) 0 (n - 1)) refl number number_in number_is))
        (λ x g. subst (λ (m : ℕ). Stretch (at_value m (xs ++ x ∷ [])) (flat_map (single_line number)) (InRanges ws) (λ more. at_value 0 ((xs ++ x ∷ []) ++ more))) (sym less)
        (state_values (done ++ length v.values ∷ []) ws (xs ++ x ∷ []) (e ∙ sym (append_assoc done (length v.values ∷ []) (ranges_of ws))) h.1)))
        (record { good = λ q g. g; lines_are = λ q g. refl; next_is = λ q g. ap (at_value 0) (sym (append_assoc xs (q.0 ∷ []) q.1)); back = values_back v ws })

    all_values : Stretch (at_value (length ranges) []) (flat_map (single_line number)) (IsState vs) (at_value 0)
    all_values = restated (paired_state vs) (state_paired vs) (subst (λ (m : ℕ). Stretch (at_value m []) (flat_map (single_line number)) (InRanges vs) (at_value 0)) (sym (length-map vs (λ (w : Variable). length w.values))) (state_values [] vs [] refl k.each))

  state_stretch : (total : ℕ) (p : Parts) → p ≡ record p { init = [] } → Stretch (between_blocks place.Groups total 0 ranges p l) state_lines (IsState vs) (λ xs. between_blocks place.GoalBegin total 0 ranges (with_values total p xs) l)
  state_stretch total p none =
      enclosed fixed.BeginState fixed.EndState refl
      (subst (λ (q : Parts). Stretch (state_at place.StateValues 0 (length ranges) (between_blocks place.Groups total 0 ranges p l).tracker (content q l)) (flat_map (single_line number)) (IsState vs) (at_value total p 0)) (sym none) (all_values total p))
      (λ xs. refl)

  goal_stretch : (total : ℕ) (p : Parts) → p ≡ record p { goal = [] } → Stretch (between_blocks place.GoalBegin total 0 ranges p l) goal_lines (Listed (FactExists vs)) (λ fs. between_blocks place.OperatorCount total 0 ranges (record p { goal = fs }) l)
  goal_stretch total p none =
      let t = (between_blocks place.GoalSize total 0 ranges p l).tracker in
      enclosed fixed.BeginGoal fixed.EndGoal refl
      (restated (facts_good vs) (facts_allowed vs k) (numbered (λ m n fs. state_at place.GoalFacts 0 n t (content (record p { goal = fs }) l))
      (subst (λ (q : Parts). Stretch (state_at place.GoalSize 0 0 t (content p l)) (single_line number) (λ n. Allowed ranges (any_number what.Facts) (number n)) (λ n. state_at place.GoalFacts 0 n t (content q l))) none (line (any_number what.Facts) refl number number_in number_is)) (λ m n fs. line due.Fact refl fact fact_in fact_is)))
      (λ fs. refl)

  groups_stretch : (total : ℕ) (p : Parts) → Stretch (between_blocks place.Variables total 0 ranges (record p { groups = [] }) l) (counted group_lines) (Listed (Listed (FactExists vs))) (λ gs. between_blocks place.Groups (length gs) 0 ranges (record p { groups = gs }) l)
  groups_stretch total p =
      let at : ℕ → ℕ → List (List Fact) → TaskState = λ m n gs. between_blocks place.Groups m n ranges (record p { groups = gs }) l in
      blocks ranges at (line (any_number what.Groups) refl number number_in number_is) (λ m n gs. restated (facts_good vs) (facts_allowed vs k) (group_block n 0 (at m n gs).tracker (at m n gs).so_far))

  operators_stretch : (total : ℕ) (p : Parts) → Stretch (between_blocks place.OperatorCount total 0 ranges (record p { operators = [] }) l) (counted operator_lines) (Listed (OperatorFits vs)) (λ os. between_blocks place.Operators (length os) 0 ranges (record p { operators = os }) l)
  operators_stretch total p =
      let at : ℕ → ℕ → List Operator → TaskState = λ m n os. between_blocks place.Operators m n ranges (record p { operators = os }) l in
      blocks ranges at (line (any_number what.Operators) refl number number_in number_is) (λ m n os. restated (operator_good vs) (operator_allowed vs k) (operator_block n 0 (at m n os).tracker (at m n os).so_far))

  rules_stretch : (total : ℕ) (p : Parts) → Stretch (between_blocks place.Operators total 0 ranges (record p { rules = [] }) l) (counted rule_lines) (Listed (EffectFits vs)) (λ rs. between_blocks place.Rules (length rs) 0 ranges (record p { rules = rs }) l)
  rules_stretch total p =
      let at : ℕ → ℕ → List Effect → TaskState = λ m n rs. between_blocks place.Rules m n ranges (record p { rules = rs }) l in
      blocks ranges at (line (any_number what.Rules) refl number number_in number_is) (λ m n rs. restated (rule_good vs) (rule_allowed vs k) (rule_block n 0 (at m n rs).tracker (at m n rs).so_far))

-- ---- lists in another order of brackets

five : {A : Type 0} (a b c d e : List A) → a ++ b ++ c ++ d ++ e ≡ a ++ (b ++ (c ++ (d ++ e)))
five a b c d e = append_assoc (a ++ b ++ c) d e ∙ four a b c (d ++ e)

pub eight : {A : Type 0} (a b c d e f g h : List A) → a ++ b ++ c ++ d ++ e ++ f ++ g ++ h ≡ a ++ (b ++ (c ++ (d ++ (e ++ (f ++ (g ++ h))))))
eight a b c d e f g h = four (a ++ b ++ c ++ d ++ e) f g h ∙ five (a ++ b) c d e (f ++ (g ++ h)) ∙ append_assoc a b (c ++ (d ++ (e ++ (f ++ (g ++ h)))))

-- ---- the task

-- all lines have been read
abbrev at_end : Parts → TaskState
at_end p = between_blocks place.Rules (length p.rules) 0 (ranges_of p.variables) p (last_layer p.variables)

task_stretch : Stretch table_start task_layout WellRanged at_end
task_stretch = converted (λ t. record { metric = t.1.0; variables = t.1.1.0; groups = t.1.1.1.0; init = t.1.1.1.1.0; goal = t.1.1.1.1.1.0; operators = t.1.1.1.1.1.1.0; rules = t.1.1.1.1.1.1.1 })
    (version_stretch then (λ u. metric_stretch then (λ m. both (variables_stretch m) (λ vs g.
    let k = known vs (record { count = g.0.fits; each = g.1 }) in
    let l = last_layer vs in
    groups_stretch vs k l (length vs) (with_variables m vs)
    then (λ gs. let p : Parts = record (with_variables m vs) { groups = gs } in state_stretch vs k l (length gs) p refl
    then (λ xs. goal_stretch vs k l (length gs) (record p { init = xs }) refl
    then (λ fs. operators_stretch vs k l (length gs) (record p { init = xs; goal = fs })
    then (λ os. rules_stretch vs k l (length os) (record p { init = xs; goal = fs; operators = os })))))))))
    (record {
      good = λ t g. record { some_variable = some_if_positive [] (length t.1.1.0) g.1.1.0.0; variables = record { count = g.1.1.0.0.fits; each = g.1.1.0.1 }; groups = g.1.1.1.0; init = g.1.1.1.1.0; goal = g.1.1.1.1.1.0; operators = g.1.1.1.1.1.1.0; rules = g.1.1.1.1.1.1.1 };
      lines_are = λ t g. eight version_lines (metric_lines t.1.0) (counted variable_lines t.1.1.0) (counted group_lines t.1.1.1.0) (state_lines t.1.1.1.1.0) (goal_lines t.1.1.1.1.1.0) (counted operator_lines t.1.1.1.1.1.1.0) (counted rule_lines t.1.1.1.1.1.1.1);
      next_is = λ t g. refl;
      back = λ p g. ((tt, (p.metric, (p.variables, (p.groups, (p.init, (p.goal, (p.operators, p.rules))))))), (tt, (tt, ((positive_allowed [] (length p.variables) g.some_variable g.variables.count, g.variables.each), (g.groups, (g.init, (g.goal, (g.operators, g.rules))))))), refl);
    })

-- lines that lead to the end are those of a task
sound_with : (p v : Parts) (items rest : List TaskLine) → WellRanged p → items ≡ task_layout p ++ rest → Ends (at_end p) rest v → WellRanged v × (items ≡ task_layout v)
sound_with p v items [] g e t = let same : p ≡ v = one_ended {T = TaskState} {I = TaskLine} {S = TaskSlot} p v t in (subst WellRanged same g, e ∙ append-nil (task_layout p) ∙ ap task_layout same)
sound_with p v items (i ∷ rest) g e t = absurd t

pub task_sound : (items : List TaskLine) (v : Parts) → Ends table_start items v → WellRanged v × (items ≡ task_layout v)
task_sound items v e = let f = task_stretch.sound items v e in sound_with f.value v items f.rest f.good f.whole f.ends

-- and the lines of each task lead there
pub task_complete : (p : Parts) → WellRanged p → Ends table_start (task_layout p) p
task_complete p good = subst (λ (x : List TaskLine). Ends table_start x p) (append-nil (task_layout p)) (after_ends task_format TaskLineFits table_node table_start (at_end p) p (task_layout p) [] (task_stretch.complete p good) refl)
