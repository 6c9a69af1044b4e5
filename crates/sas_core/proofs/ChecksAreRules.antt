-- All checks of a task pass if and only if its parts are well ranged: each section's checks are
-- equivalent to its rules.
use Rattle.std.proofs.lemmas.Grind.{common_steps}
use Rattle.sas_core.proofs.Imports.{◌≡◌, ℕ, zero, suc, ◌^◌, ◌<◌, true, not, ◌==◌, nat_lt, ◌↔◌, List, [], ◌∷◌, ◌++◌, length, flat_map, slice_index, Option, Some, None, refl, arith, ltb-true, lt-ltb, AllByRecursion, nat_tests, first_so, second_so, both_true, PartsFault, NoVariable, TooMany, BadName, BadNumber, BadRange, BadFact, Fact, Variable, Effect, Operator, Parts, IsName, is_name, IsNumber, is_number, IsSigned, range_of, HasValue, has_value, MayHaveValue, FactExists, IsState, Listed, VariableFits, EffectFits, OperatorFits, WellRanged, name_checks, signed_checks, variable_checks, fact_checks, change_checks, effect_checks, operator_checks, values_in_range, state_checks, checks, ChecksAreTheRules, Check, check, listed}
use Rattle.sas_core.proofs.Passing.{Pass, by_test, and_then}

number : (n : ℕ) (e : PartsFault) → Pass (check (is_number n) e) ↔ IsNumber n
number n e = by_test (is_number n) e (IsNumber n) (ltb-true n (2 ^ 31), lt-ltb n (2 ^ 31))

name : (bytes : List ℕ) → Pass (name_checks bytes) ↔ IsName bytes
name bytes = by_test (is_name bytes) BadName (IsName bytes) (λ is. is, λ is. is)

value : (variables : List Variable) (var v : ℕ) → Pass (check (has_value variables var v) BadFact) ↔ HasValue variables var v
value variables var v = by_test (has_value variables var v) BadFact (HasValue variables var v) (ltb-true v (range_of variables var), lt-ltb v (range_of variables var))

some : (n : ℕ) (e : PartsFault) → Pass (check (not (n == 0)) e) ↔ (0 < n)
some n e = by_test (not (n == 0)) e (0 < n) (λ is. grind (arith, nat_tests), λ below. grind (arith, nat_tests))

module _ {A : Type 0} (checks_of : A → List (Check PartsFault)) (Follows : A → Type 0) (same : (item : A) → Pass (checks_of item) ↔ Follows item) where
  each_follows : (items : List A) → Pass (flat_map checks_of items) ↔ AllByRecursion Follows items
  each_follows [] = (λ pass. tt, λ p. record { none = refl })
  each_follows (item ∷ items) = and_then (checks_of item) (flat_map checks_of items) (Follows item) (AllByRecursion Follows items) (same item) (each_follows items)

  listed_follow : (items : List A) → Pass (listed TooMany checks_of items) ↔ Listed Follows items
  listed_follow items =
      let both = and_then (check (is_number (length items)) TooMany) (flat_map checks_of items) (IsNumber (length items)) (AllByRecursion Follows items) (number (length items) TooMany) (each_follows items) in (
        λ pass. record { count = (both.0 pass).0; each = (both.0 pass).1 },
        λ p. both.1 (p.count, p.each),
      )

signed : (n : Option ℕ) → Pass (signed_checks n) ↔ IsSigned n
signed None = (λ pass. tt, λ p. record { none = refl })
signed (Some n) = number n BadNumber

variable_fits : (v : Variable) → Pass (variable_checks v) ↔ VariableFits v
variable_fits v =
    let named = and_then (name_checks v.name) (signed_checks v.layer) (IsName v.name) (IsSigned v.layer) (name v.name) (signed v.layer) in
    let ranged = and_then (name_checks v.name ++ signed_checks v.layer) (check (not (length v.values == 0)) BadRange) _ _ named (some (length v.values) BadRange) in
    let all = and_then (name_checks v.name ++ signed_checks v.layer ++ check (not (length v.values == 0)) BadRange) (listed TooMany name_checks v.values) _ _ ranged (listed_follow name_checks IsName name v.values) in (
      λ pass.
          let p = all.0 pass in
          record { name = p.0.0.0; layer = p.0.0.1; some_value = p.0.1; values = p.1 },
      λ p. all.1 (((p.name, p.layer), p.some_value), p.values),
    )

module _ (variables : List Variable) where
  fact : (f : Fact) → Pass (fact_checks variables f) ↔ FactExists variables f
  fact f = value variables f.var f.value

  facts : (fs : List Fact) → Pass (listed TooMany (fact_checks variables) fs) ↔ Listed (FactExists variables) fs
  facts = listed_follow (fact_checks variables) (FactExists variables) fact

  change : (var : ℕ) (old : Option ℕ) (new : ℕ) → Pass (change_checks variables var old new) ↔ (MayHaveValue variables var old × HasValue variables var new)
  change var None new = (
    λ pass. (tt, (value variables var new).0 pass),
    λ p. (value variables var new).1 p.1,
  )
  change var (Some old) new =
      and_then (check (has_value variables var old) BadFact) (check (has_value variables var new) BadFact) _ _ (value variables var old) (value variables var new)

  effect_fits : (e : Effect) → Pass (effect_checks variables e) ↔ EffectFits variables e
  effect_fits e =
      let all = and_then (listed TooMany (fact_checks variables) e.conditions) (change_checks variables e.var e.old e.new) _ _ (facts e.conditions) (change e.var e.old e.new) in (
        λ pass.
            let p = all.0 pass in
            record { conditions = p.0; old = p.1.0; new = p.1.1 },
        λ p. all.1 (p.conditions, (p.old, p.new)),
      )

  operator_fits : (o : Operator) → Pass (operator_checks variables o) ↔ OperatorFits variables o
  operator_fits o =
      let prevail = and_then (name_checks o.name) (listed TooMany (fact_checks variables) o.prevail) _ _ (name o.name) (facts o.prevail) in
      let effects = and_then (name_checks o.name ++ listed TooMany (fact_checks variables) o.prevail) (listed TooMany (effect_checks variables) o.effects) _ _ prevail (listed_follow (effect_checks variables) (EffectFits variables) effect_fits o.effects) in
      let all = and_then (name_checks o.name ++ listed TooMany (fact_checks variables) o.prevail ++ listed TooMany (effect_checks variables) o.effects) (check (is_number o.cost) BadNumber) _ _ effects (number o.cost BadNumber) in (
        λ pass.
            let p = all.0 pass in
            record { name = p.0.0.0; prevail = p.0.0.1; effects = p.0.1; cost = p.1 },
        λ p. all.1 (((p.name, p.prevail), p.effects), p.cost),
      )

values_fit : (variables : List Variable) (values : List ℕ) → length values ≡ length variables → values_in_range variables values ≡ true → (var : ℕ) → var < length variables → slice_index values var < range_of variables var
values_fit [] values long test var below = absurd (omega arith)
values_fit (v ∷ variables) [] long test var below = absurd (omega arith)
values_fit (v ∷ variables) (x ∷ values) long test zero below = ltb-true x (length v.values) (first_so _ _ test)
values_fit (v ∷ variables) (x ∷ values) long test (suc var) below =
    values_fit variables values (omega arith) (second_so (nat_lt x (length v.values)) _ test) var (omega arith)

fitting_values : (variables : List Variable) (values : List ℕ) → length values ≡ length variables → ((var : ℕ) → var < length variables → slice_index values var < range_of variables var) → values_in_range variables values ≡ true
fitting_values [] values long fit = refl
fitting_values (v ∷ variables) [] long fit = refl
fitting_values (v ∷ variables) (x ∷ values) long fit =
    both_true (lt-ltb x (length v.values) (fit 0 (omega arith))) (fitting_values variables values (omega arith) (λ var below. fit (suc var) (omega arith)))

state : (variables : List Variable) (values : List ℕ) → Pass (state_checks variables values) ↔ IsState variables values
state variables values = grind (arith, common_steps, by_test, and_then, values_fit, fitting_values)

-- the sections up to each, and what they say of the parts
sections : (p : Parts) → Pass (checks p) ↔ WellRanged p
sections p =
    let variables = p.variables in
    let some_variable = check (not (length variables == 0)) NoVariable in
    let to_variables = some_variable ++ listed TooMany variable_checks variables in
    let to_groups = to_variables ++ listed TooMany (listed TooMany (fact_checks variables)) p.groups in
    let to_state = to_groups ++ state_checks variables p.init in
    let to_goal = to_state ++ listed TooMany (fact_checks variables) p.goal in
    let to_operators = to_goal ++ listed TooMany (operator_checks variables) p.operators in
    let variables_fit = and_then some_variable (listed TooMany variable_checks variables) _ _ (some (length variables) NoVariable) (listed_follow variable_checks VariableFits variable_fits variables) in
    let groups_fit = and_then to_variables (listed TooMany (listed TooMany (fact_checks variables)) p.groups) _ _ variables_fit (listed_follow (listed TooMany (fact_checks variables)) (Listed (FactExists variables)) (facts variables) p.groups) in
    let state_fits = and_then to_groups (state_checks variables p.init) _ _ groups_fit (state variables p.init) in
    let goal_fits = and_then to_state (listed TooMany (fact_checks variables) p.goal) _ _ state_fits (facts variables p.goal) in
    let operators_fit = and_then to_goal (listed TooMany (operator_checks variables) p.operators) _ _ goal_fits (listed_follow (operator_checks variables) (OperatorFits variables) (operator_fits variables) p.operators) in
    let all = and_then to_operators (listed TooMany (effect_checks variables) p.rules) _ _ operators_fit (listed_follow (effect_checks variables) (EffectFits variables) (effect_fits variables) p.rules) in (
      λ pass.
          let q = all.0 pass in
          record {
            some_variable = q.0.0.0.0.0.0;
            variables = q.0.0.0.0.0.1;
            groups = q.0.0.0.0.1;
            init = q.0.0.0.1;
            goal = q.0.0.1;
            operators = q.0.1;
            rules = q.1;
          },
      λ w. all.1 ((((((w.some_variable, w.variables), w.groups), w.init), w.goal), w.operators), w.rules),
    )

pub checks_are_the_rules : ChecksAreTheRules
checks_are_the_rules p = (λ none. (sections p).0 (record { none = none }), λ w. ((sections p).1 w).none)
