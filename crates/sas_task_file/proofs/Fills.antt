-- From any state that lines lead to, fillings lead to the end.
use Rattle.sas_task_file.proofs.Imports.{◌≡◌, ℕ, zero, suc, ◌+◌, ◌*◌, ◌<◌, Bool, true, List, [], ◌∷◌, ◌++◌, length, length-append, refl, sym, ap, subst, ◌∙◌, arith, IsTrue, Option, Some, None, AllByRecursion, IsNumber, Parts, Place, Due, Tracker, TaskLine, TaskSlot, task_slot, slot_of_due, is_from, number_in, value_in, row_at, row_in, after_move, test_of_due, TaskState, table_start, state_after, node_of_due, number_filling, filling, last_slot, AreFillings}
use Rattle.sas_task_file.specs.declared.places.Place.TheVariants as place
use Rattle.sas_task_file.specs.declared.marks.Due.TheVariants as due
use Rattle.sas_task_file.proofs.Stretches.{Ends, LeadsOn, Allowed}
use Rattle.sas_task_file.proofs.TaskEnds.{IsOver, nothing_if_over}
use Rattle.sas_task_file.proofs.TableLines.{table_line, of_table_line, IsDueLine}
use Rattle.sas_task_file.proofs.TaskSections.{less, between_of}

abbrev tracker_with : Place → ℕ → ℕ → Tracker → Tracker
tracker_with p left more t = record t { place = p; left = left; more = more }

-- ---- what the filling of a line depends on

-- the number that fills a number at a place
abbrev number_at : Place → ℕ
number_at place.VersionNumber = 3
number_at place.VariableCount = 1
number_at place.VariableRange = 1
number_at _ = 0

-- there is a variable, unless more are expected
abbrev HasSome : Place → ℕ → ℕ → Type 0
HasSome place.VersionBegin left many = Unit {0}
HasSome place.VersionNumber left many = Unit {0}
HasSome place.VersionEnd left many = Unit {0}
HasSome place.MetricBegin left many = Unit {0}
HasSome place.MetricNumber left many = Unit {0}
HasSome place.MetricEnd left many = Unit {0}
HasSome place.VariableCount left many = Unit {0}
HasSome place.VariableName left many = Unit {0}
HasSome place.VariableLayer left many = Unit {0}
HasSome place.VariableRange left many = Unit {0}
HasSome place.Variables left many = 0 < left + many
HasSome _ left many = 0 < many

abbrev AllPositive : List ℕ → Type 0
AllPositive ranges = AllByRecursion (λ n. 0 < n) ranges

-- after a line of the slot before, the tracker has what decides whether the fillings are allowed
pub record Ready (before : Option TaskSlot) (t : Tracker) : Type 0 where
  pub number : number_filling before ≡ number_at t.place
  pub some : HasSome t.place t.left (length t.ranges)
  pub positive : AllPositive t.ranges

-- ---- a filling is allowed

-- whether a number is allowed, and whether the first fact exists
abbrev passes : Due → ℕ → Bool → Bool
passes (due.Number its least most) n first = is_from least most n
passes due.Fact n first = first
passes due.Head n first = first
passes due.Effect n first = first
passes _ n first = true

first_exists : (ranges : List ℕ) → 0 < length ranges → AllPositive ranges → IsTrue (value_in ranges 0 0)
first_exists [] l h = absurd (omega arith)
first_exists (n ∷ ranges) l h = less 0 n h.0

from_zero : (most : ℕ) → IsTrue (is_from 0 most 0)
from_zero most = less 0 (most + 1) (omega arith)

passes_at : (p : Place) (left more : ℕ) (t : Tracker) → HasSome p left (length t.ranges) → AllPositive t.ranges → IsTrue (passes (row_at p (tracker_with p left more t)).due (number_at p) (value_in t.ranges 0 0))
passes_at place.GroupFacts left (suc more) t h a = first_exists t.ranges h a
passes_at place.StateValues left (suc more) t h a = from_zero _
passes_at place.GoalFacts left (suc more) t h a = first_exists t.ranges h a
passes_at place.Prevail left (suc more) t h a = first_exists t.ranges h a
passes_at place.Effects left (suc more) t h a = first_exists t.ranges h a
passes_at place.RuleConditions left zero t h a = first_exists t.ranges h a
passes_at place.RuleConditions left (suc more) t h a = first_exists t.ranges h a
passes_at _ zero zero t h a = refl
passes_at _ zero (suc more) t h a = refl
passes_at _ (suc left) zero t h a = refl
passes_at _ (suc left) (suc more) t h a = refl

few : (p : Place) → IsNumber (number_at p)
few place.VersionNumber = omega arith
few place.VariableCount = omega arith
few place.VariableRange = omega arith
few _ = omega arith

filling_allowed : (ranges : List ℕ) (d : Due) (b : Option TaskSlot) → IsNumber (number_filling b) → IsTrue (passes d (number_filling b) (value_in ranges 0 0)) → Allowed ranges d (filling b (slot_of_due d))
filling_allowed ranges (due.Word w) b f h = record { slot = refl; fits = tt; good = refl }
filling_allowed ranges (due.Name its) b f h = record { slot = refl; fits = tt; good = refl }
filling_allowed ranges (due.Number its least most) b f h = record { slot = refl; fits = f; good = h }
filling_allowed ranges due.Layer b f h = record { slot = refl; fits = tt; good = refl }
filling_allowed ranges due.Fact b f h = record { slot = refl; fits = (omega arith, omega arith); good = h }
filling_allowed ranges due.Head b f h = record { slot = refl; fits = (omega arith, tt, omega arith); good = h }
filling_allowed ranges due.Effect b f h = record { slot = refl; fits = record { count = omega arith; conditions = tt; head = (omega arith, tt, omega arith) }; good = h }
filling_allowed ranges due.Nothing b f h = record { slot = refl; fits = tt; good = refl }

allowed : (b : Option TaskSlot) (x : TaskState) → Ready b x.tracker → IsDueLine x (filling b (slot_of_due (row_in x.tracker).due))
allowed b x r =
    let t = x.tracker in
    filling_allowed t.ranges (row_in t).due b (subst IsNumber (sym r.number) (few t.place))
    (subst (λ (n : ℕ). IsTrue (passes (row_in t).due n (value_in t.ranges 0 0))) (sym r.number) (passes_at t.place t.left t.more t r.some r.positive))

-- ---- after a line

number_after : (p : Place) (left more n : ℕ) (t : Tracker) → (let u = tracker_with p left more t in number_filling (Some (slot_of_due (row_at p u).due)) ≡ number_at (after_move (row_at p u).moves n u).place)
number_after place.Rules zero more n t = refl
number_after place.Rules (suc left) more n t = refl
number_after _ zero zero n t = refl
number_after _ zero (suc more) n t = refl
number_after _ (suc left) zero n t = refl
number_after _ (suc left) (suc more) n t = refl

positive_number : (n : ℕ) → IsTrue (is_from 1 2147483647 n) → 0 < n
positive_number n h = let b = between_of 1 2147483647 n h in omega (arith, b.0)

and_one : (ranges : List ℕ) (n : ℕ) → AllPositive ranges → 0 < n → AllPositive (ranges ++ n ∷ [])
and_one [] n h some = (some, tt)
and_one (r ∷ ranges) n h some = (h.0, and_one ranges n h.1 some)

module _ (t : Tracker) (i : TaskLine) where
  abbrev After : Place → ℕ → ℕ → (Tracker → Type 0) → Type 0
  After p left more Then = let u = tracker_with p left more t in IsTrue (test_of_due t.ranges (row_at p u).due i) → Then (after_move (row_at p u).moves (number_in i) u)

  positive_after : (p : Place) (left more : ℕ) → AllPositive t.ranges → After p left more (λ u. AllPositive u.ranges)
  positive_after place.VariableRange left more h ok = and_one t.ranges (number_in i) h (positive_number (number_in i) ok)
  positive_after _ zero zero h ok = h
  positive_after _ zero (suc more) h ok = h
  positive_after _ (suc left) zero h ok = h
  positive_after _ (suc left) (suc more) h ok = h

  some_after : (p : Place) (left more : ℕ) → HasSome p left (length t.ranges) → After p left more (λ u. HasSome u.place u.left (length u.ranges))
  some_after place.VariableCount left more h ok = let some = positive_number (number_in i) ok in omega (arith, some)
  some_after place.VariableRange left more h ok = omega (arith, length-append t.ranges (number_in i ∷ []))
  some_after place.VariableValues left zero h ok = omega (arith, h)
  some_after place.Variables zero more h ok = omega (arith, h)
  some_after place.Variables (suc left) more h ok = tt
  some_after _ zero zero h ok = h
  some_after _ zero (suc more) h ok = h
  some_after _ (suc left) zero h ok = h
  some_after _ (suc left) (suc more) h ok = h

ready_on : (b : Option TaskSlot) (x : TaskState) (i : TaskLine) → Ready b x.tracker → IsDueLine x i → Ready (Some (task_slot i)) (state_after x i).tracker
ready_on b x i r a =
    let t = x.tracker in
    record {
      number = ap (λ (s : TaskSlot). number_filling (Some s)) a.slot ∙ number_after t.place t.left t.more (number_in i) t;
      some = some_after t i t.place t.left t.more r.some a.good;
      positive = positive_after t i t.place t.left t.more r.positive a.good;
    }

start_ready : Ready None table_start.tracker
start_ready = record { number = refl; some = tt; positive = tt }

-- ---- the fillings come to an end

-- at most how many fillings are left at a place, besides those of what is left
abbrev rank : Place → ℕ → ℕ
rank place.VersionBegin many = many + 25
rank place.VersionNumber many = many + 24
rank place.VersionEnd many = many + 23
rank place.MetricBegin many = many + 22
rank place.MetricNumber many = many + 21
rank place.MetricEnd many = many + 20
rank place.VariableCount many = many + 19
rank place.Variables many = many + 8
rank place.VariableName many = many + 14
rank place.VariableLayer many = many + 13
rank place.VariableRange many = many + 12
rank place.VariableValues many = many + 9
rank place.Groups many = many + 7
rank place.GroupSize many = many + 9
rank place.GroupFacts many = many + 8
rank place.StateValues many = 6
rank place.GoalBegin many = 5
rank place.GoalSize many = 4
rank place.GoalFacts many = 3
rank place.OperatorCount many = 2
rank place.Operators many = 1
rank place.OperatorName many = 6
rank place.PrevailCount many = 5
rank place.Prevail many = 4
rank place.Effects many = 3
rank place.OperatorEnd many = 2
rank place.Rules many = 0
rank place.RuleSize many = 3
rank place.RuleConditions many = 2
rank place.RuleEnd many = 1

abbrev weight : Tracker → ℕ
weight t = rank t.place (length t.ranges) + 10 * t.left + t.more

falls_at : (p : Place) (left more : ℕ) (t : Tracker) (b : Option TaskSlot) → number_filling b ≡ number_at p → ((p ≡ place.Rules) × (left ≡ 0) → ⊥)
    → (let u = tracker_with p left more t in weight (after_move (row_at p u).moves (number_in (filling b (slot_of_due (row_at p u).due))) u) < weight u)
falls_at place.Rules zero more t b e g = absurd (g (refl, refl))
falls_at place.VariableRange left more t b e g = omega (arith, e, length-append t.ranges (number_filling b ∷ []))
falls_at _ zero zero t b e g = omega (arith, e)
falls_at _ zero (suc more) t b e g = omega (arith, e)
falls_at _ (suc left) zero t b e g = omega (arith, e)
falls_at _ (suc left) (suc more) t b e g = omega (arith, e)

-- fillings that lead to the end
pub record Filled (b : Option TaskSlot) (x : TaskState) : Type 0 where
  pub items : List TaskLine
  pub parts : Parts
  pub ends : Ends x items parts
  pub filled : AreFillings b items

filled_from : (most : ℕ) (b : Option TaskSlot) (x : TaskState) → weight x.tracker < most → Ready b x.tracker → (d : Due) → (row_in x.tracker).due ≡ d → Filled b x
filled_from zero b x l r d e = absurd (omega (arith, l))
filled_from (suc most) b x l r due.Nothing e = record { items = []; parts = x.so_far.parts; ends = ap (λ (d : Due). node_of_due d x) e; filled = tt }
filled_from (suc most) b x l r _ e =
    let t = x.tracker in
    let going : IsOver t → ⊥ = λ over. let nothing = nothing_if_over t over in cc in
    let i = filling b (slot_of_due (row_in t).due) in
    let a = allowed b x r in
    let falls = falls_at t.place t.left t.more t b r.number going in
    let f = filled_from most (Some (task_slot i)) (state_after x i) (omega (arith, l, falls)) (ready_on b x i r a) (row_in (state_after x i).tracker).due refl in
    record {
      items = i ∷ f.items;
      parts = f.parts;
      ends = table_line x i (λ (y : TaskState). Ends y f.items f.parts) going a f.ends;
      filled = (ap (filling b) (sym a.slot), f.filled);
    }

-- ---- after some lines

-- the slot of the line before is known to the tracker
pub record Led (b : Option TaskSlot) (x : TaskState) : Type 0 where
  pub ready : Ready b x.tracker

pub fill : (b : Option TaskSlot) (x : TaskState) → Led b x → Filled b x
fill b x r = filled_from (suc (weight x.tracker)) b x (omega arith) r.ready (row_in x.tracker).due refl

pub led : (b : Option TaskSlot) (x y : TaskState) (items : List TaskLine) → Led b x → LeadsOn x items y → Led (last_slot b items) y
led b x y [] r h = subst (λ (z : TaskState). Led b z) h r
led b x y (i ∷ items) r h =
    let t = of_table_line x i (λ (z : TaskState). LeadsOn z items y) h in
    led (Some (task_slot i)) (state_after x i) y items (record { ready = ready_on b x i r.ready t.0 }) t.1

pub start_led : Led None table_start
start_led = record { ready = start_ready }
