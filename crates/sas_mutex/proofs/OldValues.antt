-- If an effect requires an old value that is a fact of a group, no other fact of the group can have
-- held before.
use Rattle.sas_mutex.proofs.Imports.{◌≡◌, ℕ, ◌<◌, length, List, [], ◌++◌, Bool, Option, Some, subst, refl, sym, ap, ◌∙◌, arith, Contains, filter_map, option_to_list, Contains-append_left, Contains-append_right, Contains-get_or, Change, Fact, Effect, Operator, Parts, operator_at, effect_at, group_at, change_of, WellRanged, old_fact, preconditions, IsIn, Index, AreGone, IsKept, family_of, IsIndexOf, groups_of}
use Rattle.sas_mutex.proofs.InLists.{in_flat, given_is}
use Rattle.sas_mutex.proofs.TaskFacts.{known_at_exist}
use Rattle.sas_mutex.proofs.FromNotes.{known_one_is_all}

-- the old value that an effect requires is a precondition
old_is_known : (o : Operator) (effect : ℕ) (fact : Fact) → effect < length o.effects → old_fact (effect_at o effect) ≡ Some fact → Contains (preconditions o) fact
old_is_known o effect fact below is = Contains-append_right o.prevail (filter_map old_fact o.effects) fact
    (subst (λ (facts : List Fact). Contains facts fact) (sym (given_is old_fact o.effects))
    (in_flat (λ (e : Effect). option_to_list (old_fact e)) o.effects (effect_at o effect) fact (Contains-get_or o.effects effect _ below)
    (subst (λ (old : Option Fact). Contains (option_to_list old) fact) (sym is) (0, omega arith, refl))))

required_is : (e : Effect) (value : ℕ) → e.old ≡ Some value → old_fact e ≡ Some (record { var = e.var; value = value })
required_is e value is = rw is refl

pub old_one_is_all : (p : Parts) (index : Index) (operator effect place value : ℕ) (change : Change) → WellRanged p → IsIndexOf p index
    → operator < length p.operators → effect < length (operator_at p operator).effects
    → change ≡ change_of (effect_at (operator_at p operator) effect) → change.old ≡ Some value
    → Contains (groups_of index (record { var = change.var; value = value })) place
    → (kept : List Bool) → IsIn p (family_of kept) place
    → AreGone (IsKept p kept) (operator_at p operator) (group_at p place) (effect_at (operator_at p operator) effect)
old_one_is_all p index operator effect place value change ranged indexed below_o below_e changes has_old has kept in_family =
    let o = operator_at p operator in
    let e = effect_at o effect in
    let h : Fact = record { var = e.var; value = value } in
    let required = required_is e value (sym (ap (λ (c : Change). c.old) changes) ∙ has_old) in
    let first = old_is_known o effect h below_e required in
    let known_h = Contains-append_left (preconditions o ++ e.conditions) [] h (Contains-append_left (preconditions o) e.conditions h first) in
    let exists = known_at_exist p ranged operator below_o effect below_e h known_h in
    let there = subst (λ (var : ℕ). Contains (groups_of index (record { var = var; value = value })) place) (ap (λ (c : Change). c.var) changes) has in
    known_one_is_all p kept o place e h in_family known_h ((indexed.groups h exists place).0 there).among (λ on_other. absurd (on_other refl))
