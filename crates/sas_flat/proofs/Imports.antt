-- What the proofs use of other crates, and of the definitions of this one.
pub use Rattle.std.proofs.Common.{◌≡◌, ℕ, zero, suc, ◌+◌, ◌-◌, ◌<◌, ◌≤◌, ◌⊎◌, inl, inr, List, [], ◌∷◌, ◌++◌, length, get_or, take, drop, replicate, refl, sym, ap, map, subst, ◌∙◌, arith, append-nil, append_assoc, length-append, length-drop, slice_index, slice_range, ◌↔◌, ◌==◌, cond, true, Result, Ok, Err, OnErr, slice_get, None, Some, option_map, ◌≢◌, ltb, set, sum, Option, option_and_then, Fits, w64, rules, IfSome, ◌*◌}
pub use Rattle.std.proofs.Math.ListN.{get_or-append}
pub use Rattle.std.proofs.Math.Nat.{eq-or-lt_of_le}
pub use Rattle.std.proofs.Math.Seq.{get_or-append_seam, drop-append_seam, drop-append-add, take-length, take-append_seam}
pub use Rattle.std.proofs.lemmas.Bool.{cases_lt, cases_eq, eqb-true}
pub use Rattle.std.proofs.lemmas.Bool.Decides.{leb_tells, eqb_tells, nat_tests}
pub use Rattle.std.proofs.lemmas.List.{take-append-le, drop-append-le, take-append-drop, length-take-le, length-map, get_or-take, get_or-drop, get_or-map, get_or-append-add, get_or_past, map-append, take_more, length-replicate, take-map, length-set, length-take, take_all, get_or-set_same, get_or-set_other, drop-set-lt, drop-set-add, take-set-le, take_more_set, drop-drop, nil_from_length, get_or_default, take_at}
pub use Rattle.std.proofs.lemmas.List.Edits.{map_over_more}
pub use Rattle.std.proofs.lemmas.List.Elements.{All-nil, All-cons, All-append, All-head, All-tail, Contains-append_left, Contains-append_right, Contains-append_cases, filter-append}
pub use Rattle.std.proofs.lemmas.List.Kept.{IsNonDecreasingBy-filter}
pub use Rattle.std.proofs.lemmas.List.Sums.{sum_by_more, sum_by_more_le, sum_by_push, sum_by-cons}
pub use Rattle.std.proofs.lemmas.Option.{slice_get-get_or, slice_get_past}
pub use Rattle.std.proofs.lemmas.Result.{on_ok_weaker, on_err_weaker}
pub use Rattle.std.specs.List.{All, Contains, filter, sum_by}
pub use Rattle.std.specs.List.Sorted.{IsNonDecreasing, IsNonDecreasingBy}
pub use Rattle.std.specs.Option.{option_map_or}
pub use Rattle.sas_core.specs.Changes.{plain_effect, plain_effects, change_of}
pub use Rattle.sas_core.specs.LineNumbers.{variable_height, group_height, operator_height, rule_height, operator_line, rule_line}
pub use Rattle.sas_core.specs.Variables.{range_of, layer_of, value_name}
pub use Rattle.sas_core.specs.declared.grounded.Change.{Change}
pub use Rattle.sas_core.specs.declared.parts.Effect.{Effect}
pub use Rattle.sas_core.specs.declared.parts.Fact.{Fact}
pub use Rattle.sas_core.specs.declared.parts.Operator.{Operator}
pub use Rattle.sas_core.specs.declared.parts.Parts.{Parts}
pub use Rattle.sas_core.specs.declared.parts.Variable.{Variable}
pub use Rattle.sas_flat.specs.ByKey.{by_key, AreCounts, ArePlaced}
pub use Rattle.sas_flat.specs.Effects.{effect_with, change_in_list, effects_of, effect_in_list}
pub use Rattle.sas_flat.specs.Growing.{Kept, Hold}
pub use Rattle.sas_flat.specs.Lists.{start_of, list_at, lists_of, lists_in, items_after, AreEnds, AreOpen}
pub use Rattle.sas_flat.specs.Operators.{operator, name_ends, prevail_ends, effect_ends, costs, operators_in, operator_in, end_head, open_operator, OperatorColumnsAlign}
pub use Rattle.sas_flat.specs.Variables.{variables_in, variables_from, variable, VariableColumnsAlign}
pub use Rattle.sas_flat.specs.declared.by_key.Entry.{Entry}
pub use Rattle.sas_flat.specs.declared.operators.Head.{Head}
pub use Rattle.sas_flat.specs.declared.operators.OperatorColumns.{OperatorColumns}
pub use Rattle.sas_flat.specs.declared.variables.VariableColumns.{VariableColumns}
unfoldable pub use Rattle.sas_flat.specs.ByKey.{items_of, start_of_key}
unfoldable pub use Rattle.sas_flat.specs.ByKey.{table}
