-- What the proofs use of other crates, and of the definitions of this one.
pub use Rattle.std.proofs.Common.{◌≡◌, ◌≢◌, ℕ, ◌+◌, ◌<◌, ◌≤◌, true, false, None, List, [], ◌∷◌, ◌++◌, length, refl, sym, subst, inl, inr, arith, zero, suc, ◌⊎◌, get_or, set, Option, Some, ◌∙◌, ◌==◌, Bool, take, slice_index, slice_index_or, slice_set, ap, cond, eqb-true, eq-eqb, below_more, ◌↔◌, nat_lt, nat_le, if◌then◌else◌, flat_map, not, ltb-true, lt-ltb, leb-true, le-leb, drop, add-one, ◌&&◌, ◌||◌, get_or-take, rules, Result, Ok, Err, ◌-◌}
pub use Rattle.std.proofs.Math.ListN.{length-append}
pub use Rattle.std.proofs.Math.Seq.{drop-cons, take-suc}
pub use Rattle.std.proofs.lemmas.Grind.{common_steps}
pub use Rattle.std.proofs.lemmas.Bool.{cases_eq, false_from_ne_true, cases_Bool, cases_lt}
pub use Rattle.std.proofs.lemmas.Bool.Decides.{eqb_tells}
pub use Rattle.std.proofs.lemmas.Grind.{same_number_lists, elements}
pub use Rattle.std.proofs.lemmas.List.{get_or-set_same, get_or-set_other, get_or_default, length-set, drop_all, take_all, length-take-le, length-drop, get_or-drop, get_or_append_left, get_or-append_right}
pub use Rattle.std.proofs.lemmas.List.Elements.{All-nil, All-push, Contains-append_left, Contains-push, All-cons, All-head, All-tail, Contains-append_right, Contains-get_or, All-contains, All-weaker, Contains-push_cases}
pub use Rattle.std.proofs.lemmas.List.FromFn.{get_or-enumerate_from, length-enumerate_from}
pub use Rattle.std.proofs.lemmas.List.Kept.{AllPairs-cons}
pub use Rattle.std.proofs.lemmas.List.Sums.{AllPass-from_list_all, list_all-from_AllPass}
pub use Rattle.std.proofs.lemmas.Result.{IfOk-from_err}
pub use Rattle.std.specs.List.{All, Contains, slice_get, enumerate_from, AllPairs, AllPass, list_all, find}
pub use Rattle.std.specs.Option.{option_and_then, option_map_or, is_some}
pub use Rattle.std.specs.Result.{result_err, IfOk}
pub use Rattle.sas_core.proofs.FirstFaults.{fails_before, decides_after}
pub use Rattle.sas_core.proofs.Fitting.{rule_fits}
pub use Rattle.sas_core.proofs.Passing.{Pass, by_test, split_row, join_row, and_then}
pub use Rattle.sas_core.proofs.Places.{holds_at}
pub use Rattle.sas_core.specs.Changes.{change_of}
pub use Rattle.sas_core.specs.FirstFault.{Check, first_fault, check}
pub use Rattle.sas_core.specs.Grounded.{no_effect, rule_at, operator_at, effect_at}
pub use Rattle.sas_core.specs.Variables.{IsDerived, layer_of, IsState, range_of, HasValue, FactExists}
pub use Rattle.sas_core.specs.WellRanged.{WellRanged, OperatorFits, EffectFits}
pub use Rattle.sas_core.specs.declared.grounded.Change.{Change}
pub use Rattle.sas_core.specs.declared.parts.Effect.{Effect}
pub use Rattle.sas_core.specs.declared.parts.Fact.{Fact}
pub use Rattle.sas_core.specs.declared.parts.Operator.{Operator}
pub use Rattle.sas_core.specs.declared.parts.Parts.{Parts}
pub use Rattle.sas_core.specs.declared.parts.Variable.{Variable}
pub use Rattle.sas_meaning.specs.DerivedVariables.{AreDerivedSpans, AreSpansOf, CopiesSpans, IsSpanned}
pub use Rattle.sas_meaning.specs.declared.state.VariableSpan.{VariableSpan}
pub use Rattle.sas_meaning.specs.Forced.{OnlyForced, HasFired, Changes, SameOff, AtDefault, equal_places, Occurs}
pub use Rattle.sas_meaning.specs.FastDownward.{FiresLast, ForcedStep, FastDownwardStep, FastDownwardReachable, Start, Onward}
pub use Rattle.sas_meaning.specs.Laws.{SettledExists, InitialExists, SettledIsOne, StepIsOne}
pub use Rattle.sas_meaning.specs.LayerChecks.{numbered_checks, agrees_with, looks_down, firing_checks, effect_layer_checks, operator_layer_checks, rule_layer_checks, layer_checks, LayerChecksAreTheRules}
pub use Rattle.sas_meaning.specs.Layers.{IsBasic, IsOnLayer, default_of, IsLayered, CanFire, LooksDown, can_fire, IsLayeredRule}
pub use Rattle.sas_meaning.specs.NewValues.{NewValues, IsGiverBefore}
pub use Rattle.sas_meaning.specs.Places.{places_from, places}
pub use Rattle.sas_meaning.specs.Preconditions.{preconditions_left, IsAtOperator}
pub use Rattle.sas_meaning.specs.Reachable.{Reachable, Initial, Next}
pub use Rattle.sas_meaning.specs.Settled.{Settles, IsSettledAt, SameBasic, new_value_of, value_with, IsClosed, differs, is_on_layer, IsSettled}
pub use Rattle.sas_meaning.specs.States.{Holds, AllHold}
pub use Rattle.sas_meaning.specs.Steps.{preconditions, Fires, Agree, Step}
pub use Rattle.sas_meaning.specs.StepLaws.{fires, written, StepExists, FastDownwardStepExists, FastDownwardStepIsOne, StepIsFastDownwards, FastDownwardStepIsStep, FastDownwardReaches, FastDownwardReachesNoMore, FastDownwardWrites}
pub use Rattle.sas_meaning.specs.declared.layered.LayerFault.{LayerFault}
pub use Rattle.sas_meaning.specs.declared.layered.LayerFault.TheVariants.{OldValue, TwoValues, LayerOrder, EffectOnDerived, RuleOnBasic}
