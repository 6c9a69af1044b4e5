-- What the proofs use of other crates, and of the definitions of this one.
pub use Rattle.std.proofs.Common.{◌≡◌, ◌⊎◌, ℕ, zero, suc, ◌+◌, ◌≤◌, false, List, [], ◌∷◌, ◌++◌, length, get_or, refl, sym, ◌∙◌, ap, subst, inl, inr, arith, ◌≢◌, ◌<◌, ◌==◌, ◌&&◌, ◌^◌, Bool, true, cond, set, None, not, ◌-◌, vec_capacity, ◌↔◌, ◌*◌, Vec, Global, drop, Option, Some, take, nat_eq, slice_index, if◌then◌else◌, is_some, rules, IsTrue, IsFalse, IfSome, IfNone}
pub use Rattle.std.proofs.Math.ListN.{length-append}
pub use Rattle.std.proofs.Math.Seq.{append_snoc}
pub use Rattle.std.proofs.lemmas.Bool.{cases_eq, eq-eqb, cases_lt, eqb-true, ne_eqb, and_parts, and_from}
pub use Rattle.std.proofs.lemmas.Bool.Decides.{leb_tells, eqb_tells, Decides-eqb, Decides-not}
pub use Rattle.std.proofs.lemmas.List.{get_or-set_same, get_or-set_other, set-get_or, length-set, get_or_default, drop_all, drop_more, get_or-drop, length-drop, get_or_push, get_or_append_left, append-nil, at_drop_all}
pub use Rattle.std.proofs.lemmas.List.Elements.{All-nil, All-cons, Contains-get_or, Contains-append_left, Contains-push, Contains-push_cases, All-tail, All-append, All-weaker, All-push, All-head, All-contains, All-contains_itself, Contains-append_right, All-from_recursion}
pub use Rattle.std.proofs.lemmas.List.Sorted.{Contains-permutation, IsPermutation-sym, length_permutation, IsNonDecreasingBy-from_sort_by_key, All-permutation}
pub use Rattle.std.proofs.lemmas.Result.{on_ok_weaker, IfOk-weaker}
pub use Rattle.std.specs.BinaryHeap.{heap_items, IsUpperBound}
pub use Rattle.std.specs.List.{All, Contains}
pub use Rattle.std.specs.List.Sorted.{IsPermutation, IsNonDecreasingBy}
pub use Rattle.std.specs.Option.{option_eq}
pub use Rattle.std.specs.Ordering.{is_lt}
pub use Rattle.std.specs.Result.{is_ok}
pub use Rattle.std.specs.declared.cmp.Reverse.{Reverse}
pub use Rattle.sas_core.proofs.Fitting.{rule_fits}
pub use Rattle.sas_core.specs.Changes.{change_of}
pub use Rattle.sas_core.specs.Grounded.{rule_at, no_effect}
pub use Rattle.sas_core.specs.Variables.{IsState, FactExists, layer_of}
pub use Rattle.sas_core.specs.WellRanged.{WellRanged}
pub use Rattle.sas_core.specs.declared.grounded.Change.{Change}
pub use Rattle.sas_core.specs.declared.parts.Fact.{Fact}
pub use Rattle.sas_core.specs.declared.parts.Parts.{Parts}
pub use Rattle.sas_core.specs.declared.parts.Effect.{Effect}
pub use Rattle.sas_flat.proofs.ByKey.{under_key, all_items, items_none, items_cons, item_if, items_append}
pub use Rattle.sas_flat.proofs.Tables.{length-table}
pub use Rattle.sas_flat.specs.ByKey.{items_of, by_key}
pub use Rattle.sas_flat.specs.declared.by_key.Entry.{Entry}
pub use Rattle.sas_meaning.proofs.Forced.{condition_within, Fired, fired_there, rule_new, differs_true, differs_not, differs_same, fact_within, state_set}
pub use Rattle.sas_meaning.proofs.Layers.{looks_down, layer_decides, on_layer_within, given_on}
pub use Rattle.sas_meaning.proofs.Members.{contains_head, contains_tail, contains_cases}
pub use Rattle.sas_meaning.proofs.Places.{places_to, places_one_more, places_all, place_is, is_place}
pub use Rattle.sas_meaning.proofs.Rules.{new_value_is}
pub use Rattle.sas_meaning.proofs.Settling.{default_off, forced_at_default, settled_when_fired, settled_where_empty, settled_off, basic_off}
pub use Rattle.sas_meaning.proofs.Spans.{basic_kept, at_default, state_reset}
pub use Rattle.sas_meaning.proofs.Unique.{differs_decides}
pub use Rattle.sas_meaning.specs.DerivedVariables.{AreDerivedSpans, CopiesSpans}
pub use Rattle.sas_meaning.specs.Following.{HaveGone, ListsDerived}
pub use Rattle.sas_meaning.specs.Forced.{SameOff, AtDefault, OnlyForced, HasFired, equal_places, Occurs}
pub use Rattle.sas_meaning.specs.Layers.{IsLayered, IsBasic, IsOnLayer, default_of, CanFire, can_fire, LooksDown}
pub use Rattle.sas_meaning.specs.Places.{places, can_give}
pub use Rattle.sas_meaning.specs.Settled.{IsSettled, differs, IsSettledAt, Settles, new_value_of, value_with, IsClosed, SameBasic}
pub use Rattle.sas_meaning.specs.States.{Holds, AllHold}
pub use Rattle.sas_axioms.specs.Agenda.{layer_cmp, entry_for, IsOnAgenda, AddsToAgenda, work_left, IsOrdered, IsAwaited, AreBehind, RemovesFromAgenda, IsMadeReady, AreMadeReady, IsEmpty, NoLowerLayer, Lowest}
pub use Rattle.sas_axioms.specs.ByLayers.{SettlesNext, SettlesLayer}
pub use Rattle.sas_axioms.specs.Conditions.{asking, waiting_entry, waiting_at, released, occurrences, open_conditions, IsOfRule, entries, IsFullIndex, AreCounted, IsCounted, waits_for, CanCount}
pub use Rattle.sas_axioms.specs.Following.{AddsChanged, NotesMore, IsFollowed, SameWork, CountsTo, SameFrom, ChangesAreNoted, CountsChange, IsOnTrack, IsFalling, IsRising, IsBetween, IsUpdatedTo, AsksAbout, HasRisen, KeepsRoom}
pub use Rattle.sas_axioms.specs.LayerRules.{IsRuleOn, AreReadyFrom, StandsFrom, AreWaiting, layer_at, IsLate, AreFirstRules, AreRulesOf, IsLayerSpan}
pub use Rattle.sas_axioms.specs.Sources.{AreGiven, SameSourcesOff, IsHolding, HaveSources, SourcesHold, IsSourceOf}
pub use Rattle.sas_axioms.specs.Worklist.{AreCountedBy, value_seen, IsRunning, WorkHasRoom, IsFiring, IsAtWork, IsAtRest, WorkGoesOn, with_source, LayerBeginsAt, left_to_do}
pub use Rattle.sas_axioms.specs.declared.agenda.Agenda.{Agenda}
pub use Rattle.sas_axioms.specs.declared.conditions.ValueChange.{ValueChange}
pub use Rattle.sas_axioms.specs.declared.conditions.RuleCondition.{RuleCondition}
pub use Rattle.sas_axioms.specs.declared.firing.Work.{Work}
pub use Rattle.sas_axioms.specs.declared.layer_rules.LayerRule.{LayerRule}
