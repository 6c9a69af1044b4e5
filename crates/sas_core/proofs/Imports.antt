-- What the proofs use of other crates, and of the definitions of this one.
pub use Rattle.std.proofs.Common.{◌≡◌, ℕ, suc, ◌+◌, ◌<◌, Bool, false, List, [], ◌∷◌, ◌++◌, length, length-take, take, drop, get_or, sym, ◌∙◌, ap, arith, zero, ◌^◌, true, not, ◌==◌, nat_lt, if◌then◌else◌, ◌↔◌, flat_map, slice_index, Option, Some, None, refl, ltb-true, lt-ltb, ◌≤◌, add-one, slice_index_or, ◌&&◌, ◌||◌, nat_eq, rules, ◌≢◌, IsTrue}
pub use Rattle.std.proofs.Math.Seq.{drop-cons}
pub use Rattle.std.proofs.lemmas.Bool.{false≢true, cases_eq, and_parts, and_from, eq-eqb, ne_eqb}
pub use Rattle.std.proofs.lemmas.Bool.Decides.{nat_tests}
pub use Rattle.std.proofs.lemmas.List.{take-append-drop, drop_all, get_or_default, length-map, get_or-map}
pub use Rattle.std.proofs.lemmas.List.Elements.{All-from_get_or}
pub use Rattle.std.proofs.lemmas.List.Folds.{list_all_at, list_all-append}
pub use Rattle.std.proofs.lemmas.List.Sums.{list_all-from_AllPass}
pub use Rattle.std.specs.Bool.{Decides, beq}
pub use Rattle.std.specs.Cmp.{first_so, second_so, unsigned_Decides, booleans_Decides}
pub use Rattle.std.specs.Cmp.Derive.{both_true}
pub use Rattle.std.specs.Cmp.Lexicographic.{pointwise, pointwise_decides}
pub use Rattle.std.specs.List.{AllByRecursion, list_all}
pub use Rattle.std.specs.Option.{is_some, option_eq}
pub use Rattle.std.specs.Result.{result_err}
pub use Rattle.memchr.specs.Find.{IsFirstByte, is_byte2}
pub use Rattle.sas_core.specs.Checks.{name_checks, signed_checks, variable_checks, fact_checks, change_checks, effect_checks, operator_checks, values_in_range, state_checks, checks, ChecksAreTheRules}
pub use Rattle.sas_core.specs.FirstFault.{Check, first_fault, check, listed}
pub use Rattle.sas_core.specs.Changes.{plain_effect, plain_effects}
pub use Rattle.sas_core.specs.Grounded.{operator_at, no_effect, effect_at, rule_at}
pub use Rattle.sas_core.specs.Names.{IsName, is_name, is_plain}
pub use Rattle.sas_core.specs.Numbers.{IsNumber, is_number, IsSigned}
pub use Rattle.sas_core.specs.Plain.{IsPlain}
pub use Rattle.sas_core.specs.FirstBadName.{IsFirstBadName}
pub use Rattle.sas_core.specs.Variables.{range_of, HasValue, has_value, MayHaveValue, FactExists, IsState}
pub use Rattle.sas_core.specs.WellRanged.{Listed, VariableFits, EffectFits, OperatorFits, WellRanged}
pub use Rattle.sas_core.specs.declared.checks.PartsFault.{PartsFault}
pub use Rattle.sas_core.specs.declared.checks.PartsFault.TheVariants.{NoVariable, TooMany, BadName, BadNumber, BadRange, BadFact}
pub use Rattle.sas_core.specs.declared.grounded.Change.{Change}
pub use Rattle.sas_core.specs.declared.parts.Effect.{Effect}
pub use Rattle.sas_core.specs.declared.parts.Fact.{Fact}
pub use Rattle.sas_core.specs.declared.parts.Operator.{Operator}
pub use Rattle.sas_core.specs.declared.parts.Parts.{Parts}
pub use Rattle.sas_core.specs.declared.parts.Variable.{Variable}
