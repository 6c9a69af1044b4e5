-- What the proofs use of other crates, and of the definitions of this one.
pub use Rattle.std.proofs.Common.{◌≡◌, IsTrue, ℕ, ◌+◌, ◌<◌, ◌≤◌, ◌≢◌, List, length, get_or, slice_set, Option, None, Some, sym, ap, subst, ◌∙◌, inl, inr, arith, [], Bool, true, false, nat_eq, refl, if◌then◌else◌, true≢false, ◌-◌, ◌⊎◌, ◌∷◌, ◌++◌, vec_capacity, rules, suc, bytes_eq, is_some, not}
pub use Rattle.std.proofs.Math.Nat.{eq-or-lt_of_le}
pub use Rattle.std.proofs.lemmas.Bool.{cases_eq, eqb-true, eq-eqb, cases_lt, cases_Bool}
pub use Rattle.std.proofs.lemmas.Grind.{common_steps}
pub use Rattle.std.proofs.lemmas.List.{get_or-set_same, get_or-set_other, length-set, get_or_append_left, get_or_push, get_or_read, length-append, get_or_default}
pub use Rattle.std.proofs.lemmas.List.Folds.{list_any_at, list_any_none}
pub use Rattle.std.proofs.lemmas.Map.Text.{is_eq-slice_cmp}
pub use Rattle.std.proofs.lemmas.Option.{none-some, same_Some}
pub use Rattle.std.proofs.lemmas.Slice.Eq.{bytes_eq-Decides}
pub use Rattle.std.specs.BTreeMap.{BTreeMap, is_at}
pub use Rattle.std.specs.Cmp.{nat_eq_equiv}
pub use Rattle.std.specs.Cmp.Lexicographic.{pointwise, bytes_decides, slice_cmp, lists_equiv}
pub use Rattle.std.specs.Global.{Vec}
pub use Rattle.std.specs.List.{count_by}
pub use Rattle.std.specs.Map.{IsKeyTest, AreApart}
unfoldable pub use Rattle.std.specs.Map.{KeepsOthers}
pub use Rattle.std.specs.Ordering.{eq_by_cmp, nat_cmp}
pub use Rattle.indexmap.specs.IndexMap.{get, IndexMap, UpdatesBy}
pub use Rattle.sas_core.specs.Grounded.{operator_at}
pub use Rattle.sas_core.specs.declared.parts.Operator.{Operator}
pub use Rattle.sas_core.specs.declared.parts.Parts.{Parts}
pub use Rattle.sas_names.specs.Chains.{AreChains, AreStepOperators}
unfoldable pub use Rattle.sas_names.specs.NameTable.{digest_of}
pub use Rattle.sas_names.specs.NameTable.{value_of, AreNames, other_of, own_else, first_else, likely_of, operator_names, AreNamesFrom, Exist, IsEmptyTable, PutsName, PutsDigest, PutsOther}
pub use Rattle.sas_names.specs.Named.{IsNamed}
pub use Rattle.sas_names.specs.Nameless.{is_nameless, nameless_steps}
pub use Rattle.sas_names.specs.Names.{IsNextNamed, IsLowestNamed, AreFirsts, existing}
unfoldable pub use Rattle.sas_names.specs.Shapes.{shape_of}
pub use Rattle.sas_names.specs.Shapes.{HaveShapes}
pub use Rattle.sas_names.specs.StepNames.{AreStepNames, step_names, AreStepsOf, Numbers, HaveNumbers}
pub use Rattle.sas_names.specs.declared.name_table.NameTable.{NameTable}
pub use Rattle.sas_names.specs.declared.names.Names.{Names}
pub use Rattle.sas_names.specs.declared.step_names.StepNames.{StepNames}
pub use Rattle.sas_names.specs.declared.step_operators.StepOperators.{StepOperators}
