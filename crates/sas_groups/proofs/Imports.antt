-- What the proofs use of other crates, and of the definitions of this one.
pub use Rattle.std.proofs.Common.{◌≡◌, ℕ, ◌<◌, List, [], ◌∷◌, ◌++◌, length, get_or, sym, subst, inl, inr, arith, ◌∙◌, ap, ◌≤◌, ◌↔◌, refl, ◌⊎◌, Bool, true, false, ◌||◌, ◌==◌, IsTrue, IsFalse, ◌≢◌, zero, suc, append_assoc, rules, below_more}
pub use Rattle.std.proofs.lemmas.Bool.{cases_Bool, cases_eq, eq-eqb, eqb-true, cases_order, false≢true, both_ways}
pub use Rattle.std.proofs.lemmas.Grind.{common_steps}
pub use Rattle.std.proofs.lemmas.List.{get_or_default, get_or_append_left, get_or_push, length_push, ext_get_or, append-nil}
pub use Rattle.std.proofs.lemmas.List.Elements.{All-contains, Contains-get_or, Contains-append_right, All-nil, All-cons, All-append, All-from_get_or, All-push}
pub use Rattle.std.specs.List.{All, Any, Contains}
pub use Rattle.sas_core.proofs.SameParts.{fact_same}
pub use Rattle.sas_core.proofs.Places.{each_more}
pub use Rattle.sas_core.specs.Changes.{change_of}
pub use Rattle.sas_core.specs.Grounded.{operator_at, no_effect, effect_at, group_at}
pub use Rattle.sas_core.specs.declared.grounded.Change.{Change}
pub use Rattle.sas_core.specs.declared.parts.Effect.{Effect}
pub use Rattle.sas_core.specs.declared.parts.Fact.{Fact}
pub use Rattle.sas_core.specs.declared.parts.Operator.{Operator}
pub use Rattle.sas_core.specs.declared.parts.Parts.{Parts}
pub use Rattle.sas_meaning.proofs.Exists.{initial_exists}
pub use Rattle.sas_meaning.proofs.Facts.{SetBy, Untouched, set_or_kept}
pub use Rattle.sas_meaning.proofs.FastDownwardSteps.{no_more}
pub use Rattle.sas_meaning.proofs.Forced.{fact_within}
pub use Rattle.sas_meaning.specs.Layers.{IsBasic}
pub use Rattle.sas_meaning.specs.Reachable.{Reachable, Initial, Next}
pub use Rattle.sas_meaning.specs.InitialStates.{IsInitial}
pub use Rattle.sas_meaning.specs.States.{Holds, AllHold}
pub use Rattle.sas_meaning.specs.Steps.{preconditions, Fires, Step}
pub use Rattle.sas_groups.specs.Keeping.{NotBoth, KeepsIfSets, Alone, IsFirstVerdict, IsGone}
pub use Rattle.sas_groups.specs.Clashes.{Keeps, Removes, IsRemoved, sets, Clash, Contradict}
pub use Rattle.sas_groups.specs.Families.{MayBeExclusive, IsIn, IsGroupOf, IsGroupOfOr, AllKeep, IsKeptJointly, IsGreatest, IsOnBasic}
pub use Rattle.sas_groups.specs.Groups.{IsExclusiveIn}
pub use Rattle.sas_groups.specs.Verdicts.{verdict_at, AreJointVerdicts, AreInvariants, IsJointVerdict, IsFirstBreaking, IsVerdictAlone}
pub use Rattle.sas_groups.specs.Laws.{FamiliesUnite, GreatestIsOne, GreatestHasAlone, OutsideIsBroken, JointlyKeptIsInvariant, ExclusiveAloneIsInvariant, ExclusiveJointlyIsInvariant, GreatestExists, JointVerdictIsOne, SomeJointVerdict}
pub use Rattle.sas_groups.specs.Lists.{known, known_on, known_left, facts_left}
pub use Rattle.sas_groups.specs.VerdictLaws.{InitialIsNoInvariant, InvariantInFastDownward, ExclusiveInFastDownward}
pub use Rattle.sas_groups.specs.declared.verdict.Verdict.{Verdict}
pub use Rattle.sas_groups.specs.declared.verdict.Verdict.TheVariants.{Exclusive, Derived, Broken}
