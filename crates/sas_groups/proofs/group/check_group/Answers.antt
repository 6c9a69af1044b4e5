-- The verdict is the first reason against the group.
use Rattle.sas_groups.proofs.Imports.{refl, get_or, fact_within, ◌≡◌, List, Fact, Parts, Verdict, Exclusive, Derived, Broken, IsVerdictAlone, IsFirstVerdict}
use Rattle.sas_groups.specs.declared.verdict.Verdict.TheVariants.{Initial}
use Rattle.sas_groups.proofs.Invariance.{exclusive_alone_is_invariant}
use Rattle.sas_groups.proofs.group.check_group.Goals as goal

-- what speaks against a group before operators are asked is the verdict on it
first_is_last : (p : Parts) (group : List Fact) (verdict : Verdict) → (verdict ≡ Exclusive → ⊥) → IsFirstVerdict p group verdict → IsVerdictAlone p group verdict
first_is_last p group Exclusive not first = absurd (not refl)
first_is_last p group Derived not first = first
first_is_last p group Initial not first = first
first_is_last p group (Broken operator) not first = absurd first

pub before_operators-requires : goal.before_operators-requires
before_operators-requires g c k d lt = fact_within c.args.layered.now (get_or c.args.group.now k d).var (get_or c.args.group.now k d).value (c.requires k d lt)

pub returns-in-Some : goal.returns-in-Some
returns-in-Some g c = record { verdict = (c.in-Exclusive.ensures.basic, c.in-Exclusive.ensures.initial, c.in-Some.ensures.some); invariant = λ e. absurd cc }

pub returns-in-None : goal.returns-in-None
returns-in-None g c =
    let alone : IsVerdictAlone c.args.layered.now c.args.group.now Exclusive = (c.in-Exclusive.ensures.basic, c.in-Exclusive.ensures.initial, c.in-None.ensures.none) in
    record { verdict = alone; invariant = λ e. exclusive_alone_is_invariant c.args.layered.now c.args.group.now alone }

pub returns-in_default : goal.returns-in_default
returns-in_default g c = record {
  verdict = first_is_last c.args.layered.now c.args.group.now c.before_operators.result c.in_default.not-Exclusive c.before_operators.ensures;
  invariant = λ e. absurd (c.in_default.not-Exclusive e);
}
