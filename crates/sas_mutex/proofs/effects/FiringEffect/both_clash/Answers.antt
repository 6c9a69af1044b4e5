-- A condition of the other effect clashes with the known facts, or its conditions clash with each
-- other.
use Rattle.sas_mutex.proofs.Imports.{arith, iff_yes, iff_other, iff_not, ◌<◌, List, length, sym, subst, inl, inr, Contains, Fact, operator_at, effect_at, AreBlank, EffectPlace, operator_of, IsKept}
use Rattle.sas_mutex.proofs.TaskFacts.{conditions_exist}
use Rattle.sas_mutex.proofs.FromNotes.{one_clashes, themselves_clash, one_or_themselves}
use Rattle.sas_mutex.proofs.effects.FiringEffect.both_clash.Goals as goal

pub returns-then-some_clashes-clause-is : goal.returns-then-some_clashes-clause-is
returns-then-some_clashes-clause-is g c =
    let some = rw (← c.self.view_is) at c.some_clashes.ensures in
    let p = c.self.inside.task.now in
    let o = operator_at p c.self.inside.operator in
    let (place, fact, below, is, clash) = some.0 c.if-some_clashes.true in
    rw (← c.self.view_is) (iff_yes (one_clashes (IsKept p c.args.kept.now) o (effect_at o c.self.inside.effect).conditions (effect_at o c.args.other).conditions fact
    (subst (λ (facts : List Fact). Contains facts fact) c.effect_conditions-second.ensures (place, below, is)) clash))

pub returns : goal.returns
returns g c =
    let notes = rw (← c.self.view_is) at c.requires.notes in
    let some = rw (← c.self.view_is) at c.some_clashes.ensures in
    let p = c.self.inside.task.now in
    let o = operator_at p c.self.inside.operator in
    let Counts = IsKept p c.args.kept.now in
    let first = (effect_at o c.self.inside.effect).conditions in
    let second = (effect_at o c.args.other).conditions in
    let same = c.effect_conditions-second.ensures in
    record {
      is = rw (← c.self.view_is) (iff_other (rw same at c.facts_clash.ensures.is) (themselves_clash Counts o first second)
          (λ clash. elim (one_or_themselves Counts o first second notes.noted.are.apart clash) [
            | inl one ↦ absurd (iff_not (rw same at some) c.if-some_clashes.false one)
            | inr themselves ↦ themselves
          ]));
      notes = record {
        one_each = c.requires.notes.one_each;
        noted = record {
          are = c.requires.notes.noted.are;
          from = record {
            known = c.requires.notes.noted.from.known;
            others = subst (λ (f : EffectPlace). AreBlank f.task c.facts_clash.new.notes) c.self.view_is c.facts_clash.ensures.blank;
          };
        };
      };
    }

pub effect_conditions-second-requires-clause-effect : goal.effect_conditions-second-requires-clause-effect
effect_conditions-second-requires-clause-effect g c = subst (λ (f : EffectPlace). c.args.other < length (operator_of f).effects) (sym c.self.view_is) c.requires.other

pub some_clashes-requires-clause-exist : goal.some_clashes-requires-clause-exist
some_clashes-requires-clause-exist g c = search (arith, conditions_exist)

pub invariant_of-indexed : goal.invariant_of-indexed
invariant_of-indexed g c = c.self.invariant.1

pub facts_clash-requires-clause-exist : goal.facts_clash-requires-clause-exist
facts_clash-requires-clause-exist g c = search (arith, conditions_exist)

pub facts_clash-requires-clause-blank : goal.facts_clash-requires-clause-blank
facts_clash-requires-clause-blank g c = subst (λ (f : EffectPlace). AreBlank f.task c.args.recorded.now.others) (sym c.self.view_is) c.requires.notes.noted.from.others
