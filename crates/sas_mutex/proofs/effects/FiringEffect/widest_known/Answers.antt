-- This fact is chosen, or the previous choice.
use Rattle.sas_mutex.proofs.Imports.{sym, subst, inl, inr, Contains, IfSome, Option, Fact, known_at, turn_has, turn_more}
use Rattle.sas_mutex.proofs.effects.FiringEffect.widest_known.Goals as goal

pub loop-fact-preserved : goal.loop-fact-preserved
loop-fact-preserved g c =
    let f = c.args.self.now in
    let all = known_at f.task f.operator f.effect in
    let inv = c.loop-fact.invariant in
    let within = turn_has inv.turns c.in-Some.ensures.steps in
    record {
      turns = turn_more inv.turns c.in-Some.ensures.steps within;
      chosen = elim c.wider-widest.ensures [
        | inl e ↦ subst (λ (chosen : Option Fact). IfSome chosen (Contains all)) (sym e) within
        | inr e ↦ subst (λ (chosen : Option Fact). IfSome chosen (Contains all)) (sym e) inv.chosen
      ];
    }
