-- The change is that of the effect.
use Rattle.sas_groups.proofs.Imports.{sym, ◌∙◌, ap, subst, All, Contains, Change, known_on}
use Rattle.sas_groups.proofs.Iff.{iff_other}
use Rattle.sas_groups.proofs.removal.removes.Goals as goal

pub returns : goal.returns
returns g c =
    let all = known_on c.args.task.now c.args.premises.now in
    let is = c.effect_change-change.ensures in
    iff_other c.all_known.ensures (λ fires. record {
      fires = subst (All (Contains all)) c.effect_conditions.ensures fires;
      var = ap (λ (change : Change). change.var) (sym is) ∙ c.if-change-fact.false;
      other = λ e. c.if-change-fact-2.false (ap (λ (change : Change). change.new) is ∙ e);
    }) (λ w. subst (All (Contains all)) (sym c.effect_conditions.ensures) w.fires)
