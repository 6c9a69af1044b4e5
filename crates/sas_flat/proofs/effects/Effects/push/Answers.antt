use Rattle.sas_flat.proofs.Imports.{eqb-true, nil_from_length, ◌≡◌, ◌-◌, [], ◌∷◌, ◌++◌, length, sym, ap, ◌∙◌, effect_with, effects_of}
use Rattle.sas_flat.proofs.EffectRows.{effects_filled, filled_more, plain_more}
use Rattle.sas_flat.proofs.Kept.{on_any_error}
use Rattle.sas_flat.proofs.effects.Effects.push.Goals as goal
use Rattle.sas_flat.proofs.effects.Effects.push.Goals.{then-not-is_empty+in_ok-fill+in_ok-push, else-not-is_empty}

pub returns-in_err-push-clause-err : goal.returns-in_err-push-clause-err
returns-in_err-push-clause-err c =
    on_any_error c.from_residual-in_err-push.result
    (rw (c.reserve.ensures.items, c.in_err-push.ensures.err, c.in_ok-fill.ensures.ok)
    (effects_filled c.self.inside.changes.items c.self.inside.conditions _ ∙ c.self.view_is))

pub returns-clause-ok : goal.returns-clause-ok
returns-clause-ok c =
    let behind = ap (λ l. l ++ effect_with c.args.change c.args.conditions.now ∷ []) c.self.view_is in
    elim c.if-not-is_empty.branch [
      | then-not-is_empty+in_ok-fill+in_ok-push w ↦
          rw (c.in_ok-push-2.ensures.items, w.self-inside-is, c.reserve.ensures.items, w.in_ok-push.ensures.ok, w.in_ok-fill.ensures.ok)
          (filled_more c.self.inside.changes.items c.self.inside.conditions _ c.args.change c.args.conditions.now c.self.invariant
          (ap (λ n. n - length c.self.inside.conditions) (w.len.ensures ∙ c.reserve.ensures.len ∙ c.self.inside.changes.ok.0)) ∙ behind)
      | else-not-is_empty w ↦
          let none : [] ≡ c.args.conditions.now = sym (nil_from_length c.args.conditions.now (eqb-true _ 0 (sym w.if-not-is_empty.ensures))) in
          (rw (c.in_ok-push-2.ensures.items, w.self-inside-is, c.reserve.ensures.items)
          (plain_more (c.args.change ∷ []) c.self.inside.changes.items c.self.inside.conditions c.self.invariant
          ∙ ap (λ d. effects_of c.self.inside.changes.items c.self.inside.conditions ++ effect_with c.args.change d ∷ []) none ∙ behind))
    ]
