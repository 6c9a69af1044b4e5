use Rattle.sas_flat.proofs.Imports.{◌-◌, ◌++◌, length, ap, ◌∙◌, arith, nil_from_length, effects_of}
use Rattle.sas_flat.proofs.EffectRows.{effects_filled, filled_append, bare_append}
use Rattle.sas_flat.proofs.Kept.{on_any_error}
use Rattle.sas_flat.proofs.effects.Effects.append.Goals as goal
use Rattle.sas_flat.proofs.effects.Effects.append.Goals.{then-len-gt0+in_ok-fill+in_ok-append, else-len-gt0}

pub returns-in_err-append-clause-err : goal.returns-in_err-append-clause-err
returns-in_err-append-clause-err c =
    on_any_error c.from_residual-in_err-append.result
    (rw (c.reserve.ensures.items, c.in_err-append.ensures.err, c.in_ok-fill.ensures.ok)
    (effects_filled c.self.inside.changes.items c.self.inside.conditions _ ∙ c.self.view_is))

pub returns-clause-ok : goal.returns-clause-ok
returns-clause-ok c =
    let behind = ap (λ l. l ++ effects_of c.more.inside.changes.items c.more.inside.conditions) c.self.view_is
    ∙ ap (λ l. c.args.self.now ++ l) c.more.view_is in
    elim c.if-len-gt0.branch [
      | then-len-gt0+in_ok-fill+in_ok-append w ↦
          rw (c.in_ok-extend_from_slice.ensures.items, c.as_slice.ensures.value, w.self-inside-is, c.reserve.ensures.items, w.in_ok-append.ensures.ok, w.in_ok-fill.ensures.ok)
          (filled_append c.self.inside.changes.items c.more.inside.changes.items c.self.inside.conditions c.more.inside.conditions _ c.self.invariant
          (ap (λ n. n - length c.self.inside.conditions) (w.len-then-len-gt0.ensures ∙ c.reserve.ensures.len ∙ c.self.inside.changes.ok.0)) ∙ behind)
      | else-len-gt0 w ↦
          rw (c.in_ok-extend_from_slice.ensures.items, c.as_slice.ensures.value, w.self-inside-is, c.reserve.ensures.items)
          (bare_append c.self.inside.changes.items c.more.inside.changes.items c.self.inside.conditions c.more.inside.conditions c.self.invariant
          (nil_from_length c.more.inside.conditions (omega (arith, w.if-len-gt0.false, c.len-2.ensures))) ∙ behind)
    ]

pub returns-in_err-fill-clause-err : goal.returns-in_err-fill-clause-err
returns-in_err-fill-clause-err c =
    on_any_error c.from_residual-in_err-fill.result
    (ap (λ l. effects_of l c.fill.new.self) c.reserve.ensures.items
    ∙ ap (λ l. effects_of c.self.inside.changes.items l) c.in_err-fill.ensures.err ∙ c.self.view_is)
