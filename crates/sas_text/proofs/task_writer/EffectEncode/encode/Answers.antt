use Rattle.sas_text.proofs.Imports.{ℕ, ◌++◌, ap, ◌∙◌, decimal}
use Rattle.sas_text.proofs.TaskTexts.{effect_on_ok}
use Rattle.sas_text.proofs.task_writer.EffectEncode.encode.Goals as goal

pub returns : goal.returns
returns c =
    let count = c.in_ok-push_number.ensures.ok ∙ ap (λ (n : ℕ). c.args.out.now.items ++ decimal n) c.len.ensures in
    effect_on_ok _ _ _ _ _ _ c.args.self.now count c.in_ok-push.ensures.items c.in_ok-encode_conditions.ensures c.push_head.ensures
