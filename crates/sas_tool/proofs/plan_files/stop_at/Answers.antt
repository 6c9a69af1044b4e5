use Rattle.std.proofs.Common.{◌∙◌, ◌++◌, subst₂, codes}
use Rattle.sas_tool.specs.Endings.{Puts}
use Rattle.sas_tool.proofs.Putting.{puts_both}
use Rattle.sas_tool.proofs.plan_files.stop_at.Goals as goal

pub returns-clause-text : goal.returns-clause-text
returns-clause-text g c =
    subst₂ (λ a b. Puts g.E.Write.contents (a ++ (b ++ codes "\n")) c.args.errors.now c.put_line.new.errors) (c.as_bytes.ensures.value ∙ c.words_of.ensures) c.label_at.ensures
    (puts_both g.E.Write.contents c.as_bytes.result.now (c.label_at.result.now ++ codes "\n") _ _ _ c.put.ensures c.put_line.ensures)
