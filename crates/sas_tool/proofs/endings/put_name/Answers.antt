use Rattle.std.proofs.Common.{◌∙◌, ◌++◌, ap, subst, sym, codes}
use Rattle.sas_answers.specs.Shown.{shown_name}
use Rattle.sas_tool.specs.Endings.{Puts, name_text}
use Rattle.sas_tool.specs.Sources.{source_name}
use Rattle.sas_tool.proofs.Putting.{puts_both}
use Rattle.sas_tool.proofs.endings.put_name.Goals as goal

pub returns-in-Some : goal.returns-in-Some
returns-in-Some g c =
    let contents = g.E.Write.contents in
    let name = shown_name (source_name c.in-Some.source) in
    let line = subst (λ l. Puts contents (l ++ codes "\n") c.put.new.errors c.put_line.new.errors) (c.show_name-end.ensures.front ∙ ap shown_name c.name.ensures) c.put_line.ensures in
    subst (λ s. Puts contents (name_text s) c.args.errors.now c.put_line.new.errors) (sym c.in-Some.is) (puts_both contents (codes "  ") (name ++ codes "\n") _ _ _ c.put.ensures line)
