use Rattle.std.proofs.Common.{◌≡◌, ◌∙◌, ◌++◌, ◌&&◌, Some, true, ap, subst, sym, codes}
use Rattle.std.specs.Option.{option_copied}
use Rattle.sas_tool.specs.Endings.{Puts, is_about_input, line_of, name_text}
use Rattle.sas_tool.proofs.Putting.{error_is, puts_both}
use Rattle.sas_tool.proofs.endings.finish.Goals as goal

pub returns-then-is_about_input-clause-text : goal.returns-then-is_about_input-clause-text
returns-then-is_about_input-clause-text g c =
    let contents = g.E.Write.contents in
    let end = c.args.ended in
    let line = c.as_bytes.result.now in
    let said : line_of end ≡ Some line = sym c.status_and_line-status.ensures.line ∙ ap option_copied c.in-Some.is ∙ ap Some (sym c.as_bytes.ensures.value) in
    let about : c.args.why && is_about_input end ≡ true = ap (λ b. b && is_about_input end) c.if-why.true ∙ sym c.is_about_input.ensures ∙ c.if-is_about_input.true in
    subst (λ t. Puts contents t c.args.errors.now c.put_name.new.errors) (sym (error_is end c.args.why c.args.last.now line said about))
    (puts_both contents (line ++ codes "\n") (name_text c.args.last.now) _ _ _ c.put_line.ensures c.put_name.ensures)
