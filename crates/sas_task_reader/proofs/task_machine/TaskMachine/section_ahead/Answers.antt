use Rattle.sas_task_reader.proofs.Imports.{ℕ, List, subst, SectionAhead}
use Rattle.sas_task_reader.proofs.SectionSteps.{section_kept, accepts}
use Rattle.sas_task_reader.proofs.task_machine.TaskMachine.section_ahead.Goals as goal

pub returns-clause-took : goal.returns-clause-took
returns-clause-took g c =
    let m = c.args.self.now in
    let bytes = c.args.bytes.now in
    let kept = c.in-Some-2.kept in
    let (a, ahead, keeps_on) = rw c.in-Some-2.is at c.in_ok-kept.ensures.took in
    let known = subst (λ (r : List ℕ). SectionAhead c.in-Some.section r bytes a kept) c.ranges-ranges.ensures ahead in
    accepts _ m _ c.keep_section.new.self bytes kept.front (section_kept _ m c.keep_section.new.self bytes kept c.in-Some.section a c.in-Some.ensures.some known keeps_on) c.pass_section.new.self _ c.in_ok-pass_section.ensures.ok
