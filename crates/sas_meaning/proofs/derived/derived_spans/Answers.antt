-- One more variable.
use Rattle.sas_meaning.proofs.Imports.{arith}
use Rattle.sas_meaning.proofs.Spans.{spans_none, spans_past, spans_on, spans_end, spans_all}
use Rattle.sas_meaning.proofs.derived.derived_spans.Goals as goal
use Rattle.sas_meaning.proofs.derived.derived_spans.Goals.{then-is_basic, else-is_basic+then-is_basic-2+in_ok-push, else-is_basic+else-is_basic-2}

pub loop-var-init : goal.loop-var-init
loop-var-init g c = rw c.new-spans.ensures.items (spans_none c.args.task.now)

pub loop-var-preserved : goal.loop-var-preserved
loop-var-preserved g c =
    let p = c.args.task.now in
    let start = c.loop-var.start in
    let var = c.loop-var.var in
    let spans = c.loop-var.spans.items in
    let inv = c.loop-var.invariant in
    elim c.if-is_basic.branch [
      | then-is_basic w ↦ rw (w.start-is, w.spans-is) (spans_past p start var spans inv (c.is_basic.ensures.yes w.if-is_basic.true))
      | else-is_basic+then-is_basic-2+in_ok-push w ↦ rw (w.start-is, w.spans-is, w.in_ok-push.ensures.items) (spans_end p start var spans inv (c.is_basic.ensures.no w.if-is_basic.false))
      | else-is_basic+else-is_basic-2 w ↦ rw (w.start-is, w.spans-is)
          (spans_on p start var spans inv (c.is_basic.ensures.no w.if-is_basic.false) (w.is_basic-else-is_basic.ensures.no w.if-is_basic-2.false))
    ]

pub returns : goal.returns
returns g c = spans_all c.args.task.now c.loop-var.start c.loop-var.var c.loop-var.spans.items c.loop-var.invariant (omega arith)
