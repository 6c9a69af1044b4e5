-- One more span is copied.
use Rattle.sas_meaning.proofs.Imports.{arith}
use Rattle.sas_meaning.proofs.Spans.{copied_none, one_copied, copied_all}
use Rattle.sas_meaning.proofs.state.copy_spans.Goals as goal

pub loop-span-init : goal.loop-span-init
loop-span-init c = copied_none c.args.spans.now c.args.other.now c.args.values.now

pub loop-span-preserved : goal.loop-span-preserved
loop-span-preserved c = search (arith, one_copied)

pub returns : goal.returns
returns c = copied_all c.args.spans.now c.args.other.now c.args.values.now c.loop-span.span-index c.loop-span.values (omega arith) c.loop-span.invariant
