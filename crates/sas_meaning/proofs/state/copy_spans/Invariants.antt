-- The spans so far are copied.
use Rattle.sas_meaning.proofs.Spans.{CopiedTo}
use Rattle.sas_meaning.proofs.state.copy_spans.Given as goal

abbrev pub invariant-loop-span : goal.invariant-loop-span
invariant-loop-span l = CopiedTo l.spans l.other l.fn.values l.span-index l.values
