-- The operators before the next one are collected.
use Rattle.sas_run.proofs.Imports.{◌≡◌, IfSome, None, IsIn, IsLongChain}
use Rattle.sas_run.proofs.Searching.{left}
use Rattle.sas_run.proofs.long_chains.LongChain.new.Given as goal

abbrev pub invariant-loop-next : goal.invariant-loop-next
invariant-loop-next g l = record {
  var : l.chain.var ≡ l.var;
  next : IfSome l.next (IsIn l.layered l.first None);
  chain : IsLongChain l.layered l.first l.chain l.next;
}

abbrev pub decreases-loop-next : goal.decreases-loop-next
decreases-loop-next g l = left l.layered l.next
