-- One operator more is collected.
use Rattle.sas_run.proofs.Imports.{◌+◌, ◌∙◌, sym, subst, None, IfSome, operator_at, IsNextNamed, Requires, IsIn, IsLongChain}
use Rattle.sas_run.proofs.Collecting.{next_in_chain, one_more}
use Rattle.sas_run.proofs.long_chains.LongChain.new.Goals as goal

pub loop-next-preserved : goal.loop-next-preserved
loop-next-preserved g c =
    let p = c.args.layered.now in
    let first = c.args.first in
    let operator = c.in-Some.operator in
    let l = c.loop-next.invariant in
    let in_chain : IsIn p first None operator = subst (λ n. IfSome n (IsIn p first None)) c.in-Some.is l.next in
    let is_next = subst (IsNextNamed p (operator_at p first).name (operator + 1)) (sym c.next_in-next.ensures) (c.requires.chain operator in_chain.1) in
    record {
      var = c.in_ok-push.ensures.var ∙ l.var;
      next = next_in_chain p first operator c.next_in-next.result in_chain is_next;
      chain = one_more p first operator c.next_in-next.result in_chain is_next c.loop-next.chain c.push.new.self c.required_value.result
          (subst (IsLongChain p first c.loop-next.chain) c.in-Some.is l.chain) c.in_ok-push.ensures
          (subst (λ v. Requires (operator_at p operator) v c.required_value.result) (sym l.var) c.required_value.ensures);
    }
