-- The chain is found by its first operator, and the others as before.
use Rattle.sas_run.proofs.Imports.{◌≡◌, Some, sym, subst, ◌∙◌, inl, inr, cases_eq, same_Some, ne_eqb, unsigned_tied, nat_cmp, None, LongChain, IsLongChain}
use Rattle.std.specs.BTreeMap as tree
use Rattle.sas_run.proofs.long_chains.LongChains.add.Goals as goal

pub returns-in_ok-insert : goal.returns-in_ok-insert
returns-in_ok-insert g c = record {
  each = λ first chain is.
      let p = c.args.layered.now in
      let updates = c.in_ok-insert.ensures.updates in
      elim (cases_eq c.args.first first) [
        | inl same ↦
            let own : c.in_ok-chain.chain ≡ chain = same_Some c.in_ok-chain.chain chain (sym updates.1 ∙ subst (λ f. tree.get nat_cmp c.insert.new.self f ≡ Some chain) (sym same) is) in
            subst (λ (its : LongChain). IsLongChain p first its None) own (subst (λ f. IsLongChain p f c.in_ok-chain.chain None) same c.in_ok-chain.ensures)
        | inr apart ↦ c.requires.chains.each first chain (sym (updates.2 first (unsigned_tied c.args.first first ∙ ne_eqb c.args.first first apart)) ∙ is)
      ];
}
