-- An operator that has one of the names is stored.
use Rattle.std.proofs.lemmas.Grind.{elements}
use Rattle.sas_names.proofs.Imports.{◌≡◌, ℕ, ◌+◌, ◌-◌, ◌<◌, List, length, get_or, slice_set, Some, sym, ap, subst, ◌∙◌, arith, length-set, get_or_read, operator_at, value_of, step_names, existing}
use Rattle.sas_names.proofs.ChainsFrom.{AreChainsFrom, AreChainsFrom-pass, AreChainsFrom-step}
use Rattle.sas_names.proofs.step_operators.StepOperators.of_names.Goals as goal

pub loop-operator-preserved-in-Some : goal.loop-operator-preserved-in-Some
loop-operator-preserved-in-Some g c =
    let p = g.T.Grounded.says c.args.task.now in
    let l = c.loop-operator in
    let o = l.operator - 1 in
    let k = c.in-Some.number in
    let number = λ (name : List ℕ). value_of (step_names (g.P.Stepwise.says c.args.plan.now).steps) c.args.names.now.numbers name in
    let inv = l.invariant in
    let back : o + 1 ≡ l.operator = omega arith in
    let within : o < length p.operators = omega arith in
    let named : number (operator_at p o).name ≡ Some k = ap number (sym c.name.ensures) ∙ sym c.in-Some.ensures in
    let read : c.existing.result ≡ existing p (get_or l.firsts.items k 0) =
    c.existing.ensures ∙ ap (existing p) (get_or_read l.firsts.items k c.index.result.now (let below = c.requires.numbers.below (operator_at p o).name k named in omega (arith, inv.names)) c.index.ensures 0) in
    record {
      within = omega arith;
      names = length-set l.firsts.items k o ∙ inv.names;
      one_each = length-set l.nexts.items o c.existing.result ∙ inv.one_each;
      are = subst (λ v. AreChainsFrom p o number (slice_set l.firsts.items k o) (slice_set l.nexts.items o v)) (sym read)
          (AreChainsFrom-step p o number l.firsts.items l.nexts.items within
          (subst (λ n. AreChainsFrom p n number l.firsts.items l.nexts.items) (sym back) inv.are)
          (λ a b j x y. sym (c.requires.numbers.named a j x) ∙ c.requires.numbers.named b j y)
          (λ name j is. let below = c.requires.numbers.below name j is in omega (arith, inv.names))
          inv.one_each
          k
          named);
    }

pub index-requires : goal.index-requires
index-requires g c =
    omega (arith, c.requires.numbers.below _ c.in-Some.number (sym c.in-Some.ensures), c.loop-operator.invariant.names, c.loop-operator.firsts.ok.0)

pub index_mut-requires : goal.index_mut-requires
index_mut-requires g c = omega (arith, c.loop-operator.invariant.within, c.loop-operator.invariant.one_each, c.loop-operator.nexts.ok.0)

pub index_mut-requires-in-Some : goal.index_mut-requires-in-Some
index_mut-requires-in-Some g c =
    omega (arith, c.requires.numbers.below _ c.in-Some.number (sym c.in-Some.ensures), c.loop-operator.invariant.names, c.loop-operator.firsts.ok.0)

-- An operator that has none of the names is skipped.
pub loop-operator-preserved : goal.loop-operator-preserved
loop-operator-preserved g c =
    let l = c.loop-operator in
    let o = l.operator - 1 in
    let number = λ (name : List ℕ). value_of (step_names (g.P.Stepwise.says c.args.plan.now).steps) c.args.names.now.numbers name in
    let inv = l.invariant in
    let back : o + 1 ≡ l.operator = omega arith in
    record {
      within = omega arith;
      names = inv.names;
      one_each = inv.one_each;
      are = AreChainsFrom-pass (g.T.Grounded.says c.args.task.now) o number l.firsts.items l.nexts.items (omega arith)
          (subst (λ n. AreChainsFrom (g.T.Grounded.says c.args.task.now) n number l.firsts.items l.nexts.items) (sym back) inv.are)
          (ap number (sym c.name.ensures) ∙ sym c.in_default.ensures);
    }

pub returns : goal.returns
returns g c =
    let inv = c.loop-operator.invariant in
    record {
      one_each = inv.names;
      first = rw (let end : c.loop-operator.operator ≡ 0 = omega arith in end) at inv.are.lowest;
      next = λ operator k. inv.are.next operator k (omega (arith, c.loop-operator-test.false));
    }

pub loop-operator-init : goal.loop-operator-init
loop-operator-init g c = grind (arith, elements)
