-- One more list has those of its groups that have more than one fact.
use Rattle.sas_mutex.proofs.Imports.{◌≡◌, ℕ, ◌+◌, ◌∷◌, ◌++◌, List, length, [], sym, subst, ap, arith, ◌∙◌, inl, inr, cases_eq, cases_lt, get_or_push, get_or_append_left, get_or-eq_default, length_push, AreLarger, under}
use Rattle.sas_mutex.proofs.Larger.{larger_of_none}
use Rattle.sas_mutex.proofs.by_fact.larger_of_each.Goals as goal

pub loop-key-preserved : goal.loop-key-preserved
loop-key-preserved g c =
    let p = c.args.layered.now in
    let own = c.args.own.now in
    let groups = c.args.groups.now in
    let at = c.loop-key.key in
    let before = c.loop-key.larger in
    let its = c.as_slice.result.now in
    let inv = c.loop-key.invariant in
    let now : c.push.new.self ≡ before ++ its ∷ [] = c.in_ok-push.ensures.ok in
    let here : AreLarger p own (under groups at) its = subst (AreLarger p own (under groups at)) (sym c.as_slice.ensures.value)
    (subst (λ (gs : List ℕ). AreLarger p own gs c.in_ok-those.those.items) c.get.ensures c.in_ok-those.ensures) in
    record {
      as_many = ap length now ∙ (length_push before its ∙ ap (λ n. n + 1) inv.as_many);
      are = λ key lt. subst (λ (lists : List (List ℕ)). AreLarger p own (under groups key) (under lists key)) (sym now) (elim (cases_eq key at) [
        | inl e ↦ subst (AreLarger p own (under groups key)) (sym (get_or_push before its [] key (inv.as_many ∙ sym e)))
            (subst (λ n. AreLarger p own (under groups n) its) (sym e) here)
        | inr ne ↦ subst (AreLarger p own (under groups key)) (sym (get_or_append_left before (its ∷ []) [] key (let m = inv.as_many in omega arith)))
            (inv.are key (omega arith))
      ]);
    }

pub returns : goal.returns
returns g c key =
    let p = c.args.layered.now in
    let own = c.args.own.now in
    let groups = c.args.groups.now in
    let larger = c.loop-key.larger in
    let inv = c.loop-key.invariant in
    elim (cases_lt key (length groups)) [
      | inl lt ↦ inv.are key (omega (arith, c.loop-key-test.false, c.len-key-end.ensures))
      | inr ge ↦ subst (λ (gs : List ℕ). AreLarger p own gs (under larger key)) (sym (get_or-eq_default groups [] ge))
          (subst (AreLarger p own []) (sym (get_or-eq_default larger [] (omega (arith, ge, inv.as_many, c.loop-key.auto.key-end, c.len-key-end.ensures)))) (larger_of_none p own))
    ]
