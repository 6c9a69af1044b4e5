-- One more group has more than one fact, or it hasn't.
use Rattle.sas_mutex.proofs.Imports.{List, ℕ, ◌<◌, ◌∷◌, [], ◌++◌, length, get_or, take, sym, subst, arith, ◌≡◌, take_more, take_all, AreLarger, facts_at, common_steps}
use Rattle.sas_mutex.proofs.Larger.{larger_more, larger_without}
use Rattle.sas_mutex.proofs.by_fact.larger_among.Goals as goal
use Rattle.sas_mutex.proofs.by_fact.larger_among.Goals.{then-group-groups+then-facts_of-gt1+in_ok-push, else-group-groups}

pub loop-group-preserved : goal.loop-group-preserved
loop-group-preserved g c =
    let p = c.args.layered.now in
    let own = c.args.own.now in
    let groups = c.args.groups.now in
    let index = c.loop-group.group-index in
    let group = get_or groups index 0 in
    let before = c.loop-group.larger.items in
    let inv = c.loop-group.invariant in
    subst (λ (xs : List ℕ). AreLarger p own xs c.if-group-groups.larger.items) (sym (take_more groups index 0 c.loop-group-test.true))
    (elim c.if-group-groups.branch [
      | then-group-groups+then-facts_of-gt1+in_ok-push w ↦
          (let now : c.if-group-groups.larger.items ≡ before ++ group ∷ [] = grind (arith, common_steps) in
          let exists : group < length p.groups = grind (arith, common_steps) in
          let more : 1 < length (facts_at p own group) = grind (arith, common_steps) in
          subst (AreLarger p own (take index groups ++ group ∷ [])) (sym now) (larger_more p own (take index groups) before group inv exists more))
      | else-group-groups w ↦
          (let now : c.if-group-groups.larger.items ≡ before = grind (arith, common_steps) in
          subst (AreLarger p own (take index groups ++ group ∷ [])) (sym now) (larger_without p own (take index groups) before group inv (grind (arith, common_steps))))
    ])

pub returns : goal.returns
returns g c =
    subst (λ (xs : List ℕ). AreLarger c.args.layered.now c.args.own.now xs c.loop-group.larger.items)
    (take_all c.loop-group.group-index c.args.groups.now (omega (arith, c.loop-group-test.false))) c.loop-group.invariant
