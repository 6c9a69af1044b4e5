-- The record of the fact's variable decides whether the fact clashes.
use Rattle.sas_mutex.proofs.Imports.{length, inl, inr, None, both_ways, iff_from, iff_other, iff_not, ◌≡◌, ◌≢◌, ap, subst, sym, ◌∙◌, arith, common_steps, Some, value_note, EffectPlace}
use Rattle.sas_mutex.proofs.Existing.{variable_below}
use Rattle.sas_mutex.proofs.FromNotes.{IsFiring, other_value_clashes, noted_no_clash, apart_clashes, beside_clashes, clash_shares, apart_or_beside}
use Rattle.sas_mutex.proofs.effects.FiringEffect.clashes.Goals as goal

pub returns-then-shares_beside : goal.returns-then-shares_beside
returns-then-shares_beside g c =
    let fits = subst (λ (f : EffectPlace). IsFiring f c.self.inside.index.now c.self.inside.change) c.self.view_is c.self.invariant in
    let none : value_note c.args.recorded.now.known.values c.args.fact.var ≡ None = ap (λ vs. value_note vs c.args.fact.var) (sym c.as_slice.ensures) ∙ c.in-None.is in
    iff_from
    (λ t. (let (known, among, _, share) = c.shares_beside.ensures.0 t in
    beside_clashes c.args.self.now c.self.inside.index.now fits c.args.kept.now c.args.recorded.now c.requires.notes c.args.fact c.requires.fact none known among share))
    (λ f. absurd (both_ways _ f c.if-shares_beside.true))

pub returns-else-shares_beside : goal.returns-else-shares_beside
returns-else-shares_beside g c =
    let fits = subst (λ (f : EffectPlace). IsFiring f c.self.inside.index.now c.self.inside.change) c.self.view_is c.self.invariant in
    let none : value_note c.args.recorded.now.known.values c.args.fact.var ≡ None = ap (λ vs. value_note vs c.args.fact.var) (sym c.as_slice.ensures) ∙ c.in-None.is in
    iff_other c.shares_apart.ensures
    (apart_clashes c.args.self.now c.self.inside.index.now fits c.args.kept.now c.args.recorded.now c.requires.notes c.args.fact c.requires.fact none)
    (λ clash. (let shares = clash_shares c.args.self.now c.self.inside.index.now fits c.args.kept.now c.args.recorded.now c.requires.notes c.args.fact c.requires.fact none clash in
    elim (apart_or_beside c.args.self.now c.self.inside.index.now fits c.args.kept.now c.args.recorded.now c.requires.notes c.args.fact c.requires.fact none shares.0 shares.1 shares.2) [
      | inl apart ↦ apart
      | inr beside ↦ absurd (iff_not c.shares_beside.ensures c.if-shares_beside.false beside)
    ]))

pub returns-in-Some : goal.returns-in-Some
returns-in-Some g c =
    let there : value_note c.args.recorded.now.known.values c.args.fact.var ≡ Some c.in-Some.value = ap (λ vs. value_note vs c.args.fact.var) (sym c.as_slice.ensures) ∙ c.in-Some.is in
    let fits = subst (λ (f : EffectPlace). IsFiring f c.self.inside.index.now c.self.inside.change) c.self.view_is c.self.invariant in
    iff_from
    (λ t. (let differs : c.in-Some.value ≢ c.args.fact.value = grind (arith, common_steps) in
    other_value_clashes c.args.self.now c.self.inside.index.now fits c.args.kept.now c.args.recorded.now c.requires.notes c.args.fact c.requires.fact (c.in-Some.value, there, differs)))
    (λ t. (let same : c.in-Some.value ≡ c.args.fact.value = grind (arith, common_steps) in
    noted_no_clash c.args.self.now c.self.inside.index.now fits c.args.kept.now c.args.recorded.now c.requires.notes c.args.fact c.requires.fact (there ∙ ap (λ x. Some x) same)))

pub bounds : goal.bounds
bounds g c = omega (arith, variable_below c.args.self.now.task c.args.fact c.requires.fact, c.requires.notes.noted.from.known.wide.variables, ap length c.as_slice.ensures)

pub bounds-as_slice-fact : goal.bounds-as_slice-fact
bounds-as_slice-fact g c = omega (arith, variable_below c.args.self.now.task c.args.fact c.requires.fact, c.requires.notes.noted.from.known.wide.variables, ap length c.as_slice.ensures)
