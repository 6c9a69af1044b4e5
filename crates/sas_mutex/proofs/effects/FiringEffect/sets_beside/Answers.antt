-- The index contains all groups with the fact that the change sets.
use Rattle.sas_mutex.proofs.Imports.{iff_other, ap, ◌∙◌, Change, fact_of}
use Rattle.sas_mutex.proofs.effects.FiringEffect.sets_beside.Goals as goal

pub returns-then-self-change : goal.returns-then-self-change
returns-then-self-change g c =
    let exists = rw (← c.self.view_is) at c.requires.fact in
    let group = rw (← c.self.view_is) at c.requires.group in
    let has = rw c.fact.ensures at c.has.ensures in
    let in_group = c.self.invariant.1.groups (fact_of c.args.change) exists c.args.group in
    rw (← c.self.view_is) (iff_other has
    (λ among. record {
      beside = λ same. c.if-self-change.true (ap (λ (x : Change). x.var) c.self.invariant.4 ∙ same);
      has = (in_group.0 among).among;
    })
    (λ it. in_group.1 (record { exists = group; among = it.has })))
