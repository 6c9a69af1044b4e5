-- The list of a large operator and a variable contains all effects on the variable.
use Rattle.sas_mutex.proofs.Imports.{◌≡◌, ℕ, List, [], length, get_or, sym, ap, subst, ◌∙◌, arith, Contains, IsLarge, place_of}
use Rattle.sas_mutex.proofs.indexed.IndexedTask.effects_on.Goals as goal

pub returns-then-effects-gt-FEW_EFFECTS : goal.returns-then-effects-gt-FEW_EFFECTS
returns-then-effects-gt-FEW_EFFECTS g c =
    let operator = rw (← c.self.view_is) at c.requires in
    let p = c.self.inside.task.now in
    let lists = c.self.inside.index.now.effects in
    let large : IsLarge p c.args.operator = let more = c.if-effects-gt-FEW_EFFECTS.true in let count = c.effects.ensures in omega (arith, count) in
    let same : c.under.result.now ≡ get_or lists (place_of c.args.operator c.args.var (length lists)) [] =
    c.under.ensures ∙ ap (λ (place : ℕ). get_or lists place [])
    (c.place_of-place.ensures.is ∙ ap (λ (places : ℕ). place_of c.args.operator c.args.var places) c.len.ensures) in
    rw (← c.self.view_is) (λ effect lt on. subst (λ (effects : List ℕ). Contains effects effect) (sym same)
    (c.self.invariant.effects.are c.args.operator operator large c.args.var effect lt on))
