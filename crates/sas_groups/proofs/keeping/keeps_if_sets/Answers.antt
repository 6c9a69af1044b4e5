-- The effect sets a fact of the group, or doesn't.
use Rattle.sas_groups.proofs.Imports.{◌≡◌, sym, subst, All-contains, Contains, Contains-get_or, both_ways, get_or, effect_at, operator_at, sets, Alone, IsGone}
use Rattle.sas_groups.proofs.Effects.{set_is}
use Rattle.sas_groups.proofs.Iff.{iff_yes, iff_other, iff_not}
use Rattle.sas_groups.proofs.keeping.keeps_if_sets.Goals as goal
use Rattle.sas_groups.proofs.keeping.keeps_if_sets.Given.{Over}
use Rattle.sas_groups.proofs.keeping.keeps_if_sets.Goals.{After-contains}

-- the fact that the effect sets
same : (g : Over) (c : After-contains g) → c.fact.result ≡ sets (effect_at (operator_at c.args.task.now c.args.operator) c.args.effect)
same g c = set_is (effect_at (operator_at c.args.task.now c.args.operator) c.args.effect) c.effect_change.result c.fact.result c.effect_change.ensures c.fact.ensures

pub returns-then-not-contains : goal.returns-then-not-contains
returns-then-not-contains g c = iff_yes (λ has. absurd (iff_not c.contains.ensures c.if-not-contains.true (subst (Contains c.args.group.now) (sym (same g (goal.at.returns-then-not-contains g c).After-contains)) has)))

pub returns-then-is_single : goal.returns-then-is_single
returns-then-is_single g c =
    let group = c.args.group.now in
    let e = effect_at (operator_at c.args.task.now c.args.operator) c.args.effect in
    let has : Contains group (sets e) = subst (Contains group) (same g (goal.at.returns-then-is_single g c).After-contains) (c.contains.ensures.0 c.if-not-contains.false) in
    iff_other c.removes_all.ensures
    (λ gone _. record { single = c.is_single.ensures.0 c.if-is_single.true; others = λ f among. All-contains (IsGone (Alone group) (operator_at c.args.task.now c.args.operator) e) group f gone among })
    (λ keeps k d lt. (keeps has).others (get_or group k d) (Contains-get_or group k d lt))

pub returns-else-is_single : goal.returns-else-is_single
returns-else-is_single g c = (
  λ t. absurd (both_ways c.is_single.result c.if-is_single.false t),
  λ keeps. c.is_single.ensures.1 (keeps (subst (Contains c.args.group.now) (same g (goal.at.returns-else-is_single g c).After-contains) (c.contains.ensures.0 c.if-not-contains.false))).single,
)
