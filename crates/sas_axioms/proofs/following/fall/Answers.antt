-- The rules are removed one by one: each resets its variable or becomes ready.
use Rattle.sas_axioms.proofs.Imports.{◌≡◌, ◌⊎◌, ℕ, ◌<◌, true, ◌∷◌, [], length, get_or, set, refl, sym, ap, subst, ◌∙◌, inl, inr, arith, All, Contains, heap_items, length-append, Change, rule_at, IsState, default_of, differs, on_layer_within, state_set, differs_not, Agenda, work_left, IsFalling, IsRuleOn, IsHolding}
use Rattle.sas_axioms.proofs.RulesOf.{rules_on, rule_under}
use Rattle.sas_axioms.proofs.FallingSteps.{falling_passed, falling_fell, risen_from_fallen, fallen_is, less_in_the_end}
use Rattle.sas_axioms.proofs.Tracking.{awaited_on, holding_when_zero, off_step}
use Rattle.sas_axioms.proofs.SetVariables.{adds_none, adds_one}
use Rattle.sas_axioms.proofs.following.fall.Goals as goal
use Rattle.sas_axioms.proofs.following.fall.Given.{Over}
use Rattle.sas_axioms.proofs.following.fall.Goals.{In-Some}

pub take-requires : goal.take-requires
take-requires g c = let track = (c.loop-rule.invariant.falling c.requires.falling.0 c.requires.falling.1).track in record { ordered = track.ordered; lowest = track.from }

-- what held before
some : (g : Over) (c : In-Some g) → IsFalling c.args.indexed.now c.requires.falling.0 c.loop-rule.state c.loop-rule.work
some g c = c.loop-rule.invariant.falling c.requires.falling.0 c.requires.falling.1

on : (g : Over) (c : In-Some g) → IsRuleOn c.args.indexed.now c.loop-rule.work.layer c.in-Some.rule
on g c = awaited_on c.args.indexed.now c.loop-rule.work.layer c.in-Some.rule c.loop-rule.state c.loop-rule.work (some g c).track c.in-Some.ensures.some.was

within : (g : Over) (c : In-Some g) → (rule_at c.args.indexed.now c.in-Some.rule).var < length c.args.indexed.now.variables
within g c = on_layer_within c.args.indexed.now c.loop-rule.work.layer (rule_at c.args.indexed.now c.in-Some.rule).var (on g c).on

pub has_lost-requires : goal.has_lost-requires
has_lost-requires g c = rw c.indexed.view_is record { rule = (c.loop-rule.work.layer, on g c); state = c.loop-rule.invariant.state; counters = (some g c).track.counts.one_each; places = (some g c).track.places }

pub rule_change-var-requires : goal.rule_change-var-requires
rule_change-var-requires g c = rw c.indexed.view_is (on g (goal.at.rule_change-var-requires g c).In-Some).exists

pub initial_value-value-requires : goal.initial_value-value-requires
initial_value-value-requires g c = rw (c.indexed.view_is, ap (λ (x : Change). x.var) (rw c.indexed.view_is at c.rule_change-var.ensures)) (within g (goal.at.initial_value-value-requires g c).In-Some)

pub set_to-requires : goal.set_to-requires
set_to-requires g c =
    let read = rw c.indexed.view_is at c.rule_change-var.ensures in
    record {
      counts = (some g (goal.at.set_to-requires g c).In-Some).track.counts;
      ordered = rw c.in_ok-make_ready.ensures.noted c.in-Some.ensures.some.ordered;
      exists = rw (ap (λ (x : Change). x.var) read) (within g (goal.at.set_to-requires g c).In-Some);
      other = λ same. differs_not c.args.indexed.now c.loop-rule.state (rule_at c.args.indexed.now c.in-Some.rule).var ((rw c.indexed.view_is at c.has_lost.ensures).yes c.if-has_lost.true)
          (ap (λ (x : Change). get_or c.loop-rule.state x.var 0) (sym read) ∙ (same ∙ ((rw c.indexed.view_is at c.initial_value-value.ensures) ∙ ap (λ (x : Change). default_of c.args.indexed.now x.var) read)));
    }

pub get-requires : goal.get-requires
get-requires g c = rw (ap (λ (x : Change). x.var) (rw c.indexed.view_is at c.rule_change-var.ensures)) (omega (arith, within g (goal.at.get-requires g c).In-Some, (rw c.indexed.view_is at c.indexed.invariant).all.one_each))

-- less is left than there was, where less is left than before
less : (a a0 a' : Agenda) → (work_left a < work_left a0) ⊎ (a ≡ a0) → work_left a' < work_left a → work_left a' < work_left a0
less a a0 a' h1 more = search (arith, work_left)

pub returns-clause-rising : goal.returns-clause-rising
returns-clause-rising g c s falling =
    let same = c.in_default.ensures.same in
    rw same (risen_from_fallen c.args.indexed.now s c.loop-rule.state c.loop-rule.work (c.loop-rule.invariant.falling s falling) (rw same at c.in_default.ensures.none))

pub loop-rule-preserved-in-Continue-branch-2 : goal.loop-rule-preserved-in-Continue-branch-2
loop-rule-preserved-in-Continue-branch-2 g c =
    let p = c.args.indexed.now in
    let inv = c.loop-rule.invariant in
    let i = (goal.at.loop-rule-preserved-in-Continue-branch-2 g c).In-Some in
    let s = c.loop-rule.state in
    let rule = c.in-Some.rule in
    let work = c.loop-rule.work in
    let b = some g i in
    let is = on g i in
    let var_is = ap (λ (x : Change). x.var) (rw c.indexed.view_is at c.rule_change-var.ensures) in
    let state_is : c.set_to.new.state ≡ set s (rule_at p rule).var (default_of p (rule_at p rule).var) =
    fallen_is p s c.set_to.new.state rule c.initial_value-value.result c.rule_change-var.result (rw c.indexed.view_is at c.rule_change-var.ensures) (rw c.indexed.view_is at c.initial_value-value.ensures) c.in_ok-set_to.ensures.state in
    let state : IsState p.variables (set s (rule_at p rule).var (default_of p (rule_at p rule).var)) =
    state_set p s (rule_at p rule).var (default_of p (rule_at p rule).var) b.track.state ((rw c.indexed.view_is at c.indexed.invariant).ranged.init.in_range (rule_at p rule).var (within g i)) in
    let moves = rw (var_is, state_is) at c.in_ok-set_to.ensures.moves in
    let all : All (λ (r : ℕ). IsRuleOn p work.layer r) c.get.result.now = rw (c.get.ensures, var_is) (rules_on p c.indexed.inside.setting.now (rw c.indexed.view_is at c.indexed.invariant).all work.layer (rule_at p rule).var is.on) in
    let each : (other : ℕ) → IsRuleOn p work.layer other → (rule_at p other).var ≡ (rule_at p rule).var → Contains c.get.result.now other =
    λ other on e. rw (c.get.ensures, var_is) (subst (λ v. Contains (get_or c.indexed.inside.setting.now v []) other) e (rule_under p c.indexed.inside.setting.now (rw c.indexed.view_is at c.indexed.invariant).all work.layer other on)) in
    rw state_is record {
      same = record { layer = c.set_to.ensures.same.layer ∙ inv.same.layer; stack = c.set_to.ensures.same.stack ∙ inv.same.stack; one_each = c.set_to.ensures.same.one_each ∙ inv.same.one_each; sources = c.set_to.ensures.same.sources ∙ inv.same.sources };
      state = state;
      off = off_step p c.args.work.now.layer work.layer c.args.state.now s (set s (rule_at p rule).var (default_of p (rule_at p rule).var)) (rule_at p rule).var (default_of p (rule_at p rule).var) inv.same.layer inv.off is.on refl;
      falling = λ s0 falling. falling_fell p s0 s rule work _ c.make_ready.new.agenda c.set_to.new.work c.get.result.now (rw c.indexed.view_is at c.indexed.invariant).layered (inv.falling s0 falling) c.in-Some.ensures.some
          (omega (arith, within g i, b.track.state.one_each)) state c.in_ok-make_ready.ensures c.set_to.ensures.same moves all each;
      changed = rw (c.in_ok-set_to.ensures.changed, var_is)
          (adds_one p c.args.state.now s c.args.changed.now.items c.loop-rule.changed.items (rule_at p rule).var (default_of p (rule_at p rule).var) (within g i) inv.changed);
      left = inl (less work.agenda c.args.work.now.agenda c.set_to.new.work.agenda inv.left (let a = c.in-Some.ensures.left in let d = moves.left in let e = c.in_ok-make_ready.ensures.left in omega arith));
    }

pub loop-rule-preserved : goal.loop-rule-preserved
loop-rule-preserved g c =
    let p = c.args.indexed.now in
    let i = (goal.at.loop-rule-preserved g c).In-Some in
    let inv = c.loop-rule.invariant in
    let s = c.loop-rule.state in
    let rule = c.in-Some.rule in
    let work = c.loop-rule.work in
    let holds : get_or work.sources (rule_at p rule).var 0 ≡ rule → differs p s (rule_at p rule).var ≡ true → IsHolding p s rule = λ source d.
    holding_when_zero p work.layer rule s work.counters (some g i).track.counts (on g i) ((rw c.indexed.view_is at c.has_lost.ensures).no c.if-has_lost.false source d) in
    record {
      same = record { layer = inv.same.layer; stack = inv.same.stack; one_each = inv.same.one_each; sources = inv.same.sources };
      state = inv.state;
      off = inv.off;
      falling = λ s0 falling. falling_passed p s0 s rule work _ _ (inv.falling s0 falling) c.in-Some.ensures.some holds c.in_ok-make_ready-2.ensures;
      changed = inv.changed;
      left = inl (less work.agenda c.args.work.now.agenda c.make_ready-else-has_lost.new.self inv.left
          (let a = c.in-Some.ensures.left in let made = c.in_ok-make_ready-2.ensures in
          let r = ap length made.ready in let l = length-append c.take.new.self.ready.items (rule ∷ []) in let n = ap (λ h. length (heap_items h)) made.noted in let m = made.left in omega arith));
    }

pub returns-clause-left : goal.returns-clause-left
returns-clause-left g c = less_in_the_end c.args.work.now.layer c.requires.noted.0 c.args.work.now.agenda c.take.new.self c.requires.noted.1 (rw c.loop-rule.invariant.same.layer at c.in_default.ensures.none) (rw c.in_default.ensures.same c.loop-rule.invariant.left)

pub returns-in_err-set_to-clause-state : goal.returns-in_err-set_to-clause-state
returns-in_err-set_to-clause-state g c = rw c.in_err-set_to.ensures.unchanged c.loop-rule.invariant.state

pub returns-in_err-set_to-clause-off : goal.returns-in_err-set_to-clause-off
returns-in_err-set_to-clause-off g c = rw c.in_err-set_to.ensures.unchanged c.loop-rule.invariant.off

pub loop-rule-smaller-in-Continue-branch-2 : goal.loop-rule-smaller-in-Continue-branch-2
loop-rule-smaller-in-Continue-branch-2 g c = search (arith)

pub loop-rule-smaller : goal.loop-rule-smaller
loop-rule-smaller g c = search (arith, length, length-append, heap_items)

pub loop-rule-init : goal.loop-rule-init
loop-rule-init g c = record { same = record { layer = refl; stack = refl; one_each = refl; sources = refl }; state = c.requires.falling.1.track.state; off = λ v off. refl; falling = λ s falling. falling; changed = adds_none _ _ _; left = inr refl }
