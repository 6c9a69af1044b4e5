-- The rule fires, and the conditions on its variable are counted.
use Rattle.sas_axioms.proofs.Imports.{rules, Vec, Global, Parts, Work, IsRuleOn, WorkGoesOn, IsAtWork, vec_capacity, ◌≡◌, ◌≢◌, ℕ, List, IsFiring, subst, ◌∷◌, ◌++◌, [], get_or, set, refl, sym, ap, ◌∙◌, arith, rule_at, Change, differs_true}
use Rattle.sas_axioms.proofs.Counters.{with_stack, all_hold_when_none_open, counts_seen, goes_on_more, firing_as, fired_firing, fired_seen, fired_goes_on, fired_value}
use Rattle.sas_axioms.proofs.firing.fire_on.Goals as goal

-- taking a variable off the stack is no more work
unstacked : (t : Parts) (s0 : List ℕ) (w0 : Work) (s : List ℕ) (w : Work) (s' : List ℕ) (w' : Work) (stack : Vec ℕ Global) → WorkGoesOn t s0 w0 s w → WorkGoesOn t s w s' w' → WorkGoesOn t s0 w0 s' (with_stack w' stack)
unstacked t s0 w0 s w s' w' stack so_far more =
    let all = goes_on_more t s0 w0 s w s' w' so_far more in
    record { layer = all.layer; off = all.off; sources = all.sources; kept = all.kept; fired = all.fired }

popped : (t : Parts) (s xs : List ℕ) (w : Work) (stack : Vec ℕ Global) → vec_capacity stack ≡ vec_capacity w.stack → w.stack.items ≡ xs → IsAtWork t s w.stack.items w → IsAtWork t s xs (with_stack w stack)
popped t s xs w stack capacity is at = record { firing = firing_as t s xs w (with_stack w stack) refl refl refl (omega arith) (subst (λ (ys : List ℕ). IsFiring t s ys w) is at.firing); counts = rw is at at.counts }

-- the variable of the rule keeps its value
still_fired : (t : Parts) (s : List ℕ) (w : Work) (s' : List ℕ) (w' : Work) (layer k : ℕ) → IsRuleOn t layer k → get_or s (rule_at t k).var 0 ≡ (rule_at t k).new → WorkGoesOn t s w s' w' → get_or s' (rule_at t k).var 0 ≡ (rule_at t k).new
still_fired t s w s' w' layer k on fired more = more.kept (rule_at t k).var (differs_true t s (rule_at t k).var (λ e. on.can (sym fired ∙ e))) ∙ fired

pub loop-top-init : goal.loop-top-init
loop-top-init g c =
    let p = c.args.indexed.now in
    let s = c.args.state.now in
    let w = c.args.work.now in
    let k = c.args.rule in
    let rest = c.requires.at_rest in
    let valid = rw c.indexed.view_is at c.indexed.invariant in
    let hold = all_hold_when_none_open (λ v. get_or s v 0) (rule_at p k).conditions (sym (rest.at_work.counts w.layer k c.requires.rule) ∙ c.requires.none_open) in
    let read = rw c.indexed.view_is at c.rule_change-change.ensures in
    let changes : get_or s (rule_at p k).var 0 ≢ (rule_at p k).new = λ same.
    c.if-value-change.false (c.value.ensures ∙ (ap (λ (x : Change). get_or s x.var 0) read ∙ (same ∙ sym (ap (λ (x : Change). x.new) read)))) in
    let firing = subst (λ (xs : List ℕ). IsFiring p s xs w) (sym rest.empty) rest.at_work.firing in
    let var-is : c.fire-var.result ≡ (rule_at p k).var = rw c.indexed.view_is at c.fire-var.ensures.var in
    let state-is : c.fire-var.new.state ≡ set s c.fire-var.result (rule_at p k).new = rw c.indexed.view_is at c.fire-var.ensures.state in
    rw (c.fire-var.ensures.work, state-is, var-is) record {
      at_work = record {
        firing = fired_firing p s w k valid.ranged valid.layered firing c.requires.rule hold changes;
        counts = counts_seen p s (set s (rule_at p k).var (rule_at p k).new) w.stack.items (w.stack.items ++ (rule_at p k).var ∷ []) w.counters
            (fired_seen p s w k valid.ranged valid.layered firing c.requires.rule hold changes) (rw rest.empty rest.at_work.counts);
      };
      goes_on = fired_goes_on p s w k valid.ranged valid.layered firing c.requires.rule hold changes;
      fired = fired_value p s w k valid.ranged valid.layered firing c.requires.rule hold changes;
    }

pub loop-top-preserved : goal.loop-top-preserved
loop-top-preserved g c = record {
  at_work = popped c.args.indexed.now c.release.new.state (c.pop.new.self.items ++ c.in-Some.top ∷ []) c.release.new.work c.pop.new.self c.pop.ensures.capacity c.in-Some.ensures.items c.release.ensures.at_work;
  goes_on = unstacked c.args.indexed.now c.args.state.now c.args.work.now c.loop-top.state c.loop-top.work c.release.new.state c.release.new.work c.pop.new.self c.loop-top.invariant.goes_on c.release.ensures.goes_on;
  fired = still_fired c.args.indexed.now c.loop-top.state c.loop-top.work c.release.new.state c.release.new.work c.args.work.now.layer c.args.rule c.requires.rule c.loop-top.invariant.fired c.release.ensures.goes_on;
}

pub returns-in_default : goal.returns-in_default
returns-in_default g c =
    let is : c.pop.new.self.items ≡ [] = search rules in
    record {
      at_rest = record { at_work = popped c.args.indexed.now c.release.new.state [] c.release.new.work c.pop.new.self c.pop.ensures.capacity (c.in_default.ensures.items ∙ ap (λ (xs : List ℕ). xs ++ []) is) c.release.ensures.at_work; empty = is };
      goes_on = unstacked c.args.indexed.now c.args.state.now c.args.work.now c.loop-top.state c.loop-top.work c.release.new.state c.release.new.work c.pop.new.self c.loop-top.invariant.goes_on c.release.ensures.goes_on;
      fired = still_fired c.args.indexed.now c.loop-top.state c.loop-top.work c.release.new.state c.release.new.work c.args.work.now.layer c.args.rule c.requires.rule c.loop-top.invariant.fired c.release.ensures.goes_on;
    }
