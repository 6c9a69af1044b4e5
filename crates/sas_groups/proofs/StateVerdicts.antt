-- What verdicts on groups say about states, here and in Fast Downward's search.
use Rattle.sas_groups.proofs.Imports.{ℕ, List, get_or, sym, ◌∙◌, All-contains, Contains, Fact, group_at, Holds, IsBasic, IsInitial, Initial, initial_exists, no_more, IsExclusiveIn, InitialIsNoInvariant, InvariantInFastDownward, ExclusiveInFastDownward}
use Rattle.sas_groups.proofs.Invariance.{exclusive_jointly_is_invariant}

pub initial_is_no_invariant : InitialIsNoInvariant
initial_is_no_invariant p place ranged layered verdict invariant = verdict.1 exclusive
  where
    initial : (s : List ℕ) × IsInitial p s
    initial = initial_exists p ranged layered

    holds : (f : Fact) → Contains (group_at p place) f → Holds (λ v. get_or p.init v 0) f → Holds (λ v. get_or initial.0 v 0) f
    holds f among is = sym (initial.1.basic f.var (All-contains (λ (x : Fact). IsBasic p x.var) (group_at p place) f verdict.0 among)) ∙ is

    exclusive : IsExclusiveIn p.init (group_at p place)
    exclusive f g in_f in_g is_f is_g = invariant initial.0 (Initial initial.1) f g in_f in_g (holds f in_f is_f) (holds g in_g is_g)

pub invariant_there : InvariantInFastDownward
invariant_there p group s layered agree invariant reachable = invariant s (no_more p s layered agree reachable)

pub exclusive_there : ExclusiveInFastDownward
exclusive_there p place s layered agree verdict = invariant_there p (group_at p place) s layered agree (exclusive_jointly_is_invariant p place verdict)
