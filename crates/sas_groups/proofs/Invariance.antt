-- Groups that every operator keeps stay exclusive, by induction over the reachable states, for
-- any set of assumed groups.
use Rattle.sas_groups.proofs.Imports.{◌≡◌, ◌≢◌, ℕ, Bool, List, [], ◌∷◌, ◌++◌, get_or, refl, sym, ◌∙◌, ap, subst, inl, inr, cases_eq, All-nil, All-cons, All-append, All-contains, All, Contains, Fact, Effect, Operator, Parts, Holds, AllHold, IsBasic, preconditions, Fires, Step, IsInitial, Reachable, Initial, Next, SetBy, Untouched, set_or_kept, arith, rules, common_steps, Clash, sets, Keeps, IsExclusiveIn, MayBeExclusive, IsGroupOf, AllKeep, IsKeptJointly, JointlyKeptIsInvariant, ExclusiveAloneIsInvariant, ExclusiveJointlyIsInvariant, fact_same}

-- each group that counts may be exclusive, and every operator keeps it under those that count
pub record AreKept (p : Parts) (Counts : List Fact → Type 0) : Type 0 where
  pub may : (group : List Fact) → Counts group → MayBeExclusive p group
  pub kept : (group : List Fact) → Counts group → AllKeep p Counts group

module _ (p : Parts) (Counts : List Fact → Type 0) (are_kept : AreKept p Counts) where
  abbrev Exclusive : List ℕ → Type 0
  Exclusive s = (group : List Fact) → Counts group → IsExclusiveIn s group

  -- facts that all hold don't clash
  no_clash : (s : List ℕ) (facts : List Fact) → Exclusive s → AllHold (λ v. get_or s v 0) facts → Clash Counts facts → ⊥
  no_clash s facts exclusive hold (f, g, in_f, in_g, why) = grind (arith, common_steps, All-contains)

  basic_of : (group : List Fact) (f : Fact) → Counts group → Contains group f → IsBasic p f.var
  basic_of group f counts here = All-contains (λ (x : Fact). IsBasic p x.var) group f (are_kept.may group counts).basic here

  initially : (s : List ℕ) → IsInitial p s → Exclusive s
  initially s start group counts f g in_f in_g hf hg = grind (arith, common_steps, basic_of)

  module _ (s s' : List ℕ) (o : Operator) (is : Contains p.operators o) (step : Step p s o s') (before : Exclusive s) (group : List Fact) (counts : Counts group) where
    keeps : Keeps Counts o group
    keeps = All-contains (λ (x : Operator). Keeps Counts x group) p.operators o (are_kept.kept group counts) is

    -- the effect that sets a variable sets the fact on it that holds afterwards
    sets_it : (f : Fact) (e : Effect) → Contains o.effects e → Fires s e → e.var ≡ f.var → get_or s' f.var 0 ≡ f.value → sets e ≡ f
    sets_it f e in_e fires on hf = fact_same (sets e) f on (sym (All-contains (λ (x : Effect). Fires s x → get_or s' x.var 0 ≡ x.new) o.effects e step.set in_e fires) ∙ (ap (λ v. get_or s' v 0) on ∙ hf))

    -- no fact of the group stays while an effect sets another
    no_mix : (f g : Fact) → Contains group f → Contains group g → f.var ≢ g.var → get_or s f.var 0 ≡ f.value → get_or s' f.var 0 ≡ f.value → get_or s' g.var 0 ≡ g.value → SetBy s o.effects g.var → ⊥
    no_mix f g in_f in_g ne was hf hg w = elim (keeps.others w.effect f w.among (subst (λ x. Contains group x) (sym (sets_it g w.effect w.among w.fires w.on hg)) in_g) in_f (λ e. ne (sym e ∙ w.on))) [
      | inl clash ↦ no_clash s (preconditions o ++ w.effect.conditions ++ f ∷ []) before all clash
      | inr d ↦ d.removes.other (sym (All-contains (λ (x : Effect). Fires s x → get_or s' x.var 0 ≡ x.new) o.effects d.effect step.set d.among (fires d.effect d.removes.fires)) ∙ (ap (λ v. get_or s' v 0) d.removes.var ∙ hf))
    ]
      where
        all : AllHold (λ v. get_or s v 0) (preconditions o ++ w.effect.conditions ++ f ∷ [])
        all = search (rules, arith, All-append, All-cons, All-nil)

        fires : (d : Effect) → All (Contains (preconditions o ++ w.effect.conditions ++ f ∷ [])) d.conditions → Fires s d
        fires d within j e lt = All-contains (Holds (λ v. get_or s v 0)) (preconditions o ++ w.effect.conditions ++ f ∷ []) (get_or d.conditions j e) all (within j e lt)

    after : IsExclusiveIn s' group
    after f g in_f in_g hf hg = elim (cases_eq f.var g.var) [
      | inl e ↦ fact_same f g e (sym hf ∙ (ap (λ v. get_or s' v 0) e ∙ hg))
      | inr ne ↦ elim (set_or_kept s o.effects f.var) [
        | inl a ↦ elim (set_or_kept s o.effects g.var) [
          | inl b ↦ absurd (no_clash s (preconditions o ++ a.effect.conditions ++ b.effect.conditions) before
              (All-append (Holds (λ v. get_or s v 0)) (preconditions o ++ a.effect.conditions) b.effect.conditions
              (All-append (Holds (λ v. get_or s v 0)) (preconditions o) a.effect.conditions step.applicable a.fires) b.fires)
              (keeps.two a.effect b.effect a.among b.among
              (subst (λ x. Contains group x) (sym (sets_it f a.effect a.among a.fires a.on hf)) in_f)
              (subst (λ x. Contains group x) (sym (sets_it g b.effect b.among b.fires b.on hg)) in_g)
              (λ e. ne (sym a.on ∙ (e ∙ b.on)))))
          | inr kept ↦ absurd (no_mix g f in_g in_f (λ e. ne (sym e)) (stayed g in_g kept hg) hg hf a)
        ]
        | inr kept ↦ elim (set_or_kept s o.effects g.var) [
          | inl b ↦ absurd (no_mix f g in_f in_g ne (stayed f in_f kept hf) hf hg b)
          | inr kept' ↦ before group counts f g in_f in_g (stayed f in_f kept hf) (stayed g in_g kept' hg)
        ]
      ]
    ]
      where
        stayed : (f : Fact) → Contains group f → All (Untouched s f.var) o.effects → get_or s' f.var 0 ≡ f.value → get_or s f.var 0 ≡ f.value
        stayed f in_f kept h = sym (step.kept f.var (basic_of group f counts in_f) kept) ∙ h

  pub always : {s : List ℕ} → Reachable p s → Exclusive s
  always (Initial {s} start) = initially s start
  always (Next {s} {s'} o before is step) = λ group counts. after s s' o is step (always before) group counts

-- the groups of a family that is kept jointly are kept
pub family_is_kept : (p : Parts) (family : ℕ → Bool) → IsKeptJointly p family → AreKept p (IsGroupOf p family)
family_is_kept p family jointly = record {
  may = λ group counts. subst (MayBeExclusive p) (sym counts.2) (jointly.may counts.0 counts.1);
  kept = λ group counts. subst (AllKeep p (IsGroupOf p family)) (sym counts.2) (jointly.kept counts.0 counts.1);
}

-- so is a group alone
pub group_is_kept : (p : Parts) (group : List Fact) → MayBeExclusive p group → AllKeep p (λ g. g ≡ group) group → AreKept p (λ g. g ≡ group)
group_is_kept p group may kept = record {
  may = λ g is. subst (MayBeExclusive p) (sym is) may;
  kept = λ g is. subst (AllKeep p (λ x. x ≡ group)) (sym is) kept;
}

pub jointly_kept_is_invariant : JointlyKeptIsInvariant
jointly_kept_is_invariant p family place jointly among s reach = search (rules, arith, always, family_is_kept)

pub exclusive_alone_is_invariant : ExclusiveAloneIsInvariant
exclusive_alone_is_invariant p group verdict s reach =
    always p (λ g. g ≡ group) (group_is_kept p group (record { basic = verdict.0; initial = verdict.1 }) verdict.2) reach group refl

pub exclusive_jointly_is_invariant : ExclusiveJointlyIsInvariant
exclusive_jointly_is_invariant p place verdict = search (rules, arith, jointly_kept_is_invariant)
