-- A task has exactly one list of joint verdicts on its groups; that it exists is stated as a double
-- negation. The groups that are exclusive by it are invariants.
use Rattle.sas_groups.proofs.Imports.{◌≡◌, ℕ, zero, suc, ◌<◌, ◌≤◌, List, [], ◌∷◌, ◌++◌, length, refl, sym, ◌∙◌, subst, inl, inr, arith, cases_eq, ext_get_or, length_push, get_or_push, get_or_append_left, Parts, Verdict, Exclusive, IsJointVerdict, verdict_at, AreJointVerdicts, AreInvariants}
use Rattle.sas_groups.proofs.Invariance.{exclusive_jointly_is_invariant}
use Rattle.sas_groups.proofs.JointVerdicts.{joint_verdict_is_one, some_joint_verdict}

pub one_list : (p : Parts) (a b : List Verdict) → AreJointVerdicts p a → AreJointVerdicts p b → a ≡ b
one_list p a b are are' = ext_get_or Exclusive a b (are.one_each ∙ sym are'.one_each) (λ place lt.
    same place (subst (λ n. place < n) are.one_each lt))
  where
    same : (place : ℕ) → place < length p.groups → verdict_at a place ≡ verdict_at b place
    same place exists = joint_verdict_is_one p place (verdict_at a place) (verdict_at b place) exists (are.are place exists) (are'.are place exists)

-- the verdicts on the groups before a place
record AreVerdictsBelow (p : Parts) (end : ℕ) (verdicts : List Verdict) : Type 0 where
  one_each : length verdicts ≡ end
  are : (place : ℕ) → place < end → IsJointVerdict p place (verdict_at verdicts place)

-- one verdict more
one_more : (p : Parts) (end : ℕ) (verdicts : List Verdict) (verdict : Verdict) → AreVerdictsBelow p end verdicts
    → IsJointVerdict p end verdict → AreVerdictsBelow p (suc end) (verdicts ++ verdict ∷ [])
one_more p end verdicts verdict below here = record {
  one_each = length_push verdicts verdict ∙ omega (arith, below.one_each);
  are = λ place lt. elim (cases_eq place end) [
    | inl is ↦ subst (IsJointVerdict p place) (sym (get_or_push verdicts verdict Exclusive place (below.one_each ∙ sym is)))
        (subst (λ n. IsJointVerdict p n verdict) (sym is) here)
    | inr is_not ↦ subst (IsJointVerdict p place)
        (sym (get_or_append_left verdicts (verdict ∷ []) Exclusive place (subst (λ n. place < n) (sym below.one_each) (omega arith))))
        (below.are place (omega arith))
  ];
}

some_below : (p : Parts) (end : ℕ) → end ≤ length p.groups → ((verdicts : List Verdict) → AreVerdictsBelow p end verdicts → ⊥) → ⊥
some_below p zero within none = none [] (record { one_each = refl; are = λ place lt. absurd (omega arith) })
some_below p (suc end) within none = some_below p end (omega arith) (λ verdicts below.
    some_joint_verdict p end (omega arith) (λ verdict here. none (verdicts ++ verdict ∷ []) (one_more p end verdicts verdict below here)))

pub some_list : (p : Parts) → ((verdicts : List Verdict) → AreJointVerdicts p verdicts → ⊥) → ⊥
some_list p none = some_below p (length p.groups) (omega arith) (λ verdicts below.
    none verdicts (record { one_each = below.one_each; are = below.are }))

pub listed_invariants : (p : Parts) (verdicts : List Verdict) → AreJointVerdicts p verdicts → AreInvariants p verdicts
listed_invariants p verdicts are place exists is =
    exclusive_jointly_is_invariant p place (subst (IsJointVerdict p place) is (are.are place exists))
