-- A layered task has an answer about its groups with reasons, and only one; and how the answer comes about.
use Rattle.std.proofs.lemmas.Grind.{common_steps}
use Rattle.sas_task_reasons.proofs.Imports.{◌≡◌, Bool, true, false, IsTrue, IsFalse, ℕ, zero, suc, ◌<◌, ◌≤◌, List, [], ◌∷◌, ◌++◌, length, refl, sym, ap, ◌∙◌, subst, arith, Option, Some, None, cases_eq, ext_get_or, length_push, get_or_push, get_or_append_left, Parts, Verdict, Exclusive, Derived, Initial, Broken, IsJointVerdict, verdict_at, AreJointVerdicts, one_list, some_list, OneAnswer, SomeAnswer, text, groups_status, Reason, verdict_of, IsReasonIfAny, reason_at, AreReasons, why_lines, WhyGroupsAnswer, GroupsAnswerWith, Output}
use Rattle.sas_task_reasons.proofs.GroupReasons.{one_reason, some_reason}
use Rattle.sas_task_reasons.proofs.GroupTexts.{plain_lines}

-- ---- one reason

-- an exclusive group has none
pub no_reason : (reason : Reason) → Exclusive ≡ verdict_of reason → ⊥
no_reason h1 is = grind arith

same_if_any : (p : Parts) (place : ℕ) (verdict : Verdict) (a b : Option Reason) → IsReasonIfAny p place verdict a → IsReasonIfAny p place verdict b → a ≡ b
same_if_any p place verdict None None is_a is_b = refl
same_if_any p place verdict None (Some b) is_a is_b = absurd (no_reason b (sym is_a ∙ is_b.of))
same_if_any p place verdict (Some a) None is_a is_b = absurd (no_reason a (sym is_b ∙ is_a.of))
same_if_any p place verdict (Some a) (Some b) is_a is_b = ap (λ (r : Reason). Some r) (one_reason p place verdict a b is_a is_b)

pub one_reasons : (p : Parts) (verdicts : List Verdict) (a b : List (Option Reason)) → AreReasons p verdicts a → AreReasons p verdicts b → a ≡ b
one_reasons p verdicts a b are are' = ext_get_or None a b (are.one_each ∙ sym are'.one_each) (λ place lt.
    same place (subst (λ n. place < n) are.one_each lt))
  where
    same : (place : ℕ) → place < length p.groups → reason_at a place ≡ reason_at b place
    same place exists = same_if_any p place (verdict_at verdicts place) (reason_at a place) (reason_at b place) (are.are place exists) (are'.are place exists)

-- ---- and some

some_if_any : (p : Parts) (place : ℕ) (verdict : Verdict) → place < length p.groups → IsJointVerdict p place verdict → ((reason : Option Reason) → IsReasonIfAny p place verdict reason → ⊥) → ⊥
some_if_any p place Exclusive exists joint none = none None refl
some_if_any p place Derived exists joint none = some_reason p place Derived exists joint (λ is. absurd cc) (λ reason is. none (Some reason) is)
some_if_any p place Initial exists joint none = some_reason p place Initial exists joint (λ is. absurd cc) (λ reason is. none (Some reason) is)
some_if_any p place (Broken operator) exists joint none = some_reason p place (Broken operator) exists joint (λ is. absurd cc) (λ reason is. none (Some reason) is)

-- the reasons of the groups before a place
pub record AreReasonsBelow (p : Parts) (verdicts : List Verdict) (end : ℕ) (reasons : List (Option Reason)) : Type 0 where
  pub one_each : length reasons ≡ end
  pub are : (place : ℕ) → place < end → IsReasonIfAny p place (verdict_at verdicts place) (reason_at reasons place)

-- one reason more
pub one_more : (p : Parts) (verdicts : List Verdict) (end : ℕ) (reasons : List (Option Reason)) (reason : Option Reason) → AreReasonsBelow p verdicts end reasons
    → IsReasonIfAny p end (verdict_at verdicts end) reason → AreReasonsBelow p verdicts (suc end) (reasons ++ reason ∷ [])
one_more p verdicts end reasons reason below here = grind (arith, length_push, cases_eq, verdict_at, get_or_push, get_or_append_left)

module _ (p : Parts) (verdicts : List Verdict) (joint : AreJointVerdicts p verdicts) where
  some_below : (end : ℕ) → end ≤ length p.groups → ((reasons : List (Option Reason)) → AreReasonsBelow p verdicts end reasons → ⊥) → ⊥
  some_below zero within none = none [] (record { one_each = refl; are = λ place lt. absurd (omega arith) })
  some_below (suc end) within none = some_below end (omega arith) (λ reasons below.
      some_if_any p end (verdict_at verdicts end) (omega arith) (joint.are end (omega arith)) (λ reason here. none (reasons ++ reason ∷ []) (one_more p verdicts end reasons reason below here)))

  pub some_reasons : ((reasons : List (Option Reason)) → AreReasons p verdicts reasons → ⊥) → ⊥
  some_reasons none = some_below (length p.groups) (omega arith) (λ reasons below.
      none reasons (record { one_each = below.one_each; are = below.are }))

-- ---- one answer, and some

abbrev groups_output : Parts → List Verdict → List (Option Reason) → Output
groups_output p verdicts reasons = record { text = text (why_lines p verdicts reasons); status = groups_status verdicts }

pub one_groups_answer : OneAnswer WhyGroupsAnswer
one_groups_answer p a b is_a is_b =
    let verdicts : is_a.0 ≡ is_b.0 = one_list p is_a.0 is_b.0 is_a.2 is_b.2 in
    let reasons : is_a.1 ≡ is_b.1 = one_reasons p is_b.0 is_a.1 is_b.1 (subst (λ (vs : List Verdict). AreReasons p vs is_a.1) verdicts is_a.3) is_b.3 in
    is_a.4
    ∙ ap (λ (vs : List Verdict). groups_output p vs is_a.1) verdicts
    ∙ ap (λ (rs : List (Option Reason)). groups_output p is_b.0 rs) reasons
    ∙ sym is_b.4

pub some_groups_answer : SomeAnswer WhyGroupsAnswer
some_groups_answer p none = some_list p (λ verdicts joint.
    some_reasons p verdicts joint (λ reasons are. none (groups_output p verdicts reasons) (verdicts, reasons, joint, are, refl)))

-- ---- how the answer comes about

pub answers_with : (wanted : Bool) (p : Parts) (verdicts : List Verdict) (reasons : List (Option Reason)) → AreJointVerdicts p verdicts
    → (IsFalse wanted → reasons ≡ []) → (IsTrue wanted → AreReasons p verdicts reasons) → GroupsAnswerWith wanted p (groups_output p verdicts reasons)
answers_with true p verdicts reasons joint none are = (verdicts, reasons, joint, are refl, refl)
answers_with false p verdicts reasons joint none are = grind (arith, common_steps, plain_lines)
