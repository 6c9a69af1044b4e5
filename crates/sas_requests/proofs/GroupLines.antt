-- Each line behind that of a group is a reason; and what is left of the lines of groups when reasons are taken away.
use Rattle.sas_requests.proofs.Imports.{map, ◌≡◌, ℕ, suc, ◌+◌, ◌<◌, List, [], ◌∷◌, ◌++◌, length, get_or, refl, ap, subst, ◌∙◌, arith, Option, None, not, filter, AllByRecursion, option_map_or, Parts, WellRanged, text, lines, Plain, lines-text, all_map, Verdict, Exclusive, Derived, Initial, Broken, line_bytes, Reason, IsReasonIfAny, reason_at, Yes, group_line, is_reason, without_reasons, verdict_lines_from, verdict_lines, groups_status, reason_lines, explained_group_lines, why_lines_from, why_lines, no_reason}
use Rattle.sas_requests.proofs.ReasonLines.{IsReason, AreReasons, lines_report}
use Rattle.std.proofs.lemmas.List.Elements.{filter-append}
use Rattle.sas_requests.proofs.PlainAnswers.{none_kept, kept_first, plain_reported, plain_reason, group_reported}

pub all_both : {A : Type 0} (P : A → Type 0) (a b : List A) → AllByRecursion P a → AllByRecursion P b → AllByRecursion P (a ++ b)
all_both P [] b h g = g
all_both P (first ∷ a) b h g = (h.0, all_both P a b h.1 g)

-- lines of reasons go, whatever stands behind them
reasons_gone : (reasons behind : List (List ℕ)) → AreReasons reasons → filter (λ line. not (is_reason line)) (reasons ++ behind) ≡ filter (λ line. not (is_reason line)) behind
reasons_gone reasons behind h = grind (arith, filter-append, not, is_reason, filter, none_kept)

-- an exclusive group has no reason
none_if_exclusive : (p : Parts) (group : ℕ) (found : Option Reason) → IsReasonIfAny p group Exclusive found → found ≡ None
none_if_exclusive p group h1 is = grind (arith, no_reason)

module _ (p : Parts) (ranged : WellRanged p) where
  abbrev why_group : ℕ → Option Reason → List (List ℕ)
  why_group group found = map (line_bytes p []) (option_map_or (reason_lines p group) found [])

  pub any_shows : (group : ℕ) (found : Option Reason) → AreReasons (why_group group found)
  any_shows group found = lines_report p [] ranged tt (option_map_or (reason_lines p group) found [])

  module _ (reasons : List (Option Reason)) where
    abbrev pub behind : ℕ → List (List ℕ)
    behind group = why_group group (reason_at reasons group)

    -- ---- the lines of the text

    plain_from : (group : ℕ) (verdicts : List Verdict) → AllByRecursion Plain (why_lines_from p reasons group verdicts)
    plain_from group [] = tt
    plain_from group (verdict ∷ verdicts) = (
      plain_reported (group_line group verdict) (group_reported group verdict),
      all_both Plain (behind group) (why_lines_from p reasons (group + 1) verdicts)
          (all_map IsReason Plain plain_reason (behind group) (any_shows group (reason_at reasons group)))
          (plain_from (group + 1) verdicts),
    )

    pub lines_of_groups : (verdicts : List Verdict) → lines (text (why_lines p verdicts reasons)) ≡ why_lines p verdicts reasons
    lines_of_groups verdicts = lines-text (why_lines p verdicts reasons) (plain_from 0 verdicts)

    -- ---- without reasons

    kept_from : (group : ℕ) (verdicts : List Verdict) → filter (λ line. not (is_reason line)) (why_lines_from p reasons group verdicts) ≡ verdict_lines_from group verdicts
    kept_from group [] = refl
    kept_from group (verdict ∷ verdicts) =
        let later = why_lines_from p reasons (group + 1) verdicts in
        kept_first (group_line group verdict) (behind group ++ later) (group_reported group verdict)
        ∙ ap (λ (l : List (List ℕ)). group_line group verdict ∷ l)
        (reasons_gone (behind group) later (any_shows group (reason_at reasons group)) ∙ kept_from (group + 1) verdicts)

    pub groups_kept : (verdicts : List Verdict) → without_reasons (text (why_lines p verdicts reasons)) ≡ text (verdict_lines verdicts)
    groups_kept verdicts = grind (arith, text, filter, not, is_reason, lines_of_groups, kept_from)

-- ---- where all groups are exclusive

abbrev AreReasonsFrom : Parts → List (Option Reason) → ℕ → List Verdict → Type 0
AreReasonsFrom p reasons group verdicts = (k : ℕ) → k < length verdicts → IsReasonIfAny p (group + k) (get_or verdicts k Exclusive) (reason_at reasons (group + k))

module _ (p : Parts) (reasons : List (Option Reason)) where
  pub all_exclusive : (group : ℕ) (verdicts : List Verdict) → AreReasonsFrom p reasons group verdicts → groups_status verdicts ≡ Yes → why_lines_from p reasons group verdicts ≡ verdict_lines_from group verdicts
  all_exclusive group [] are says = refl
  all_exclusive group (Exclusive ∷ verdicts) are says =
      let later = why_lines_from p reasons (group + 1) verdicts in
      let its : IsReasonIfAny p group Exclusive (reason_at reasons group) = subst (λ (m : ℕ). IsReasonIfAny p m Exclusive (reason_at reasons m)) (omega arith) (are 0 (omega arith)) in
      let others : AreReasonsFrom p reasons (group + 1) verdicts = λ k lt.
      subst (λ (m : ℕ). IsReasonIfAny p m (get_or verdicts k Exclusive) (reason_at reasons m)) (omega arith) (are (suc k) (omega (arith, lt))) in
      ap (λ (found : Option Reason). explained_group_lines p group Exclusive found ++ later) (none_if_exclusive p group (reason_at reasons group) its)
      ∙ ap (λ (l : List (List ℕ)). group_line group Exclusive ∷ l) (all_exclusive (group + 1) verdicts others says)
  all_exclusive group (Derived ∷ verdicts) are says = absurd cc
  all_exclusive group (Initial ∷ verdicts) are says = absurd cc
  all_exclusive group (Broken place ∷ verdicts) are says = absurd cc
