-- The text of groups with reasons, group by group; and without reasons.
use Rattle.std.proofs.lemmas.Grind.{common_steps}
use Rattle.sas_task_reasons.proofs.Imports.{◌≡◌, ℕ, ◌+◌, ◌<◌, ◌≤◌, List, [], ◌∷◌, ◌++◌, length, take, get_or, append_assoc, append-nil, refl, ap, ◌∙◌, arith, Option, take_more, take_all, length-take, Parts, text, Verdict, text_of_both, group_line, verdict_lines_from, Reason, reason_at, explained_group_lines, why_lines_from, why_lines}

-- ---- group after group

module _ (p : Parts) (reasons : List (Option Reason)) where
  -- the lines of the group at this place
  abbrev pub lines_at : ℕ → Verdict → List (List ℕ)
  lines_at place verdict = explained_group_lines p place verdict (reason_at reasons place)

  -- those of some verdicts, and of others behind them
  lines_both : (n : ℕ) (a b : List Verdict) → why_lines_from p reasons n (a ++ b) ≡ why_lines_from p reasons n a ++ why_lines_from p reasons (n + length a) b
  lines_both n [] b = ap (λ (k : ℕ). why_lines_from p reasons k b) (omega arith)
  lines_both n (verdict ∷ a) b = grind (arith, common_steps, lines_both (n + 1) a b, append_assoc)

  lines_next : (verdicts : List Verdict) (place : ℕ) (d : Verdict) → place < length verdicts
      → why_lines p (take (place + 1) verdicts) reasons ≡ why_lines p (take place verdicts) reasons ++ lines_at place (get_or verdicts place d)
  lines_next verdicts place d h =
      let before = why_lines p (take place verdicts) reasons in
      let its = get_or verdicts place d in
      let there : 0 + length (take place verdicts) ≡ place = omega (arith, h, length-take place verdicts) in
      ap (λ (vs : List Verdict). why_lines p vs reasons) (take_more verdicts place d h)
      ∙ lines_both 0 (take place verdicts) (its ∷ [])
      ∙ ap (λ (k : ℕ). before ++ why_lines_from p reasons k (its ∷ [])) there
      ∙ ap (λ (lines : List (List ℕ)). before ++ lines) (append-nil (lines_at place its))

  pub text_next : (verdicts : List Verdict) (place : ℕ) (d : Verdict) → place < length verdicts
      → text (why_lines p (take (place + 1) verdicts) reasons) ≡ text (why_lines p (take place verdicts) reasons) ++ text (lines_at place (get_or verdicts place d))
  text_next verdicts place d h = ap text (lines_next verdicts place d h) ∙ text_of_both (why_lines p (take place verdicts) reasons) (lines_at place (get_or verdicts place d))

  -- all groups, so that the text is whole
  pub all_groups : (verdicts : List Verdict) (n : ℕ) → length verdicts ≤ n → text (why_lines p (take n verdicts) reasons) ≡ text (why_lines p verdicts reasons)
  all_groups verdicts n h = ap (λ (vs : List Verdict). text (why_lines p vs reasons)) (take_all n verdicts h)

-- ---- without reasons

pub plain_lines : (p : Parts) (place : ℕ) (verdicts : List Verdict) → why_lines_from p [] place verdicts ≡ verdict_lines_from place verdicts
plain_lines p place [] = refl
plain_lines p place (verdict ∷ verdicts) = ap (λ (lines : List (List ℕ)). group_line place verdict ∷ lines) (plain_lines p (place + 1) verdicts)
