-- Behind a trace stands the output of `plan`.
use Rattle.sas_requests.proofs.Imports.{◌≡◌, ℕ, Bool, true, false, List, [], ◌++◌, append_assoc, codes, refl, ap, subst, ◌∙◌, inl, inr, Some, Result, Ok, Err, lines, lines-append, unfinished-text, Parts, PlanParts, text, Fault, Output, with_reasons, file_text, IsAnswerOrRefusal, OutOfRead, VerdictWith, run_lines, TraceVerdict, ends_with_answer, EndsAsPlan, Plan}
use Rattle.sas_requests.proofs.RefusalReasons.{some_of}

-- the lines of a text behind some lines
pub lines_behind_text : (front : List (List ℕ)) (bytes : List ℕ) → lines (text front ++ bytes) ≡ lines (text front) ++ lines bytes
lines_behind_text front bytes = lines-append (text front) bytes ∙ ap (λ (x : List ℕ). lines (text front) ++ lines (x ++ bytes)) (unfinished-text front)

-- the output is some lines, and behind them this one, with its status
pub record EndsAs (traced untraced : Output) : Type 0 where
  pub front : List (List ℕ)
  pub whole : traced.text ≡ text front ++ untraced.text
  pub status : traced.status ≡ untraced.status

itself : (o : Output) → EndsAs o o
itself o = record { front = []; whole = refl; status = refl }

module _ (reasons : Bool) where
  plan_ends : (p : Parts) (r : Result PlanParts Fault) (o : Output) → IsAnswerOrRefusal (codes "plan") (TraceVerdict reasons p) r (Some o)
      → (untraced : Output) × IsAnswerOrRefusal (codes "plan") (VerdictWith false reasons p) r (Some untraced) × EndsAs o untraced
  plan_ends p (Ok plan) o (answer, traced, is) =
      let same : answer ≡ o = cc in
      let t = subst (λ (x : Output). TraceVerdict reasons p plan x) same traced in
      (t.answer, (t.answer, ends_with_answer reasons p plan t.run t.answer t.ends, refl), record { front = run_lines p t.run; whole = t.whole; status = t.status })
  plan_ends p (Err fault) o is = (o, is, itself o)

  read_ends : (b c : List ℕ) (traced : Output) → OutOfRead (record { reasons = reasons; trace = true }) Plan b c (Some traced)
      → (untraced : Output) × OutOfRead (record { reasons = reasons; trace = false }) Plan b c (Some untraced) × EndsAs traced untraced
  read_ends b c traced (inl refused) = (traced, inl refused, itself traced)
  read_ends b c traced (inr (p, reads, layered, (read, reads_plan, out))) =
      let (untraced, its, ends) = plan_ends p read traced out in (untraced, inr (p, reads, layered, (read, reads_plan, its)), ends)

pub ends_as_plan : EndsAsPlan
ends_as_plan false b c traced out = let (untraced, its, ends) = read_ends false b c traced out in (untraced, its, ends.front, ends.whole, ends.status)
ends_as_plan true b c traced out =
    let behind = file_text out.reasons in
    let (read, is, same) = some_of behind out.of_read traced out.whole in
    let (untraced, its, ends) = read_ends true b c read (subst (OutOfRead (record { reasons = true; trace = true }) Plan b c) is out.is_out) in (
      with_reasons behind untraced,
      record { of_read = Some untraced; reasons = out.reasons; is_out = its; are_reasons = out.are_reasons; whole = refl },
      ends.front,
      ap (λ (o : Output). o.text) same ∙ (ap (λ (t : List ℕ). t ++ behind) ends.whole ∙ append_assoc (text ends.front) untraced.text behind),
      ap (λ (o : Output). o.status) same ∙ ends.status,
    )
