-- What is said of one of many plans, with reasons or without.
use Rattle.sas_requests.proofs.Imports.{◌≡◌, ℕ, ◌<◌, Bool, true, false, List, [], ◌++◌, length, map, codes, refl, sym, subst, ◌∙◌, append-nil, inl, inr, Some, None, Result, Ok, Err, text, Parts, PlanParts, WellRanged, IsLayered, Fault, ReadsAs, most_bytes, plan_format, plan_laws_hold, Yes, No, Output, VerdictAnswer, one_verdict_answer, some_verdict_answer, WhyVerdict, fault_words, invalid_line, line_bytes, FileLine, file_line_bytes, file_text, with_reasons, ArePlanReasons, PlanFileReasons, ReadReasons, PlanSaid, VerdictOut, IsAnswerOrRefusal, HasOneOutput, Steps, refusal_line, word_of, worded}
use Rattle.sas_requests.proofs.Outputs.{long_file, none_made, plan_worded}
use Rattle.sas_requests.proofs.PlanOutputs.{verdict_output}
use Rattle.sas_requests.proofs.WhyAnswers.{one_why_verdict, some_why_verdict}
use Rattle.sas_requests.proofs.ReasonLines.{AreReasons, file_lines_report, lines_report}
use Rattle.sas_requests.proofs.RefusalLaws.{reasons_of}
use Rattle.sas_requests.proofs.RefusalReasons.{no_reasons, some_of}
use Rattle.sas_requests.proofs.ReasonedOutputs.{reasoned_output}

-- nothing is said only of a plan that is too long
pub said_long : (reasons : Bool) (p : Parts) (c : List ℕ) → PlanSaid reasons p c None → most_bytes < length c
said_long true p c out = long_file plan_format (codes "plan") (WhyVerdict p) c plan_worded (subst (VerdictOut WhyVerdict p c) (none_made (with_reasons (file_text out.reasons)) out.of_read out.whole) out.is_out)
said_long false p c out = long_file plan_format (codes "plan") (VerdictAnswer p) c plan_worded out

-- one thing is said
pub plan_said : (reasons : Bool) (p : Parts) → WellRanged p → IsLayered p → (c : List ℕ) → HasOneOutput (PlanSaid reasons p c) (most_bytes < length c)
plan_said true p ranged layered c = reasoned_output (VerdictOut WhyVerdict p c) (most_bytes < length c) (PlanFileReasons c) (verdict_output WhyVerdict one_why_verdict some_why_verdict p c ranged layered) (reasons_of Steps [] c)
plan_said false p ranged layered c = verdict_output VerdictAnswer one_verdict_answer some_verdict_answer p c ranged layered

-- ---- with reasons and without

-- what is said with reasons is what is said without, and the reasons behind it; a yes has none
pub record Explained (p : Parts) (c : List ℕ) (why : Output) : Type 0 where
  pub plain : Output
  pub said : PlanSaid false p c (Some plain)
  pub status : why.status ≡ plain.status
  pub reasons : List (List ℕ)
  pub are : AreReasons reasons
  pub whole : why.text ≡ plain.text ++ text reasons
  pub yes : plain.status ≡ Yes → why.text ≡ plain.text

module _ (p : Parts) (ranged : WellRanged p) (c : List ℕ) where
  by_verdict : (plan : PlanParts) (o : Output) → ReadsAs plan_format most_bytes c (Ok plan) → WhyVerdict p plan o → Explained p c o
  by_verdict plan o reads (inl (valid, is)) = record {
    plain = o;
    said = (Ok plan, reads, (o, inl (valid, is), refl));
    status = refl;
    reasons = [];
    are = tt;
    whole = sym (append-nil o.text);
    yes = λ e. refl;
  }
  by_verdict plan o reads (inr (fault, is_fault, e, is_no)) =
      let w = worded (fault_words plan.cost fault) invalid_line e.verdict e.reported in
      record {
        plain = e.verdict;
        said = (Ok plan, reads, (e.verdict, inr (fault, is_fault, e.reported), refl));
        status = is_no ∙ sym w.status;
        reasons = map (line_bytes p plan.steps) e.reasons;
        are = lines_report p plan.steps ranged reads.0.good.steps e.reasons;
        whole = e.whole;
        yes = λ is_yes. absurd (let apart : Yes ≡ No = sym is_yes ∙ w.status in cc);
      }

  by_reading : (r : Result PlanParts Fault) (o : Output) (reasons : List FileLine) → ReadsAs plan_format most_bytes c r → IsAnswerOrRefusal (codes "plan") (WhyVerdict p) r (Some o) → ReadReasons plan_format ArePlanReasons c r reasons
      → Explained p c (with_reasons (file_text reasons) o)
  by_reading (Ok plan) o reasons reads (answer, verdict, is) none =
      let same : answer ≡ o = cc in
      rw (none, no_reasons o) (by_verdict plan o reads (subst (WhyVerdict p plan) same verdict))
  by_reading (Err f) o reasons reads is why =
      let w = worded (word_of f.kind) (refusal_line (codes "plan") f.line) o (sym is) in
      record {
        plain = o;
        said = (Err f, reads, is);
        status = refl;
        reasons = map file_line_bytes reasons;
        are = file_lines_report reasons;
        whole = refl;
        yes = λ is_yes. absurd (let apart : Yes ≡ No = sym is_yes ∙ w.status in cc);
      }

  pub said_plain : (why : Output) → PlanSaid true p c (Some why) → Explained p c why
  said_plain why out =
      let (o, is, same) = some_of (file_text out.reasons) out.of_read why out.whole in
      let (r, reads, answer) = subst (VerdictOut WhyVerdict p c) is out.is_out in
      let (read, also, reasons) = out.are_reasons in
      let one : read ≡ r = plan_laws_hold.one_reading most_bytes c read r also reads in
      subst (Explained p c) (sym same) (by_reading r o out.reasons reads answer (subst (λ (x : Result PlanParts Fault). ReadReasons plan_format ArePlanReasons c x out.reasons) one reasons))
