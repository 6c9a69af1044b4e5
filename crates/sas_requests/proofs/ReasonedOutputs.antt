-- The output with reasons: it is the same answer as the one without. And there is one output, with reasons and traces or without, and
-- always some.
use Rattle.std.proofs.lemmas.Grind.{common_steps}
use Rattle.sas_requests.proofs.Imports.{◌≡◌, ◌⊎◌, ℕ, Bool, true, false, map, append-nil, List, [], ◌∷◌, ◌++◌, arith, codes, refl, sym, ap, subst, ◌∙◌, inl, inr, Option, Some, option_map, Fault, IsPlain, FileLine, file_line_bytes, file_text, Yes, No, Output, with_reasons, why_refusal, CheckAnswer, MutexAnswer, WhyCheckAnswer, WhyMutexAnswer, one_check_answer, some_check_answer, one_mutex_answer, some_mutex_answer, one_verdict_answer, some_verdict_answer, one_why_check, some_why_check, one_why_mutex, some_why_mutex, one_trace, some_trace, VerdictWith, Detail, is_reason, without_reasons, OutOfRead, OutBy, WithReasons, IsSameAnswer, SameAnswer, Request, RefusalReasons, plain_refusal, word_of, refusal, refusal_line, HasOneOutput, IsLong, worded}
use Rattle.sas_requests.proofs.Outputs.{none_made}
use Rattle.sas_requests.proofs.PlanOutputs.{OneVerdictAnswer, SomeVerdictAnswer, output_for, plain_refuses}
use Rattle.sas_requests.proofs.PlainLines.{file_words, file_plain, kind_plain}
use Rattle.sas_requests.proofs.ReasonLines.{file_lines_report}
use Rattle.sas_requests.proofs.RefusalReasons.{no_reasons, some_of, IsFileRefusal, stand_behind}
use Rattle.sas_requests.proofs.RefusalLaws.{HasOneList, reasons_of}
use Rattle.sas_requests.proofs.SameAnswers.{same_of_read}
use Rattle.sas_requests.proofs.PlainAnswers.{IsReported, stays, first_stays}
use Rattle.sas_requests.proofs.WhyAnswers.{one_why_verdict, some_why_verdict, why_refuses}

-- ---- one output, always some, and none only where an input is too long

module _ (IsOut : Option Output → Type 0) (Long : Type 0) (AreReasons : List FileLine → Type 0) (output : HasOneOutput IsOut Long) (list : HasOneList AreReasons) where
  one_reasoned : (o p : Option Output) → WithReasons IsOut AreReasons o → WithReasons IsOut AreReasons p → o ≡ p
  one_reasoned o p x y = grind (arith, option_map, with_reasons, file_text)

  pub reasoned_output : HasOneOutput (WithReasons IsOut AreReasons) Long
  reasoned_output = record {
    one = one_reasoned;
    some = λ none. output.some (λ q out. list.some (λ reasons why.
        none (option_map (with_reasons (file_text reasons)) q) (record { of_read = q; reasons = reasons; is_out = out; are_reasons = why; whole = refl })));
    long = λ out. output.long (subst IsOut (none_made (with_reasons (file_text out.reasons)) out.of_read out.whole) out.is_out);
  }

-- ---- one output, with reasons and traces or without

one_verdict : (trace reasons : Bool) → OneVerdictAnswer (VerdictWith trace reasons)
one_verdict true reasons = λ p layered plan x y. one_trace reasons p plan x y layered
one_verdict false true = one_why_verdict
one_verdict false false = one_verdict_answer

some_verdict_of : (trace reasons : Bool) → SomeVerdictAnswer (VerdictWith trace reasons)
some_verdict_of true reasons = λ p ranged layered plan none. let it = some_trace reasons p plan ranged layered in none it.0 it.1
some_verdict_of false true = some_why_verdict
some_verdict_of false false = some_verdict_answer

module _ (trace : Bool) (request : Request) (b c : List ℕ) where
  read_output : (reasons : Bool) → HasOneOutput (OutOfRead (record { reasons = reasons; trace = trace }) request b c) (IsLong request b c)
  read_output true =
      output_for (VerdictWith trace true) (one_verdict trace true) (some_verdict_of trace true) WhyCheckAnswer WhyMutexAnswer one_why_check some_why_check one_why_mutex some_why_mutex why_refusal why_refuses request b c
  read_output false =
      output_for (VerdictWith trace false) (one_verdict trace false) (some_verdict_of trace false) CheckAnswer MutexAnswer one_check_answer some_check_answer one_mutex_answer some_mutex_answer plain_refusal plain_refuses request b c

  output_by : (reasons : Bool) → HasOneOutput (OutBy (record { reasons = reasons; trace = trace }) request b c) (IsLong request b c)
  output_by true = reasoned_output (OutOfRead (record { reasons = true; trace = trace }) request b c) (IsLong request b c) (RefusalReasons request b c) (read_output true) (reasons_of request b c)
  output_by false = read_output false

pub any_output : (detail : Detail) (request : Request) (b c : List ℕ) → HasOneOutput (OutBy detail request b c) (IsLong request b c)
any_output detail request b c = output_by detail.trace request b c detail.reasons

-- ---- the refusal of a file is one line

-- the text is this line, which is no reason, and says no
pub record IsRefusalLine (o : Output) : Type 0 where
  pub line : List ℕ
  pub reported : IsReported line
  pub status : o.status ≡ No
  pub text : o.text ≡ line ++ 10 ∷ []

file_line : (name : List ℕ) → IsPlain name → ((line : ℕ) (w : List ℕ) → is_reason (file_words name line w) ≡ false) → (fault : Fault) (o : Output) → Some o ≡ refusal name fault → IsRefusalLine o
file_line name plain no_reason fault o is =
    let w = worded (word_of fault.kind) (refusal_line name fault.line) o (sym is) in
    record {
      line = file_words name fault.line w.said;
      reported = record { plain = file_plain name fault.line w.said plain (kind_plain fault.kind w.said w.among); no_reason = no_reason fault.line w.said };
      status = w.status;
      text = w.text;
    }

refusal_line_of : (o : Output) → IsFileRefusal (Some o) → IsRefusalLine o
refusal_line_of o (fault, inl task) = file_line (codes "task") refl (λ line w. refl) fault o task
refusal_line_of o (fault, inr plan) = file_line (codes "plan") refl (λ line w. refl) fault o plan

-- ---- the same answer

module _ (o reported : Output) (reasons : List FileLine) (whole : o ≡ with_reasons (file_text reasons) reported) where
  as_it_was : reasons ≡ [] → o ≡ reported
  as_it_was none = whole ∙ (ap (λ (r : List FileLine). with_reasons (file_text r) reported) none ∙ no_reasons reported)

  module _ (l : IsRefusalLine reported) where
    says_no : o.status ≡ No
    says_no = ap (λ (x : Output). x.status) whole ∙ l.status

    text_is : o.text ≡ (l.line ++ 10 ∷ []) ++ file_text reasons
    text_is = ap (λ (x : Output). x.text) whole ∙ ap (λ (t : List ℕ). t ++ file_text reasons) l.text

    left : without_reasons o.text ≡ reported.text
    left = ap without_reasons text_is ∙ (first_stays l.line (map file_line_bytes reasons) l.reported (file_lines_report reasons) ∙ sym l.text)

  same_with : (plain : Output) → IsSameAnswer plain reported → IsRefusalLine reported → IsSameAnswer plain o
  same_with plain same l =
      let no : plain.status ≡ No = sym same.status ∙ l.status in
      record {
        status = says_no l ∙ sym no;
        yes = λ is_yes. absurd (let apart : Yes ≡ No = sym is_yes ∙ no in cc);
        no = λ _. left l ∙ (sym (stays reported.text (record { reported = l.line ∷ []; each = (l.reported, tt); whole = l.text ∙ sym (append-nil (l.line ++ 10 ∷ [])) })) ∙ same.no no);
      }

module _ (trace : Bool) (request : Request) (b c : List ℕ) (o : Output) (out : OutBy (record { reasons = true; trace = trace }) request b c (Some o)) where
  -- the output of what was read, behind which the reasons stand
  came : (reported : Output) × (out.of_read ≡ Some reported) × (o ≡ with_reasons (file_text out.reasons) reported)
  came = some_of (file_text out.reasons) out.of_read o out.whole

  came_out : OutOfRead (record { reasons = true; trace = trace }) request b c (Some came.0)
  came_out = subst (OutOfRead (record { reasons = true; trace = trace }) request b c) came.1 out.is_out

  -- it is that output, or there is the refusal of a file
  as_read : (o ≡ came.0) ⊎ IsRefusalLine came.0
  as_read = grind (arith, common_steps, stand_behind, as_it_was, came, refusal_line_of)

pub same_answer : SameAnswer
same_answer trace request b c why out =
    let read = same_of_read trace request b c (came trace request b c why out).0 (came_out trace request b c why out) in (
      read.0,
      read.1,
      elim (as_read trace request b c why out) [
        | inl same ↦ subst (IsSameAnswer read.0) (sym same) read.2
        | inr l ↦ same_with why (came trace request b c why out).0 out.reasons (came trace request b c why out).2 read.0 read.2 l
      ],
    )
