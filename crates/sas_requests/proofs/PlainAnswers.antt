-- Lines that are no reasons: an answer of such lines stays as it is when reasons are taken away.
use Rattle.std.proofs.Common.{arith}
use Rattle.std.proofs.lemmas.Grind.{common_steps}
use Rattle.sas_requests.proofs.Imports.{◌≡◌, ℕ, List, [], ◌∷◌, ◌++◌, codes, refl, sym, ap, ◌∙◌, Bool, false, Some, not, filter, if◌then◌else◌, AllByRecursion, LayerFault, text, lines, Plain, lines-text, text_of_both, Fault, IsPlain, plain, plain-decimal, plain-append, all_map, Verdict, PlanFault, Output, layers_refusal, verdict_words, group_line, is_reason, without_reasons, layer_words, layers_line, fault_words, word_of, refusal, refusal_line, worded}
use Rattle.sas_requests.proofs.PlainLines.{file_words, file_plain, kind_plain, layer_plain, invalid_plain}
use Rattle.std.proofs.lemmas.List.{append-nil}
use Rattle.std.proofs.lemmas.List.Elements.{filter-append}
use Rattle.sas_requests.proofs.TraceLaws.{lines_behind_text}
use Rattle.sas_requests.proofs.ReasonLines.{IsReason, AreReasons}

-- ---- lines without and with reasons

-- the line is no reason
pub record IsReported (line : List ℕ) : Type 0 where
  pub plain : IsPlain line
  pub no_reason : is_reason line ≡ false

-- the text is such lines, each ended by LF
pub record IsReportedText (bytes : List ℕ) : Type 0 where
  pub reported : List (List ℕ)
  pub each : AllByRecursion IsReported reported
  pub whole : bytes ≡ text reported

pub kept_first : (first : List ℕ) (behind : List (List ℕ)) → IsReported first → filter (λ line. not (is_reason line)) (first ∷ behind) ≡ first ∷ filter (λ line. not (is_reason line)) behind
kept_first first behind reported = grind (arith, common_steps)

all_kept : (reported : List (List ℕ)) → AllByRecursion IsReported reported → filter (λ line. not (is_reason line)) reported ≡ reported
all_kept [] h = refl
all_kept (first ∷ reported) h = kept_first first reported h.0 ∙ ap (λ (x : List (List ℕ)). first ∷ x) (all_kept reported h.1)

pub none_kept : (reasons : List (List ℕ)) → AreReasons reasons → filter (λ line. not (is_reason line)) reasons ≡ []
none_kept [] h = refl
none_kept (first ∷ reasons) h =
    let reports : IsReason first = h.0 in
    let rest = filter (λ line. not (is_reason line)) reasons in
    ap (λ (b : Bool). if not b then first ∷ rest else rest) reports.reports ∙ none_kept reasons h.1

pub plain_reported : (line : List ℕ) → IsReported line → Plain line
plain_reported line reported = plain line reported.plain

pub plain_reason : (line : List ℕ) → IsReason line → Plain line
plain_reason line reason = plain line reason.plain

-- a text without reasons stays
pub stays : (bytes : List ℕ) → IsReportedText bytes → without_reasons bytes ≡ bytes
stays bytes t =
    let are = lines-text t.reported (all_map IsReported Plain plain_reported t.reported t.each) in
    ap without_reasons t.whole
    ∙ (ap (λ (ls : List (List ℕ)). text (filter (λ line. not (is_reason line)) ls)) are
    ∙ (ap (λ (ls : List (List ℕ)). text ls) (all_kept t.reported t.each) ∙ sym t.whole))

-- behind some lines a text is as it is alone
pub without_both : (front : List (List ℕ)) (bytes : List ℕ) → without_reasons (text front ++ bytes) ≡ without_reasons (text front) ++ without_reasons bytes
without_both front bytes =
    let keeps : List ℕ → Bool = λ line. not (is_reason line) in
    ap (λ (ls : List (List ℕ)). text (filter keeps ls)) (lines_behind_text front bytes)
    ∙ ap (λ (ls : List (List ℕ)). text ls) (filter-append keeps (lines (text front)) (lines bytes))
    ∙ text_of_both (filter keeps (lines (text front))) (filter keeps (lines bytes))

-- the lines of one with reasons behind it
pub lines_of_first : (line : List ℕ) (reasons : List (List ℕ)) → IsReported line → AreReasons reasons → lines ((line ++ 10 ∷ []) ++ text reasons) ≡ line ∷ reasons
lines_of_first line reasons reported are = lines-text (line ∷ reasons) (plain_reported line reported, all_map IsReason Plain plain_reason reasons are)

-- and of these the first one stays
pub first_stays : (line : List ℕ) (reasons : List (List ℕ)) → IsReported line → AreReasons reasons → without_reasons ((line ++ 10 ∷ []) ++ text reasons) ≡ line ++ 10 ∷ []
first_stays line reasons reported are = grind (arith, common_steps, lines_of_first, kept_first, none_kept)

-- ---- one line

pub reported_line : (line out : List ℕ) → IsReported line → out ≡ line ++ 10 ∷ [] → IsReportedText out
reported_line line out reported is = record { reported = line ∷ []; each = (reported, tt); whole = is ∙ sym (append-nil (line ++ 10 ∷ [])) }

-- ---- refusals of files

-- the refusal of a file whose name is plain and begins with no space
abbrev pub AreRefusalsReported : List ℕ → Type 0
AreRefusalsReported name = (fault : Fault) (o : Output) → Some o ≡ refusal name fault → IsReportedText o.text

refusals_reported : (name : List ℕ) → IsPlain name → ((line : ℕ) (w : List ℕ) → is_reason (file_words name line w) ≡ false) → AreRefusalsReported name
refusals_reported name h no_reason fault o is =
    let w = worded (word_of fault.kind) (refusal_line name fault.line) o (sym is) in
    let reported : IsReported (file_words name fault.line w.said) = record { plain = file_plain name fault.line w.said h (kind_plain fault.kind w.said w.among); no_reason = no_reason fault.line w.said } in
    reported_line (file_words name fault.line w.said) o.text reported w.text

pub task_refusals_reported : AreRefusalsReported (codes "task")
task_refusals_reported = refusals_reported (codes "task") refl (λ line w. refl)

pub plan_refusals_reported : AreRefusalsReported (codes "plan")
plan_refusals_reported = refusals_reported (codes "plan") refl (λ line w. refl)

-- ---- refusals of layers

-- such a refusal, without the end of its line
pub layer_reported : (fault : LayerFault) (w : List ℕ) → layer_words fault ≡ Some w → IsReported (codes "task refused: " ++ w)
layer_reported fault w e = search (arith, plain, plain-append, codes, layer_plain)

pub layers_reported : (fault : LayerFault) (o : Output) → layers_refusal fault ≡ Some o → IsReportedText o.text
layers_reported fault o is =
    let w = worded (layer_words fault) layers_line o is in
    reported_line (codes "task refused: " ++ w.said) o.text (layer_reported fault w.said w.among) w.text

-- ---- verdicts on groups

verdict_plain : (verdict : Verdict) → IsPlain (verdict_words verdict)
verdict_plain verdict = grind (arith, common_steps, plain-append, plain-decimal)

pub group_reported : (place : ℕ) (verdict : Verdict) → IsReported (group_line place verdict)
group_reported place verdict = grind (arith, common_steps, plain, plain-append, plain-decimal, verdict_plain)

-- ---- the verdict on a plan

-- the verdict that says no, without the end of its line
pub verdict_reported : (cost : ℕ) (fault : PlanFault) (w : List ℕ) → fault_words cost fault ≡ Some w → IsReported (codes "plan invalid: " ++ w)
verdict_reported cost fault w e = grind (arith, common_steps, plain, invalid_plain)
