-- An output with the reasons of what was read is the same answer as the output without them.
use Rattle.std.proofs.lemmas.Grind.{common_steps}
use Rattle.sas_requests.proofs.Imports.{◌≡◌, ℕ, ◌+◌, ◌<◌, List, [], ◌++◌, length, map, get_or, arith, codes, refl, sym, ap, subst, ◌∙◌, inl, inr, Option, Some, None, Result, Ok, Err, Parts, first_fault, PlanParts, WellNamed, WellRanged, LayerFault, layer_checks, text, Verdict, Exclusive, AreJointVerdicts, Reason, IsReasonIfAny, AreReasons, reason_at, Fault, Format, ReadsAs, most_bytes, without_reasons, IsSameAnswer, OutOfRead, Bool, true, false, AllByRecursion, Detail, VerdictWith, EndsWith, Run, run_lines, plan_format, task_format, PlanFault, Yes, No, Output, layers_refusal, layers_verdict, LayeredGroupsAnswer, CheckAnswer, MutexAnswer, VerdictAnswer, verdict_lines, groups_status, layer_words, layers_line, fault_words, invalid_line, why_lines, WhyGroupsAnswer, layer_reasons, why_refusal, WhyAnswer, WhyCheckAnswer, WhyMutexAnswer, line_bytes, reasons_text, WhyVerdict, Explains, Request, Show, Print, Steps, Check, Plan, Mutex, IsAnswerOrRefusal, FileOut, TaskOut, UnlayeredAnswer, plain_refusal, ShowAnswer, PrintAnswer, worded}
use Rattle.sas_requests.proofs.ReasonLines.{lines_report}
use Rattle.sas_requests.proofs.GroupLines.{groups_kept, all_exclusive}
use Rattle.sas_requests.proofs.TraceLines.{run_reported}
use Rattle.sas_requests.proofs.PlainAnswers.{IsReported, IsReportedText, without_both, stays, first_stays, AreRefusalsReported, task_refusals_reported, plan_refusals_reported, layer_reported, layers_reported, verdict_reported}
use Rattle.sas_requests.proofs.WhyAnswers.{why_is}

-- ---- an output is the same answer as itself

-- a no has no reasons that could be taken away
abbrev Stays : Output → Type 0
Stays o = o.status ≡ No → without_reasons o.text ≡ o.text

itself : (o : Output) → Stays o → IsSameAnswer o o
itself o left = record { status = refl; yes = λ _. refl; no = left }

reported_stays : (o : Output) → IsReportedText o.text → Stays o
reported_stays o reported = λ _. stays o.text reported

yes_stays : (o : Output) → o.status ≡ Yes → Stays o
yes_stays o is_yes = λ is_no. absurd (let apart : Yes ≡ No = sym is_yes ∙ is_no in cc)

-- ---- answers about one file

-- the answer with reasons about each good value is the same as one without them
abbrev SameOfEach : {V : Type 0} → (V → Type 0) → (V → Output → Type 0) → (V → Output → Type 0) → Type 0
SameOfEach {V} Good Plain Why = (v : V) (o : Output) → Good v → Why v o → (plain : Output) × Plain v plain × IsSameAnswer plain o

module _ {V I S : Type 0} (F : Format V I S) (name : List ℕ) (refusals : AreRefusalsReported name) (Plain Why : V → Output → Type 0) (each : SameOfEach F.texts.Good Plain Why) (bytes : List ℕ) where
  reading_same : (r : Result V Fault) (o : Output) → ReadsAs F most_bytes bytes r → IsAnswerOrRefusal name Why r (Some o) → (plain : Output) × IsAnswerOrRefusal name Plain r (Some plain) × IsSameAnswer plain o
  reading_same (Ok v) o reads (answer, reported, is) =
      let same : answer ≡ o = cc in
      let it = each v o reads.0.good (subst (λ (x : Output). Why v x) same reported) in
      (it.0, (it.0, it.1, refl), it.2)
  reading_same (Err fault) o reads is = (o, is, itself o (reported_stays o (refusals fault o is)))

  file_same : (o : Output) → FileOut F name Why bytes (Some o) → (plain : Output) × FileOut F name Plain bytes (Some plain) × IsSameAnswer plain o
  file_same o (r, reads, is) = let it = reading_same r o reads is in (it.0, (r, reads, it.1), it.2)

task_same : (Plain Why : Parts → Output → Type 0) → SameOfEach WellRanged Plain Why → (b : List ℕ) (o : Output) → TaskOut Why b (Some o) → (plain : Output) × TaskOut Plain b (Some plain) × IsSameAnswer plain o
task_same = file_same task_format (codes "task") task_refusals_reported

plan_same : (Plain Why : PlanParts → Output → Type 0) → SameOfEach WellNamed Plain Why → (c : List ℕ) (o : Output) → FileOut plan_format (codes "plan") Why c (Some o) → (plain : Output) × FileOut plan_format (codes "plan") Plain c (Some plain) × IsSameAnswer plain o
plan_same = file_same plan_format (codes "plan") plan_refusals_reported

-- a text that is printed is a yes
yes_same : {V : Type 0} (Good : V → Type 0) (printed : V → List ℕ) → SameOfEach Good (λ v o. o ≡ record { text = printed v; status = Yes }) (λ v o. o ≡ record { text = printed v; status = Yes })
yes_same Good printed v o good is = (o, is, itself o (yes_stays o (ap (λ (x : Output). x.status) is)))

layers_stay : (first : Option LayerFault) (o : Output) → layers_verdict first ≡ Some o → Stays o
layers_stay None o is = grind (arith, common_steps, yes_stays)
layers_stay (Some fault) o is = reported_stays o (layers_reported fault o is)

-- ---- answers about a task

-- the refusal is what is left of one with reasons
refused_same : (p : Parts) (fault : LayerFault) (o : Output) → WellRanged p → why_refusal p fault ≡ Some o → (plain : Output) × (layers_refusal fault ≡ Some plain) × IsSameAnswer plain o
refused_same p fault o ranged reported =
    let (plain, is, same) = why_is p fault o reported in
    let w = worded (layer_words fault) layers_line plain is in
    let reasons = map (line_bytes p []) (layer_reasons p fault) in
    let are = lines_report p [] ranged tt (layer_reasons p fault) in
    let left = first_stays (codes "task refused: " ++ w.said) reasons (layer_reported fault w.said w.among) are in
    let whole : o.text ≡ layers_line w.said ++ text reasons = ap (λ (x : Output). x.text) same ∙ ap (λ (t : List ℕ). t ++ text reasons) w.text in (
      plain,
      is,
      record {
        status = ap (λ (x : Output). x.status) same;
        yes = λ is_yes. absurd (let apart : Yes ≡ No = sym is_yes ∙ w.status in cc);
        no = λ _. ap without_reasons whole ∙ (left ∙ sym w.text);
      },
    )

check_same : (p : Parts) (first : Option LayerFault) (o : Output) → WellRanged p → WhyAnswer p (λ output. layers_verdict None ≡ Some output) first o → (plain : Output) × (layers_verdict first ≡ Some plain) × IsSameAnswer plain o
check_same p None o ranged is = (o, is, itself o (layers_stay None o is))
check_same p (Some fault) o ranged is = refused_same p fault o ranged is

-- the reason for each verdict, counted from the first one
reasons_from : (p : Parts) (verdicts : List Verdict) (reasons : List (Option Reason)) → AreJointVerdicts p verdicts → AreReasons p verdicts reasons
    → (k : ℕ) → k < length verdicts → IsReasonIfAny p (0 + k) (get_or verdicts k Exclusive) (reason_at reasons (0 + k))
reasons_from p verdicts reasons joint are k lt = (let e : 0 + k ≡ k = omega arith in rw e (are.are k (omega (arith, joint.one_each))))

mutex_same : (p : Parts) (first : Option LayerFault) (o : Output) → WellRanged p → WhyAnswer p (WhyGroupsAnswer p) first o → (plain : Output) × LayeredGroupsAnswer p first plain × IsSameAnswer plain o
mutex_same p None o ranged (verdicts, reasons, joint, are, is) =
    let plain : Output = record { text = text (verdict_lines verdicts); status = groups_status verdicts } in
    let whole : o.text ≡ text (why_lines p verdicts reasons) = ap (λ (x : Output). x.text) is in (
      plain,
      (verdicts, joint, refl),
      record {
        status = ap (λ (x : Output). x.status) is;
        yes = λ is_yes. whole ∙ ap (λ (ls : List (List ℕ)). text ls) (all_exclusive p reasons 0 verdicts (reasons_from p verdicts reasons joint are) is_yes);
        no = λ _. ap without_reasons whole ∙ groups_kept p ranged reasons verdicts;
      },
    )
mutex_same p (Some fault) o ranged is = refused_same p fault o ranged is

unlayered_same : SameOfEach WellRanged (UnlayeredAnswer plain_refusal) (UnlayeredAnswer why_refusal)
unlayered_same p o ranged (fault, first, reported) = let it = refused_same p fault o ranged reported in (it.0, (fault, first, it.1), it.2)

-- ---- answers about a plan

-- the verdict is what is left of a text with reasons
explained_same : (p : Parts) (plan : PlanParts) (fault : PlanFault) (o : Output) → WellRanged p → WellNamed plan → (e : Explains p plan fault o.text) → o.status ≡ No → IsSameAnswer e.verdict o
explained_same p plan fault o ranged named e is_no =
    let w = worded (fault_words plan.cost fault) invalid_line e.verdict e.reported in
    let reasons = lines_report p plan.steps ranged named.steps e.reasons in
    let left = first_stays (codes "plan invalid: " ++ w.said) (map (line_bytes p plan.steps) e.reasons) (verdict_reported plan.cost fault w.said w.among) reasons in
    record {
      status = is_no ∙ sym w.status;
      yes = λ is_yes. absurd (let apart : Yes ≡ No = sym is_yes ∙ w.status in cc);
      no = λ _. ap without_reasons (e.whole ∙ ap (λ (t : List ℕ). t ++ reasons_text p plan.steps e.reasons) w.text) ∙ (left ∙ sym w.text);
    }

verdict_same : (p : Parts) → WellRanged p → SameOfEach WellNamed (VerdictAnswer p) (WhyVerdict p)
verdict_same p ranged plan o named (inl (valid, is)) = (o, inl (valid, is), itself o (yes_stays o (ap (λ (x : Output). x.status) is)))
verdict_same p ranged plan o named (inr (fault, is_fault, e, is_no)) = (e.verdict, inr (fault, is_fault, e.reported), explained_same p plan fault o ranged named e is_no)

-- ---- after a trace

-- lines in front that are no reasons stay
kept_behind : (front : List (List ℕ)) (bytes : List ℕ) → AllByRecursion IsReported front → without_reasons (text front ++ bytes) ≡ text front ++ without_reasons bytes
kept_behind front bytes reported = without_both front bytes ∙ ap (λ (t : List ℕ). t ++ without_reasons bytes) (stays (text front) (record { reported = front; each = reported; whole = refl }))

abbrev behind : List ℕ → Output → Output
behind front o = record { text = front ++ o.text; status = o.status }

same_behind : (front : List (List ℕ)) (plain why o : Output) → AllByRecursion IsReported front → IsSameAnswer plain why → o.text ≡ text front ++ why.text → o.status ≡ why.status → IsSameAnswer (behind (text front) plain) o
same_behind front plain why o reported same whole status = record {
  status = status ∙ same.status;
  yes = λ is_yes. whole ∙ ap (λ (t : List ℕ). text front ++ t) (same.yes is_yes);
  no = λ is_no. ap without_reasons whole ∙ (kept_behind front why.text reported ∙ ap (λ (t : List ℕ). text front ++ t) (same.no is_no));
}

answer_same : (p : Parts) (plan : PlanParts) (run : Run) (o : Output) → WellRanged p → WellNamed plan → EndsWith true p plan run o → (plain : Output) × EndsWith false p plan run plain × IsSameAnswer plain o
answer_same p plan run o ranged named (inl (ends, is)) = (o, inl (ends, is), itself o (yes_stays o (ap (λ (x : Output). x.status) is)))
answer_same p plan run o ranged named (inr (fault, ends, (e, is_no))) = (e.verdict, inr (fault, ends, e.reported), explained_same p plan fault o ranged named e is_no)

told_same : (trace : Bool) (p : Parts) → WellRanged p → SameOfEach WellNamed (VerdictWith trace false p) (VerdictWith trace true p)
told_same false p ranged = verdict_same p ranged
told_same true p ranged = λ plan o named t.
    let it = answer_same p plan t.run t.answer ranged named t.ends in (
      behind (text (run_lines p t.run)) it.0,
      record { run = t.run; through = t.through; answer = it.0; ends = it.1; whole = refl; status = refl },
      same_behind (run_lines p t.run) it.0 t.answer o (run_reported p ranged t.run) it.2 t.whole t.status,
    )

-- ---- all of them

abbrev with_trace : Bool → Bool → Detail
with_trace trace reasons = record { reasons = reasons; trace = trace }

pub same_of_read : (trace : Bool) (request : Request) (b c : List ℕ) (why : Output) → OutOfRead (with_trace trace true) request b c (Some why)
    → (plain : Output) × OutOfRead (with_trace trace false) request b c (Some plain) × IsSameAnswer plain why
same_of_read trace Show b c why out = task_same ShowAnswer ShowAnswer (yes_same WellRanged _) b why out
same_of_read trace Print b c why out = task_same (PrintAnswer task_format) (PrintAnswer task_format) (yes_same WellRanged _) b why out
same_of_read trace Steps b c why out = plan_same (PrintAnswer plan_format) (PrintAnswer plan_format) (yes_same WellNamed _) c why out
same_of_read trace Check b c why out = task_same CheckAnswer WhyCheckAnswer (λ p o ranged is. check_same p (first_fault (layer_checks p)) o ranged is) b why out
same_of_read trace Plan b c why (inl out) =
    let it = task_same (UnlayeredAnswer plain_refusal) (UnlayeredAnswer why_refusal) unlayered_same b why out in (it.0, inl it.1, it.2)
same_of_read trace Plan b c why (inr (p, reads, layered, out)) =
    let it = plan_same (VerdictWith trace false p) (VerdictWith trace true p) (told_same trace p reads.0.good) c why out in (it.0, inr (p, reads, layered, it.1), it.2)
same_of_read trace Mutex b c why out = task_same MutexAnswer WhyMutexAnswer (λ p o ranged is. mutex_same p (first_fault (layer_checks p)) o ranged is) b why out
