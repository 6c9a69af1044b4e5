-- What the program does at a call.
use Rattle.std.proofs.Common.{◌≡◌, ◌≢◌, ◌++◌, ◌<◌, inl, inr, ℕ, Bool, true, false, cond, refl, sym, ap, subst, subst₂, arith, List, [], ◌∷◌, bytes_eq, codes, Option, Some, None, Result, Ok, Err, IfOk}
use Rattle.std.proofs.lemmas.Slice.Eq.{bytes_eq-Decides}
use Rattle.std.specs.Result.{IsOkAnd}
use Rattle.std.specs.String.{string_bytes}
use Rattle.sas_answers.specs.declared.ending.ToolFault.TheVariants.{Memory, Read, TooLong, Write}
use Rattle.sas_requests.specs.declared.question.Question.{Question}
use Rattle.sas_words.specs.declared.calls.WordsFault.{WordsFault}
use Rattle.sas_words.specs.declared.calls.WordsFault.TheVariants as fault
use Rattle.sas_tool.specs.Does.{Does, IsLast, IsUnanswered, Refuses, words_held}
use Rattle.sas_words.specs.Grammar.{plan_words, task_words}
use Rattle.sas_tool.specs.Endings.{error_text, status_of}
use Rattle.sas_tool.specs.Files.{source_held}
use Rattle.sas_tool.specs.Held.{Held, held_if_known}
use Rattle.sas_tool.specs.Jobs.{IsRefusedFor}
use Rattle.sas_tool.specs.Sources.{IsSource}
use Rattle.sas_tool.specs.Runs.{IsLastOf, Ran}
use Rattle.sas_tool.specs.Says.{Says}
use Rattle.sas_tool.specs.declared.arguments.Source.{Source}
use Rattle.sas_tool.specs.declared.arguments.Source.TheVariants.{File, Input}
use Rattle.sas_tool.specs.declared.endings.Ended.{Ended}
use Rattle.sas_tool.specs.declared.endings.Ended.TheVariants as ended
use Rattle.sas_tool.proofs.Running.{none_said, says_none}

-- ---- sources, by their words

pub differs : (a b : List ℕ) → a ≢ b → bytes_eq a b ≡ false
differs a b other = go (bytes_eq a b) refl
  where
    go : (x : Bool) → bytes_eq a b ≡ x → x ≡ false
    go true e = absurd (other ((bytes_eq-Decides a b).0 e))
    go false e = refl

pub held_same : (held : List ℕ → Held) (input : Option (List ℕ)) (words : List (List ℕ)) (source : Option Source) → IsSource words source → source_held held input source ≡ words_held held input words
held_same held input words None is = subst (λ l. source_held held input None ≡ words_held held input l) (sym is) refl
held_same held input words (Some Input) is = subst (λ l. source_held held input (Some Input) ≡ words_held held input l) (sym is) refl
held_same held input words (Some (File name)) is = subst (λ l. source_held held input (Some (File name)) ≡ words_held held input l) (sym is.0)
    (ap (λ b. cond b (held_if_known input) (held (string_bytes name))) (sym (differs (string_bytes name) (codes "-") is.1)))

pub last_is : (task_words plan_words : List (List ℕ)) (task plan : Option Source) (end : Ended) (last : Option Source) → IsSource task_words task → IsSource plan_words plan
    → IsLastOf task plan end last → IsLast task_words plan_words end last
last_is tw pw task plan ended.TaskNotOpened last is_task is_plan is = subst (IsSource tw) (sym is) is_task
last_is tw pw task plan ended.PlanNotOpened last is_task is_plan is = subst (IsSource pw) (sym is) is_plan
last_is tw pw task plan (ended.Answered (Err Read)) last is_task is_plan (inl is) = inl (subst (IsSource tw) (sym is) is_task)
last_is tw pw task plan (ended.Answered (Err Read)) last is_task is_plan (inr is) = inr (subst (IsSource pw) (sym is) is_plan)
last_is tw pw task plan (ended.Answered (Err TooLong)) last is_task is_plan (inl is) = inl (subst (IsSource tw) (sym is) is_task)
last_is tw pw task plan (ended.Answered (Err TooLong)) last is_task is_plan (inr is) = inr (subst (IsSource pw) (sym is) is_plan)
last_is tw pw task plan (ended.Answered (Err Memory)) last is_task is_plan is = tt
last_is tw pw task plan (ended.Answered (Err (Write written))) last is_task is_plan is = tt
last_is tw pw task plan (ended.Answered (Ok status)) last is_task is_plan is = tt
last_is tw pw task plan ended.NotReady last is_task is_plan is = tt

-- ---- calls that have no job

no_memory : (question : Question) (task plan : Held) (old : Option (List ℕ)) (Same : Type 0) → Same → Ran question task plan old old Same (ended.Answered (Err Memory))
no_memory question task plan old Same same = record {
  answers = λ b c et ep. inl (Err Memory, refl, tt);
  no_task = λ e. (inr (inl refl), same);
  no_plan = λ b et ep. (inr (inl refl), same);
  says = λ about b c before et ep ew. says_none b c _ 3 (omega arith);
  invariants = λ about b before et ew less. none_said _ 3 (omega arith) less;
}

pub refused_does : (question : Question) (held : List (List ℕ) → Held) (task plan files : List (List ℕ)) (old : Option (List ℕ)) (Same : Type 0) (Put : List ℕ → Type 0)
    (result : Result ℕ WordsFault) (f : WordsFault) → Same → files ≢ codes "-" ∷ codes "-" ∷ [] → IsRefusedFor files f → Refuses Put result f → IsOkAnd result (Does question held task plan old old Same Put)
refused_does question held task plan files old Same Put (Ok status) fault.Memory same once refused reports = record {
  end = ended.Answered (Err Memory);
  last = None;
  ran = no_memory question (held task) (held plan) old Same same;
  whose = tt;
  ends = reports.0;
  put = put_memory question.detail.reasons reports.1;
}
  where
    put_memory : (why : Bool) → Put (codes "sas: out of memory" ++ codes "\n") → Put (error_text (ended.Answered (Err Memory)) why None)
    put_memory true put = put
    put_memory false put = put
refused_does question held task plan files old Same Put (Err e) fault.Memory same once refused reports = absurd reports
refused_does question held task plan files old Same Put result fault.InputTwice same once refused reports = absurd (once refused)
refused_does question held task plan files old Same Put result (fault.Refused error) same once refused reports = absurd refused
refused_does question held task plan files old Same Put result (fault.Version error) same once refused reports = absurd refused

pub refused_says : (b c : List ℕ) (Sent : List ℕ → Type 0) (files : List (List ℕ)) (Put : List ℕ → Type 0) (result : Result ℕ WordsFault) (f : WordsFault)
    → IsRefusedFor files f → Refuses Put result f → IsOkAnd result (Says b c Sent)
refused_says b c Sent files Put (Ok status) fault.Memory refused reports = says_none b c Sent status (omega (arith, reports.0))
refused_says b c Sent files Put (Err e) fault.Memory refused reports = absurd reports
refused_says b c Sent files Put (Ok status) fault.InputTwice refused reports = says_none b c Sent status (omega (arith, reports.0))
refused_says b c Sent files Put (Err e) fault.InputTwice refused reports = absurd reports
refused_says b c Sent files Put result (fault.Refused error) refused reports = absurd refused
refused_says b c Sent files Put result (fault.Version error) refused reports = absurd refused

-- two files that are standard input
pub refused_twice : (files : List (List ℕ)) (Put : List ℕ → Type 0) (result : Result ℕ WordsFault) (f : WordsFault) → IsRefusedFor files f → Refuses Put result f → IsOkAnd result (IsUnanswered Put)
refused_twice files Put (Ok status) fault.Memory refused reports = inl reports
refused_twice files Put (Err e) fault.Memory refused reports = absurd reports
refused_twice files Put (Ok status) fault.InputTwice refused reports = inr reports
refused_twice files Put (Err e) fault.InputTwice refused reports = absurd reports
refused_twice files Put result (fault.Refused error) refused reports = absurd refused
refused_twice files Put result (fault.Version error) refused reports = absurd refused

-- groups
pub refused_groups : (P : Type 0) (files : List (List ℕ)) (Put : List ℕ → Type 0) (result : Result ℕ WordsFault) (f : WordsFault) → IsRefusedFor files f → Refuses Put result f → IsOkAnd result (λ status. status < 2 → P)
refused_groups P files Put (Ok status) fault.Memory refused reports = λ less. none_said P status (omega (arith, reports.0)) less
refused_groups P files Put (Err e) fault.Memory refused reports = absurd reports
refused_groups P files Put (Ok status) fault.InputTwice refused reports = λ less. none_said P status (omega (arith, reports.0)) less
refused_groups P files Put (Err e) fault.InputTwice refused reports = absurd reports
refused_groups P files Put result (fault.Refused error) refused reports = absurd refused
refused_groups P files Put result (fault.Version error) refused reports = absurd refused

-- and words that are no call
pub refused_words : (Put : List ℕ → Type 0) (result : Result ℕ WordsFault) (f : WordsFault) → Refuses Put result f → IfOk result (λ status. 1 < status)
refused_words Put (Ok status) fault.Memory reports = omega (arith, reports.0)
refused_words Put (Ok status) fault.InputTwice reports = omega (arith, reports.0)
refused_words Put (Ok status) (fault.Refused error) reports = absurd reports
refused_words Put (Ok status) (fault.Version error) reports = absurd reports
refused_words Put (Err e) f reports = tt

-- ---- calls over files

pub files_do : (held : List ℕ → Held) (input : Option (List ℕ)) (q question : Question) (name : List ℕ) (task plan : Option Source) (files : List (List ℕ)) (old new : Option (List ℕ)) (Same : Type 0)
    (Put : List ℕ → Type 0) (end : Ended) (last : Option Source) (status : ℕ) → q ≡ question → IsSource (task_words name files) task → IsSource (plan_words name files) plan
    → Ran q (source_held held input task) (source_held held input plan) old new Same end → IsLastOf task plan end last → status ≡ status_of end → Put (error_text end q.detail.reasons last)
    → Does question (words_held held input) (task_words name files) (plan_words name files) old new Same Put status
files_do held input q question name task plan files old new Same Put end last status same is_task is_plan ran whose ends put =
    let tw = task_words name files in
    let pw = plan_words name files in
    record {
      end = end;
      last = last;
      ran = subst (λ r. Ran r (words_held held input tw) (words_held held input pw) old new Same end) same
          (subst₂ (λ t p. Ran q t p old new Same end) (held_same held input tw task is_task) (held_same held input pw plan is_plan) ran);
      whose = last_is tw pw task plan end last is_task is_plan whose;
      ends = ends;
      put = subst (λ (r : Question). Put (error_text end r.detail.reasons last)) same put;
    }
