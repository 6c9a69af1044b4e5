-- How a run over many plans ends.
use Rattle.std.proofs.Common.{◌≡◌, ◌∙◌, ◌≤◌, ◌+◌, ◌++◌, ◌&&◌, inl, inr, ℕ, Bool, true, false, true≢false, cond, refl, sym, ap, subst, subst₂, arith, List, [], ◌∷◌, length, All, fold, count_by, bytes_eq, codes, Option, Some, None, Result, Ok, Err, IfOk, String, string_bytes, slice_index_or}
use Rattle.std.proofs.lemmas.List.{get_or-map, length-map}
use Rattle.std.specs.Result.{IsOkAnd}
use Rattle.std.specs.Io.KnownBytes.{Appends}
use Rattle.sas_answers.specs.declared.ending.Status.{Status}
use Rattle.sas_answers.specs.Shown.{shown_name}
use Rattle.sas_answers.specs.declared.ending.ToolFault.{ToolFault}
use Rattle.sas_answers.specs.declared.ending.ToolFault.TheVariants as faults
use Rattle.sas_requests.specs.Inputs.{HaveBytes, IsLabel, tool_result}
use Rattle.sas_requests.specs.Judged.{EndsPlans, JudgeOut, PlansHeadline}
use Rattle.sas_requests.specs.declared.inputs.JudgeFault.{JudgeFault}
use Rattle.sas_requests.specs.declared.inputs.JudgeFault.TheVariants.{Tool}
use Rattle.sas_words.specs.Calls.{bytes_of_words}
use Rattle.sas_words.specs.declared.calls.WordsFault.{WordsFault}
use Rattle.sas_words.specs.declared.calls.WordsFault.TheVariants as fault
use Rattle.sas_tool.specs.Does.{Refuses}
use Rattle.sas_tool.specs.Files.{bytes_if_known, source_held}
use Rattle.sas_tool.specs.Held.{Held, absent, holds, word_held}
use Rattle.sas_tool.specs.Jobs.{IsRefusedFor}
use Rattle.sas_tool.specs.Sources.{IsSource}
use Rattle.sas_tool.specs.Labels.{is_input, names_input, times_named}
use Rattle.sas_tool.specs.Endings.{error_text, text_of}
use Rattle.sas_tool.specs.PlansEndings.{plans_status, plans_text, task_text}
use Rattle.sas_tool.specs.declared.endings.Ended.TheVariants as ends
use Rattle.sas_tool.specs.PlansRuns.{AllHold, IsRefused, PlansDo, PlansRan, inputs_named}
use Rattle.sas_tool.specs.declared.arguments.Source.{Source}
use Rattle.sas_tool.specs.declared.arguments.Source.TheVariants.{File, Input}
use Rattle.sas_tool.specs.declared.plan_files.PlansEnded.{PlansEnded}
use Rattle.sas_tool.specs.declared.plan_files.PlansEnded.TheVariants as ended
use Rattle.sas_tool.proofs.Answering.{differs, held_same}

pub have_bytes : (held : List ℕ → Held) (words cs : List (List ℕ)) → AllHold held words cs → HaveBytes (λ number. bytes_if_known (held (slice_index_or words number []))) (length words) cs
have_bytes held words cs all = (all.0, λ number less. ap bytes_if_known (all.1 number less))

pub labels_of : {Z : Type 0} (labels : List (String Z)) → All IsLabel (bytes_of_words labels) → All (λ label. IsLabel (string_bytes label)) labels
labels_of labels all = λ k d less. subst IsLabel (get_or-map string_bytes labels k d [] less) (all k [] (omega (arith, less, length-map labels string_bytes)))

-- ---- how it ended

abbrev is_answered : PlansEnded → Bool
is_answered (ended.Judged (Ok status)) = true
is_answered _ = false

unanswered : (end : PlansEnded) (status : Status) → is_answered end ≡ false → end ≡ ended.Judged (Ok status) → ⊥
unanswered end status none e = true≢false (sym (ap is_answered e) ∙ none)

module _ (why : Bool) (labels : List (List ℕ)) (Twice : Type 0) (task : Held) (held : List ℕ → Held) (old : Option (List ℕ)) (Same : Type 0) (same : Same) where
  pub refused_ran : (end : PlansEnded) → is_answered end ≡ false → IsRefused labels Twice end → PlansRan why labels Twice task held old old Same end
  refused_ran end none refused = record {
    answers = λ b cs et all. inr (refused, same);
    no_task = λ e. (inr refused, same);
    headline = λ b before cs status e. absurd (unanswered end status none e);
  }

  pub unopened_ran : ((b : List ℕ) → task ≡ holds b → ⊥) → PlansRan why labels Twice task held old old Same ended.TaskNotOpened
  unopened_ran never = record {
    answers = λ b cs et. absurd (never b et);
    no_task = λ e. (inl refl, same);
    headline = λ b before cs status e. absurd (unanswered ended.TaskNotOpened status refl e);
  }

abbrev result_of : Result Status JudgeFault → PlansEnded → Result Status JudgeFault
result_of other (ended.Judged result) = result
result_of other _ = other

pub judged_ran : (why : Bool) (labels : List (List ℕ)) (Twice : Type 0) (task : Held) (held : List ℕ → Held) (old new : Option (List ℕ)) (Same : Type 0) (result : Result Status JudgeFault)
    → (task ≡ absent → ⊥)
    → ((b : List ℕ) (cs : List (List ℕ)) → task ≡ holds b → AllHold held labels cs → EndsPlans why (JudgeOut why labels b cs) (Appends old new) (tool_result result))
    → IfOk result (λ status. (b before : List ℕ) (cs : List (List ℕ)) → task ≡ holds b → AllHold held labels cs → old ≡ Some before → PlansHeadline why labels b cs (Appends old new) status)
    → PlansRan why labels Twice task held old new Same (ended.Judged result)
judged_ran why labels Twice task held old new Same result there output headline = record {
  answers = λ b cs et all. inl (result, refl, output b cs et all);
  no_task = λ e. absurd (there e);
  headline = λ b before cs status e. subst (λ r. IfOk r (λ status. (b before : List ℕ) (cs : List (List ℕ)) → task ≡ holds b → AllHold held labels cs → old ≡ Some before
      → PlansHeadline why labels b cs (Appends old new) status)) (ap (result_of result) e) headline b before cs;
}

-- ---- what stands on standard error, by the word that names the task

named_text : (why : Bool) (t line : List ℕ) (source : Option Source) → IsSource (t ∷ []) source → text_of (Some line) (why && true) source ≡ (line ++ codes "\n") ++ task_text why t
named_text why t line None is = absurd (omega (arith, ap length is))
named_text true t line (Some Input) is = ap (λ n. (line ++ codes "\n") ++ (codes "  " ++ shown_name n ++ codes "\n")) (sym (word_of is))
  where
    word_of : t ∷ [] ≡ codes "-" ∷ [] → t ≡ codes "-"
    word_of e = ap first e
      where
        first : List (List ℕ) → List ℕ
        first [] = []
        first (x ∷ xs) = x
named_text true t line (Some (File name)) is = ap (λ n. (line ++ codes "\n") ++ (codes "  " ++ shown_name n ++ codes "\n")) (sym (word_of is.0))
  where
    word_of : t ∷ [] ≡ string_bytes name ∷ [] → t ≡ string_bytes name
    word_of e = ap first e
      where
        first : List (List ℕ) → List ℕ
        first [] = []
        first (x ∷ xs) = x
named_text false t line (Some source) is = refl

pub unopened_text : (why : Bool) (t : List ℕ) (labels : List (List ℕ)) (source : Option Source) → IsSource (t ∷ []) source → error_text ends.TaskNotOpened why source ≡ plans_text why t labels ended.TaskNotOpened
unopened_text why t labels source is = named_text why t (codes "sas: cannot open the task") source is

no_text : (why : Bool) (line : List ℕ) (source : Option Source) → text_of (Some line) (why && false) source ≡ text_of (Some line) false None
no_text true line source = refl
no_text false line source = refl

pub judged_text : (why : Bool) (t : List ℕ) (labels : List (List ℕ)) (source : Option Source) (fault : ToolFault) → IsSource (t ∷ []) source
    → error_text (ends.Answered (Err fault)) why source ≡ plans_text why t labels (ended.Judged (Err (Tool fault)))
judged_text why t labels source faults.Read is = named_text why t (codes "sas: read failed") source is
judged_text why t labels source faults.TooLong is = named_text why t (codes "sas: input too long") source is
judged_text why t labels source faults.Memory is = no_text why (codes "sas: out of memory") source
judged_text why t labels source (faults.Write written) is = no_text why (codes "sas: write failed") source

-- ---- by words

counted : {Z : Type 0} (n : ℕ) (labels : List (String Z)) → fold (λ a label. a + cond (bytes_eq label (codes "-")) 1 0) n (bytes_of_words labels) ≡ fold (λ a label. a + cond (names_input label) 1 0) n labels
counted n [] = refl
counted n (label ∷ labels) = counted (n + cond (bytes_eq (string_bytes label) (codes "-")) 1 0) labels

word_is_input : (t : List ℕ) (source : Option Source) → IsSource (t ∷ []) source → is_input source ≡ bytes_eq t (codes "-")
word_is_input t None is = absurd (omega (arith, ap length is))
word_is_input t (Some Input) is = sym (ap (λ l. bytes_eq (first l) (codes "-")) is)
  where
    first : List (List ℕ) → List ℕ
    first [] = []
    first (x ∷ xs) = x
word_is_input t (Some (File name)) is = sym (ap (λ l. bytes_eq (first l) (codes "-")) is.0 ∙ differs (string_bytes name) (codes "-") is.1)
  where
    first : List (List ℕ) → List ℕ
    first [] = []
    first (x ∷ xs) = x

named_same : {Z : Type 0} (t : List ℕ) (labels : List (List ℕ)) (source : Option Source) (words : List (String Z)) → IsSource (t ∷ []) source → bytes_of_words words ≡ labels
    → times_named (is_input source) words ≡ inputs_named t labels
named_same t labels source words is same = ap (λ b. cond b 1 0 + count_by names_input words) (word_is_input t source is)
    ∙ ap (λ n. cond (bytes_eq t (codes "-")) 1 0 + n) (sym (counted 0 words) ∙ ap (λ l. count_by (λ label. bytes_eq label (codes "-")) l) same)

plans_done : {Z : Type 0} (why : Bool) (held : List ℕ → Held) (input : Option (List ℕ)) (t : List ℕ) (labels : List (List ℕ)) (task : Option Source) (words : List (String Z)) (old new : Option (List ℕ)) (Same : Type 0)
    (Put : List ℕ → Type 0) (end : PlansEnded) (status : ℕ) → IsSource (t ∷ []) task → bytes_of_words words ≡ labels
    → PlansRan why (bytes_of_words words) (2 ≤ times_named (is_input task) words) (source_held held input task) (word_held held input) old new Same end → status ≡ plans_status end
    → ((u : List ℕ) → IsSource (u ∷ []) task → Put (plans_text why u (bytes_of_words words) end)) → PlansDo (word_held held input) why t labels old new Same Put status
plans_done why held input t labels task words old new Same Put end status is same ran ends put = record {
  end = end;
  ran = subst₂ (λ n h. PlansRan why labels (2 ≤ n) h (word_held held input) old new Same end) (named_same t labels task words is same) (held_same held input (t ∷ []) task is)
      (subst (λ l. PlansRan why l (2 ≤ times_named (is_input task) words) (source_held held input task) (word_held held input) old new Same end) same ran);
  ends = ends;
  put = subst (λ l. Put (plans_text why t l end)) same (put t is);
}

pub plans_do : {Z : Type 0} (flag why : Bool) (held : List ℕ → Held) (input : Option (List ℕ)) (t : List ℕ) (labels : List (List ℕ)) (task : Option Source) (words : List (String Z)) (old new : Option (List ℕ)) (Same : Type 0)
    (Put : List ℕ → Type 0) (end : PlansEnded) (status : ℕ) → flag ≡ why → IsSource (t ∷ []) task → bytes_of_words words ≡ labels
    → PlansRan flag (bytes_of_words words) (2 ≤ times_named (is_input task) words) (source_held held input task) (word_held held input) old new Same end → status ≡ plans_status end
    → ((u : List ℕ) → IsSource (u ∷ []) task → Put (plans_text flag u (bytes_of_words words) end)) → PlansDo (word_held held input) why t labels old new Same Put status
plans_do flag why held input t labels task words old new Same Put end status e is same ran ends put =
    subst (λ w. PlansDo (word_held held input) w t labels old new Same Put status) e (plans_done flag held input t labels task words old new Same Put end status is same ran ends put)

pub refused_plans : (why : Bool) (held : List ℕ → Held) (t : List ℕ) (labels : List (List ℕ)) (old : Option (List ℕ)) (Same : Type 0) (Put : List ℕ → Type 0) (result : Result ℕ WordsFault) (f : WordsFault)
    → Same → IsRefusedFor (t ∷ labels) f → Refuses Put result f → IsOkAnd result (PlansDo held why t labels old old Same Put)
refused_plans why held t labels old Same Put (Ok status) fault.Memory same refused reports = record {
  end = ended.Judged (Err (Tool faults.Memory));
  ran = refused_ran why labels (2 ≤ inputs_named t labels) (held t) held old Same same (ended.Judged (Err (Tool faults.Memory))) refl tt;
  ends = reports.0;
  put = reports.1;
}
refused_plans why held t labels old Same Put (Err e) fault.Memory same refused reports = absurd reports
refused_plans why held t labels old Same Put (Ok status) fault.InputTwice same refused reports = record {
  end = ended.InputTwice;
  ran = refused_ran why labels (2 ≤ inputs_named t labels) (held t) held old Same same ended.InputTwice refl (subst₂ (λ x l. 2 ≤ inputs_named x l) (sym (ap head refused)) (sym (ap tail refused)) (omega arith));
  ends = reports.0;
  put = reports.1;
}
  where
    head : List (List ℕ) → List ℕ
    head [] = []
    head (x ∷ xs) = x

    tail : List (List ℕ) → List (List ℕ)
    tail [] = []
    tail (x ∷ xs) = xs
refused_plans why held t labels old Same Put (Err e) fault.InputTwice same refused reports = absurd reports
refused_plans why held t labels old Same Put result (fault.Refused error) same refused reports = absurd refused
refused_plans why held t labels old Same Put result (fault.Version error) same refused reports = absurd refused
