-- How the output about one file goes out.
use Rattle.std.proofs.lemmas.Grind.{common_steps}
use Rattle.std.proofs.Common.{arith, ap}
use Rattle.sas_reader.specs.Found.{Kept}
use Rattle.sas_requests.specs.FileLine.{task_reasons, plan_reasons}
use Rattle.sas_requests.proofs.Imports.{◌≡◌, ◌≢◌, ℕ, true, false, List, [], refl, sym, subst, ◌∙◌, inr, codes, Option, Some, None, Result, Ok, Err, IsErrOf, IsSomeAnd, ◌↔◌, Consumes, IsAtEnd, Parts, PlanParts, first_fault, LayerFault, layer_checks, Device, Fault, TooLong, Read, Memory, Excerpt, ReadsAll, ValueOf, Format, ReadsAs, Bool, FileBy, TaskBy, PlanBy, UnlayeredBy, layers_by, refusal_by, task_refusal_lines, plan_refusal_lines, FaultReasons, reported, past_limit, FileReasons, AreTaskReasons, ArePlanReasons, IsAbout, IsFoundOf, most_bytes, ConcernsText, AboutLaws, ExplainsRefusal, ReadsOrExplains, known_answer, known_fault, known_explained, PlanRefusal, plan_format, fault_of, found_of, TellsLacks, ReadsPlan, less, task_format, TaskRefusal, fault_in, found_in, HasReason, ReadsTask, FileLine, file_text, Status, ToolFault, Output, Ends, EndsCounting, IsDecided, Writes, Answers, ends_by, writes_as, writes_counting, writes_answers, answers_by, not_memory, refusal, IsAnswerOrRefusal, FileOut, EndsFile, HoldsOf}
use Rattle.sas_plan_file.specs.PlanRefusal.{ExplainsPlan}
use Rattle.sas_requests.proofs.Outputs.{refused_kind, too_long_else, reading_of_refusal}
use Rattle.sas_requests.proofs.PlanOutputs.{reported_fault}
use Rattle.sas_meaning.specs.declared.layered.LayerFault.TheVariants as layer_fault
use Rattle.sas_answers.specs.declared.ending.ToolFault.TheVariants as tool_fault
use Rattle.sas_requests.proofs.RefusalLaws.{task_reporting, plan_reporting, task_unended, plan_unended, plan_without_cost}
use Rattle.sas_requests.proofs.RefusalReasons.{some_of, reasoned_by, more_reasoned, reported_alone}

-- ---- what is written

module _ {W : Type 0} (contents : W → Option (List ℕ)) (old new : Device W) (r : Result Status ToolFault) where
  -- what is written with this output is written with one that is such an answer
  pub writes_some : (P : Output → Type 0) (o : Output) → P o → Writes contents (Ends (λ output. output ≡ Some o)) old new r → Writes contents (EndsCounting (λ output. IsSomeAnd output P)) old new r
  writes_some P o right writes = writes_as contents old new r o (λ output. IsSomeAnd output P) right (writes_counting contents old new r (λ output. output ≡ Some o) writes)

  -- it is the answer, too
  pub writes_plainly : (o : Option Output) → Writes contents (Ends (λ output. output ≡ o)) old new r → Answers contents (Ends (λ output. output ≡ o)) old new r
  writes_plainly o = writes_answers contents old new r (Ends (λ output. output ≡ o)) (Ends (λ output. output ≡ o)) (λ Sent never ends. ends)

  -- and one about a file is right for its bytes
  pub answers_known : {D : Type 0} (left : D → Option (List ℕ)) (FileOutput : List ℕ → Option Output → Type 0) (file_old file_new : Device D) (b : List ℕ) → left file_old.device ≡ Some b
      → Answers contents (EndsFile left FileOutput file_old file_new) old new r → Answers contents (EndsCounting (FileOutput b)) old new r
  answers_known left FileOutput file_old file_new b known = answers_by contents old new r (EndsFile left FileOutput file_old file_new) (EndsCounting (FileOutput b)) (λ Sent one. one.output b known)

-- memory is refused before anything is written
pub starved : {W : Type 0} (contents : W → Option (List ℕ)) (old : Device W) (o : Option Output) → old.failed ≡ false → Writes contents (Ends (λ output. output ≡ o)) old old (Err tool_fault.Memory)
starved contents old o working = record { ends = tt; nothing = inr (refl, refl); writes = (λ e. absurd e, λ t. let apart : true ≡ false = sym t ∙ working in absurd cc) }

-- ---- the output about the bytes of a file

module _ {V I S : Type 0} (F : Format V I S) (Reports : List ℕ → Fault → List (List ℕ) → List ℕ → List FileLine → Type 0) (name : List ℕ) where
  -- an answer about their value
  pub value_by : (explains : Bool) (IsAnswer : V → Output → Type 0) (b : List ℕ) (v : V) (o : Output) → ReadsAs F most_bytes b (Ok v) → IsAnswer v o → FileBy F Reports name explains IsAnswer b (Some o)
  value_by explains IsAnswer b v o reads is =
      reasoned_by explains (FileOut F name IsAnswer b) (FileReasons F Reports b) (Some o) (Some o) [] (Ok v, reads, (o, is, refl)) (Ok v, reads, refl) (reported_alone explains (Some o))

  -- other answers that follow
  more_read : (A B : V → Output → Type 0) → ((v : V) (o : Output) → A v o → B v o) → (r : Result V Fault) (o : Option Output) → IsAnswerOrRefusal name A r o → IsAnswerOrRefusal name B r o
  more_read h1 h2 to h3 o h4 = grind arith

  more_by : (explains : Bool) (A B : V → Output → Type 0) → ((v : V) (o : Output) → A v o → B v o) → (b : List ℕ) (o : Option Output) → FileBy F Reports name explains A b o → FileBy F Reports name explains B b o
  more_by explains h1 h2 to b = grind (arith, more_reasoned, more_read)

  module _ (f : Fault) (reasons : List FileLine) where
    plain_kind : (o : Output) → refusal name f ≡ Some o → ConcernsText f.kind
    plain_kind o refused = (refused_kind f.kind Read _ o refl refused, refused_kind f.kind TooLong _ o refl refused, refused_kind f.kind Memory _ o refl refused)

    -- the kind of a fault that is refused
    reported_kind : (explains : Bool) (o : Output) → Some o ≡ refusal_by explains name f reasons → ConcernsText f.kind
    reported_kind true o is = let (plain, refused, same) = some_of (file_text reasons) (refusal name f) o is in plain_kind plain refused
    reported_kind false o is = plain_kind o (sym is)

    module _ (explains : Bool) (IsAnswer : V → Output → Type 0) (b : List ℕ) (reads : ReadsAs F most_bytes b (Err f)) where
      -- the refusal
      refused_by : (o : Output) → Some o ≡ refusal_by explains name f reasons → FaultReasons F Reports b f reasons → FileBy F Reports name explains IsAnswer b (Some o)
      refused_by o is why = reasoned_by explains (FileOut F name IsAnswer b) (FileReasons F Reports b) (refusal name f) (Some o) reasons (Err f, reads, refl) (Err f, reads, why) is

      -- or none, past the limit
      long_by : f.kind ≡ TooLong → FileBy F Reports name explains IsAnswer b None
      long_by long = reasoned_by explains (FileOut F name IsAnswer b) (FileReasons F Reports b) None None [] (Err f, reads, rw long refl) (Err f, reads, past_limit long refl) (reported_alone explains None)

  -- what is read of bytes in memory is answered
  module _ {W : Type 0} (contents : W → Option (List ℕ)) (out_old out_new : Device W) (explains : Bool) (IsAnswer : V → Output → Type 0) (b : List ℕ) where
    some_value : (v : V) → ReadsAs F most_bytes b (Ok v) → (o : Option Output) → IsSomeAnd o (IsAnswer v) → FileBy F Reports name explains IsAnswer b o
    some_value v reads h1 is = grind (arith, value_by)

    pub bytes_value : (v : V) (r : Result Status ToolFault) → ReadsAs F most_bytes b (Ok v) → Writes contents (EndsCounting (λ o. IsSomeAnd o (IsAnswer v))) out_old out_new r
        → Answers contents (EndsCounting (FileBy F Reports name explains IsAnswer b)) out_old out_new r
    bytes_value v r reads = writes_answers contents out_old out_new r (EndsCounting (λ o. IsSomeAnd o (IsAnswer v))) (EndsCounting (FileBy F Reports name explains IsAnswer b))
        (λ Sent never ends. ends_by Sent (λ o. IsSomeAnd o (IsAnswer v)) (FileBy F Reports name explains IsAnswer b) r (some_value v reads) ends)

  -- a refusal, with the reasons for it
  module _ {R : Type 0} (fault : R → Fault) (found : R → Excerpt) (Answer : List (List ℕ) → List ℕ → R → Type 0)
      (r : R) (reasons : List FileLine) (reports : (b : List ℕ) (accepted : List (List ℕ)) (text : List ℕ) → (fault r).kind ≢ TooLong → IsAbout F most_bytes b (fault r) accepted text → IsFoundOf (fault r).kind text (found r) → Answer accepted text r → Reports b (fault r) accepted text reasons) where
    pub reasons_of : (b : List ℕ) → ConcernsText (fault r).kind → ExplainsRefusal F fault found Answer b r → FaultReasons F Reports b (fault r) reasons
    reasons_of b kind e = reported e.accepted e.text e.about (reports b e.accepted e.text kind.1 e.about e.kept e.why)

    pub long_memory : (fault r).kind ≡ TooLong → (fault r).kind ≢ Memory
    long_memory long = too_long_else (fault r).kind Memory long (λ e. absurd cc)

    pub long_read : (fault r).kind ≡ TooLong → (fault r).kind ≢ Read
    long_read long = too_long_else (fault r).kind Read long (λ e. absurd cc)

    module _ (explains : Bool) (IsAnswer : V → Output → Type 0) (b : List ℕ) (reads : (fault r).kind ≢ Memory → (fault r).kind ≢ Read → ReadsAs F most_bytes b (Err (fault r)))
        (explained : ConcernsText (fault r).kind → ExplainsRefusal F fault found Answer b r) where
      pub some_out : (o : Output) → Some o ≡ refusal_by explains name (fault r) reasons → FileBy F Reports name explains IsAnswer b (Some o)
      some_out o is = (let kind = reported_kind (fault r) reasons explains o is in refused_by (fault r) reasons explains IsAnswer b (reads kind.2 kind.0) o is (reasons_of b kind (explained kind)))

      pub none_out : (fault r).kind ≡ TooLong → FileBy F Reports name explains IsAnswer b None
      none_out long = long_by (fault r) reasons explains IsAnswer b (reads (long_memory long) (long_read long)) long

      pub refusal_ends : (Sent : List ℕ → Type 0) (result : Result Status ToolFault) → Ends (λ o. o ≡ refusal_by explains name (fault r) reasons) Sent result
          → (IsErrOf result tool_fault.TooLong → (fault r).kind ≡ TooLong) → EndsCounting (FileBy F Reports name explains IsAnswer b) Sent result
      refusal_ends h1 h2 h3 long = grind (arith, some_out, less, none_out)

-- ---- how it goes out

module _ {D V I S A W : Type 0} (left : D → Option (List ℕ)) (F : Format V I S) (Reports : List ℕ → Fault → List (List ℕ) → List ℕ → List FileLine → Type 0) (Gives : List ℕ → A → Type 0) (name : List ℕ)
    (explains : Bool) (IsAnswer : V → Output → Type 0) (old new : Device D) (contents : W → Option (List ℕ)) (out_old out_new : Device W) where
  abbrev FileOutput : List ℕ → Option Output → Type 0
  FileOutput = FileBy F Reports name explains IsAnswer

  module _ (a : A) (Is : Output → Type 0) (gives : (b : List ℕ) → Gives b a → (o : Output) → Is o → (v : V) × ReadsAs F most_bytes b (Ok v) × IsAnswer v o) where
    value_out : (b : List ℕ) → Gives b a → (o : Option Output) → IsSomeAnd o Is → FileOutput b o
    value_out b given h1 is = grind (arith, value_by)

    -- what was read is answered
    pub answers_value : (r : Result Status ToolFault) → ReadsAll left F Gives old new (Ok a) → Writes contents (EndsCounting (λ o. IsSomeAnd o Is)) out_old out_new r → Answers contents (EndsFile left FileOutput old new) out_old out_new r
    answers_value r read = grind (arith, common_steps, writes_answers, ends_by, value_out, known_answer)

  -- so it is where the answer is this output
  pub answers_text : (a : A) (x : Output) (r : Result Status ToolFault) → ReadsAll left F Gives old new (Ok a) → ((b : List ℕ) → Gives b a → (v : V) × ReadsAs F most_bytes b (Ok v) × IsAnswer v x)
      → Writes contents (EndsCounting (λ o. o ≡ Some x)) out_old out_new r → Answers contents (EndsFile left FileOutput old new) out_old out_new r
  answers_text a x r read gives writes =
      answers_value a (λ o. o ≡ x) (λ b given o is. let (v, reads, answer) = gives b given in (v, reads, subst (IsAnswer v) (sym is) answer)) r read
      (writes_as contents out_old out_new r x (λ output. IsSomeAnd output (λ o. o ≡ x)) refl writes)

  -- and where its bytes are counted exactly
  pub answers_exactly : (a : A) (x : Output) (r : Result Status ToolFault) → ReadsAll left F Gives old new (Ok a) → ((b : List ℕ) → Gives b a → (v : V) × ReadsAs F most_bytes b (Ok v) × IsAnswer v x)
      → Writes contents (Ends (λ o. o ≡ Some x)) out_old out_new r → Answers contents (EndsFile left FileOutput old new) out_old out_new r
  answers_exactly a x r read gives writes = answers_text a x r read gives (writes_counting contents out_old out_new r (λ o. o ≡ Some x) writes)

  -- and where the answers are others that follow
  pub answers_more : (Other : V → Output → Type 0) → ((v : V) (o : Output) → IsAnswer v o → Other v o) → (r : Result Status ToolFault)
      → Answers contents (EndsFile left FileOutput old new) out_old out_new r → Answers contents (EndsFile left (FileBy F Reports name explains Other) old new) out_old out_new r
  answers_more Other to r =
      let More = FileBy F Reports name explains Other in
      answers_by contents out_old out_new r (EndsFile left FileOutput old new) (EndsFile left More old new) (λ Sent one. record {
        output = λ b known. ends_by Sent (FileOutput b) (More b) r (more_by F Reports name explains IsAnswer Other to b) (one.output b known);
        taken = λ decided. let (b, consumed, ends) = one.taken decided in (b, consumed, ends_by Sent (FileOutput b) (More b) r (more_by F Reports name explains IsAnswer Other to b) ends);
        reads = one.reads;
      })

  module _ {R : Type 0} (reporting : AboutLaws F) (fault : R → Fault) (found : R → Excerpt) (Answer : List (List ℕ) → List ℕ → R → Type 0)
      (r : R) (reasons : List FileLine) (reports : (b : List ℕ) (accepted : List (List ℕ)) (text : List ℕ) → (fault r).kind ≢ TooLong → IsAbout F most_bytes b (fault r) accepted text → IsFoundOf (fault r).kind text (found r) → Answer accepted text r → Reports b (fault r) accepted text reasons)
      (h : ReadsOrExplains F fault found Answer left Gives old new (Err r)) where
    plain : ReadsAll left F Gives old new (Err (fault r))
    plain = h.plain

    pub taken_out : (o : Output) → Some o ≡ refusal_by explains name (fault r) reasons → (b : List ℕ) × Consumes (left old.device) (left new.device) b × FileOutput b (Some o)
    taken_out o is =
        let kind = reported_kind F Reports name (fault r) reasons explains o is in
        let x = h.explained kind in
        (x.0, x.1, refused_by F Reports name (fault r) reasons explains IsAnswer x.0 (reading_of_refusal F x.0 (IsAtEnd (left new.device)) (fault r) x.2 kind.0) o is (reasons_of F Reports name fault found Answer r reasons reports x.0 kind x.3))

    pub taken_long : (fault r).kind ≡ TooLong → (b : List ℕ) × Consumes (left old.device) (left new.device) b × FileOutput b None
    taken_long long =
        let x = plain.fault (too_long_else (fault r).kind Memory long (λ e. absurd cc)) in
        (x.0, x.1, long_by F Reports name (fault r) reasons explains IsAnswer x.0 (reading_of_refusal F x.0 (IsAtEnd (left new.device)) (fault r) x.2 (too_long_else (fault r).kind Read long (λ e. absurd cc))) long)

    abbrev RefusesFault : (List ℕ → Type 0) → Result Status ToolFault → Type 0
    RefusesFault = Ends (λ o. o ≡ refusal_by explains name (fault r) reasons)

    known_ends : (Sent : List ℕ → Type 0) (result : Result Status ToolFault) → RefusesFault Sent result → (IsErrOf result tool_fault.TooLong → (fault r).kind ≡ TooLong) → (b : List ℕ) → left old.device ≡ Some b → EndsCounting (FileOutput b) Sent result
    known_ends Sent result ends long b known =
        refusal_ends F Reports name fault found Answer r reasons reports explains IsAnswer b (λ memory read. known_fault left F Gives old new (fault r) b plain known memory read)
        (λ kind. known_explained left F fault found Answer Gives old new r b reporting h known kind) Sent result ends long

    taken_ends : (Sent : List ℕ → Type 0) (result : Result Status ToolFault) → RefusesFault Sent result → (IsErrOf result tool_fault.TooLong → (fault r).kind ≡ TooLong) → IsDecided result
        → (b : List ℕ) × Consumes (left old.device) (left new.device) b × EndsCounting (FileOutput b) Sent result
    taken_ends h1 h2 h3 long decided = grind (arith, taken_out, less, taken_long)

    -- a fault is refused, or the run ends at it
    pub answers_refused : (result : Result Status ToolFault) → (IsErrOf result tool_fault.TooLong → (fault r).kind ≡ TooLong) → IsErrOf result tool_fault.Read ↔ ((fault r).kind ≡ Read)
        → Answers contents RefusesFault out_old out_new result → Answers contents (EndsFile left FileOutput old new) out_old out_new result
    answers_refused result long reads = answers_by contents out_old out_new result RefusesFault (EndsFile left FileOutput old new) (λ Sent ends. record {
      output = λ b known. known_ends Sent result ends long b known;
      taken = λ decided. taken_ends Sent result ends long decided;
      reads = (λ e. plain.note.0 (reads.0 e), λ t. reads.1 (plain.note.1 t));
    })

-- ---- what a refusal says

-- both ways, through what is between
through : {A B C : Type 0} → A ↔ B → C ↔ B → A ↔ C
through x y = (λ a. y.1 (x.0 a), λ c. x.1 (y.0 c))

-- of a task, and of a plan
task_refusal_shows : (r : TaskRefusal) (b : List ℕ) (accepted : List (List ℕ)) (text : List ℕ) → (r.fault).kind ≢ TooLong → IsAbout task_format most_bytes b r.fault accepted text → IsFoundOf (r.fault).kind text r.found → HasReason accepted text r → AreTaskReasons b r.fault accepted text (task_refusal_lines r)
task_refusal_shows r b accepted text short about is why = record {
  mark = r.mark;
  word = r.word;
  count = r.count;
  line_end = r.lacks_line_end;
  reason = why.reason;
  counted = why.counted;
  lacks = through why.unended (task_unended b r.fault accepted text short about);
  lines = ap (λ (k : Kept). task_reasons r.fault k (record { line_end = r.lacks_line_end; cost_line = false }) r.mark r.word r.count) is.kept;
}

plan_refusal_shows : (r : PlanRefusal) (b : List ℕ) (accepted : List (List ℕ)) (text : List ℕ) → (r.fault).kind ≢ TooLong → IsAbout plan_format most_bytes b r.fault accepted text → IsFoundOf (r.fault).kind text r.found → TellsLacks accepted text r → ArePlanReasons b r.fault accepted text (plan_refusal_lines r)
plan_refusal_shows r b accepted text short about is why = record {
  line_end = r.lacks_line_end;
  cost_line = r.lacks_cost_line;
  lacks_line_end = through why.line_end (plan_unended b r.fault accepted text short about);
  lacks_cost_line = through why.cost_line (plan_without_cost b r.fault accepted text short about);
  lines = ap (λ (k : Kept). plan_reasons r.fault k (record { line_end = r.lacks_line_end; cost_line = r.lacks_cost_line })) is.kept;
}

-- ---- task files and plan files

module _ {D A W : Type 0} (left : D → Option (List ℕ)) (Gives : List ℕ → A → Type 0) (explains : Bool) (old new : Device D) (contents : W → Option (List ℕ)) (out_old out_new : Device W) where
  -- a task file is refused
  pub task_refused : (IsAnswer : Parts → Output → Type 0) (r : TaskRefusal) (result : Result Status ToolFault) → ReadsTask left Gives old new (Err r)
      → Answers contents (Ends (λ o. o ≡ refusal_by explains (codes "task") r.fault (task_refusal_lines r))) out_old out_new result → IsErrOf result tool_fault.TooLong ↔ ((r.fault).kind ≡ TooLong) → IsErrOf result tool_fault.Read ↔ ((r.fault).kind ≡ Read)
      → Answers contents (EndsFile left (TaskBy explains IsAnswer) old new) out_old out_new result
  task_refused IsAnswer r result h refused long reads =
      answers_refused left task_format AreTaskReasons Gives (codes "task") explains IsAnswer old new contents out_old out_new task_reporting fault_in found_in HasReason r (task_refusal_lines r) (task_refusal_shows r) h result long.0 reads refused

  -- and a plan file
  pub plan_refused : (IsAnswer : PlanParts → Output → Type 0) (r : PlanRefusal) (result : Result Status ToolFault) → ReadsPlan left Gives old new (Err r)
      → Answers contents (Ends (λ o. o ≡ refusal_by explains (codes "plan") r.fault (plan_refusal_lines r))) out_old out_new result → IsErrOf result tool_fault.TooLong ↔ ((r.fault).kind ≡ TooLong) → IsErrOf result tool_fault.Read ↔ ((r.fault).kind ≡ Read)
      → Answers contents (EndsFile left (PlanBy explains IsAnswer) old new) out_old out_new result
  plan_refused IsAnswer r result h refused long reads =
      answers_refused left plan_format ArePlanReasons Gives (codes "plan") explains IsAnswer old new contents out_old out_new plan_reporting fault_of found_of TellsLacks r (plan_refusal_lines r) (plan_refusal_shows r) h result long.0 reads refused

-- what is reported of a plan file that is refused, for its bytes where they are known, and for those that were read
module _ {D A : Type 0} (left : D → Option (List ℕ)) (Gives : List ℕ → A → Type 0) (explains : Bool) (old new : Device D) (IsAnswer : PlanParts → Output → Type 0) (r : PlanRefusal) (h : ReadsPlan left Gives old new (Err r)) where
  reads_known : (b : List ℕ) → left old.device ≡ Some b → (r.fault).kind ≢ Memory → (r.fault).kind ≢ Read → ReadsAs plan_format most_bytes b (Err r.fault)
  reads_known b known memory read = known_fault left plan_format Gives old new r.fault b h.plain known memory read

  explained_known : (b : List ℕ) → left old.device ≡ Some b → ConcernsText (r.fault).kind → ExplainsPlan b r
  explained_known b known kind = known_explained left plan_format fault_of found_of TellsLacks Gives old new r b plan_reporting h known kind

  pub plan_refused_as : (o : Output) → Some o ≡ refusal_by explains (codes "plan") r.fault (plan_refusal_lines r) → HoldsOf (left old.device) (λ c. PlanBy explains IsAnswer c (Some o))
  plan_refused_as o is = (
    λ c known. some_out plan_format ArePlanReasons (codes "plan") fault_of found_of TellsLacks r (plan_refusal_lines r) (plan_refusal_shows r) explains IsAnswer c (reads_known c known) (explained_known c known) o is,
    (let x = taken_out left plan_format ArePlanReasons Gives (codes "plan") explains IsAnswer old new left old new plan_reporting fault_of found_of TellsLacks r (plan_refusal_lines r) (plan_refusal_shows r) h o is in
        (x.0, (left new.device, x.1), x.2)),
  )

  pub plan_too_long : (r.fault).kind ≡ TooLong → HoldsOf (left old.device) (λ c. PlanBy explains IsAnswer c None)
  plan_too_long long = (
    λ c known. none_out plan_format ArePlanReasons (codes "plan") fault_of found_of TellsLacks r (plan_refusal_lines r) (plan_refusal_shows r) explains IsAnswer c (reads_known c known) (explained_known c known) long,
    (let x = taken_long left plan_format ArePlanReasons Gives (codes "plan") explains IsAnswer old new left old new plan_reporting fault_of found_of TellsLacks r (plan_refusal_lines r) (plan_refusal_shows r) h long in
        (x.0, (left new.device, x.1), x.2)),
  )

-- a plan in memory is refused
pub plan_bytes_refused : {W : Type 0} (contents : W → Option (List ℕ)) (out_old out_new : Device W) (explains : Bool) (IsAnswer : PlanParts → Output → Type 0) (b : List ℕ) (r : PlanRefusal) (result : Result Status ToolFault)
    → ((r.fault).kind ≢ Memory → ReadsAs plan_format most_bytes b (Err r.fault)) → (ConcernsText (r.fault).kind → ExplainsPlan b r)
    → Answers contents (Ends (λ o. o ≡ refusal_by explains (codes "plan") r.fault (plan_refusal_lines r))) out_old out_new result → IsErrOf result tool_fault.TooLong ↔ ((r.fault).kind ≡ TooLong)
    → Answers contents (EndsCounting (PlanBy explains IsAnswer b)) out_old out_new result
plan_bytes_refused contents out_old out_new explains IsAnswer b r result reads explained refused long =
    answers_by contents out_old out_new result (Ends (λ o. o ≡ refusal_by explains (codes "plan") r.fault (plan_refusal_lines r))) (EndsCounting (PlanBy explains IsAnswer b))
    (λ Sent ends. refusal_ends plan_format ArePlanReasons (codes "plan") fault_of found_of TellsLacks r (plan_refusal_lines r) (plan_refusal_shows r) explains IsAnswer b (λ memory read. reads memory) explained Sent result ends long.0) refused

-- a task that isn't layered is refused for its first fault
not_memory_by : (explains : Bool) (p : Parts) (fault : LayerFault) (o : Output) → layers_by explains p fault ≡ Some o → fault ≢ layer_fault.Memory
not_memory_by h1 p fault o is = grind (arith, not_memory, reported_fault)

module _ {D W : Type 0} (left : D → Option (List ℕ)) (explains : Bool) (old new : Device D) (contents : W → Option (List ℕ)) (out_old out_new : Device W) (p : Parts) where
  pub task_unlayered : (fault : LayerFault) (r : Result Status ToolFault) → ReadsAll left task_format (ValueOf task_format) old new (Ok p) → (fault ≢ layer_fault.Memory → first_fault (layer_checks p) ≡ Some fault)
      → Writes contents (EndsCounting (λ output. IsSomeAnd output (λ o. layers_by explains p fault ≡ Some o))) out_old out_new r → Answers contents (EndsFile left (TaskBy explains (UnlayeredBy explains)) old new) out_old out_new r
  task_unlayered fault r read first =
      answers_value left task_format AreTaskReasons (ValueOf task_format) (codes "task") explains (UnlayeredBy explains) old new contents out_old out_new p (λ o. layers_by explains p fault ≡ Some o)
      (λ b value o is. (p, value, (fault, first (not_memory_by explains p fault o is), is))) r read
