-- How the output of a request goes out.
use Rattle.sas_requests.proofs.Imports.{arith, ◌≡◌, ℕ, false, true, List, [], codes, inl, inr, refl, sym, subst, ◌∙◌, Option, Some, Result, Ok, Err, IsTrue, IfOk, Appends, Parts, IsLayered, Device, ValueOf, ReadsAll, ReadsAs, most_bytes, known_answer, plan_format, task_format, Status, Yes, ToolFault, Output, EndsCounting, Answers, ends_by, answers_by, layers_verdict, Consumes-nil, Detail, Bool, GroupsAnswerWith, groups_answered, groups_layered, CheckBy, MutexBy, VerdictBy, UnlayeredBy, layers_by, TaskBy, PlanBy, OutBy, EndsRequest, TaskFileReasons, RefusalReasons, layered_answer, check_layered, check_refused, groups_refused, Request, Headline, Invariants, TaskOut, PlanOutBy, PrintAnswer, AreInputs, reads_task, EndsFile}
use Rattle.sas_requests.proofs.PlanOutputs.{first_alone, second_alone, not_refused}
use Rattle.sas_requests.specs.declared.question.Request.TheVariants as request
use Rattle.sas_requests.proofs.RefusalReasons.{more_reasoned}

-- ---- answers about a task

pub check_yes : (explains : Bool) (p : Parts) → IsLayered p → CheckBy explains p (record { text = codes "task layered\n"; status = Yes })
check_yes h1 p layered = grind (arith, check_layered, layered_answer)

pub check_no : (explains : Bool) (p : Parts) (o : Output) → UnlayeredBy explains p o → CheckBy explains p o
check_no h1 p o h2 = grind (arith, check_refused, layers_verdict)

-- of the groups of a task
pub mutex_yes : (explains : Bool) (p : Parts) (o : Output) → IsLayered p → GroupsAnswerWith explains p o → MutexBy explains p o
mutex_yes true p o layered answered = groups_layered p o layered answered
mutex_yes false p o layered answered = groups_answered p o layered answered

pub mutex_no : (explains : Bool) (p : Parts) (o : Output) → UnlayeredBy explains p o → MutexBy explains p o
mutex_no h1 p o h2 = grind (arith, groups_refused)

-- ---- the output of `plan`

module _ (detail : Detail) (b c : List ℕ) (o : Option Output) where
  abbrev PlanOutput : Option Output → Type 0
  PlanOutput = PlanOutBy (VerdictBy detail) (layers_by detail.reasons) b c

  -- of a task that is refused
  pub unlayered_by : TaskBy detail.reasons (UnlayeredBy detail.reasons) b o → OutBy detail request.Plan b c o
  unlayered_by =
      more_reasoned detail.reasons (TaskOut (UnlayeredBy detail.reasons) b) PlanOutput (TaskFileReasons b) (RefusalReasons request.Plan b c)
      (λ q out. inl out) (λ q reasons out why. inr (not_refused (layers_by detail.reasons) b q out, why)) o

  -- and of the plan of a layered one
  pub judged_by : (p : Parts) → IsLayered p → ReadsAs task_format most_bytes b (Ok p) → PlanBy detail.reasons (VerdictBy detail p) c o → OutBy detail request.Plan b c o
  judged_by p layered reads = grind (arith, more_reasoned)

-- ---- how they go out

-- what a run that ends so promises follows from what another promises
module _ {T P W : Type 0} (left_task : T → Option (List ℕ)) (left_plan : P → Option (List ℕ)) (contents : W → Option (List ℕ)) (out_old out_new : Device W) where
  pub ends_as : (A B : List ℕ → List ℕ → (List ℕ → Type 0) → Result Status ToolFault → Type 0) (asked : Request) (old new : Device T) (plan_old plan_new : Device P) (r : Result Status ToolFault)
      → ((b c : List ℕ) (Sent : List ℕ → Type 0) → A b c Sent r → B b c Sent r)
      → Answers contents (EndsRequest left_task left_plan A asked old new plan_old plan_new) out_old out_new r → Answers contents (EndsRequest left_task left_plan B asked old new plan_old plan_new) out_old out_new r
  ends_as h1 h2 asked old new plan_old plan_new r to = grind (arith, answers_by)

module _ {T P W : Type 0} (left_task : T → Option (List ℕ)) (left_plan : P → Option (List ℕ)) (contents : W → Option (List ℕ)) (out_old out_new : Device W) (detail : Detail) where
  abbrev EndsAsked : Request → Device T → Device T → Device P → Device P → (List ℕ → Type 0) → Result Status ToolFault → Type 0
  EndsAsked asked = EndsRequest left_task left_plan (λ b c. EndsCounting (OutBy detail asked b c)) asked

  -- a request that read the task alone
  pub of_task : (asked : Request) → IsTrue (reads_task asked) → (FileOutput : List ℕ → Option Output → Type 0) → ((b c : List ℕ) (o : Option Output) → FileOutput b o → OutBy detail asked b c o)
      → (old new : Device T) (plan : Device P) (r : Result Status ToolFault) → plan.failed ≡ false → Answers contents (EndsFile left_task FileOutput old new) out_old out_new r → Answers contents (EndsAsked asked old new plan plan) out_old out_new r
  of_task asked reading FileOutput to old new plan r working = answers_by contents out_old out_new r (EndsFile left_task FileOutput old new) (EndsAsked asked old new plan plan) (λ Sent one. record {
    output = λ b c inputs. ends_by Sent (FileOutput b) (OutBy detail asked b c) r (to b c) (one.output b (inputs.0 reading));
    taken = λ decided.
        let (b, consumed, ends) = one.taken decided in
        (b, [], consumed, Consumes-nil _, ends_by Sent (FileOutput b) (OutBy detail asked b []) r (to b []) ends);
    task_spared = λ spared. absurd (let apart : true ≡ false = sym reading ∙ spared in cc);
    plan_spared = λ _. refl;
    plan_waits = λ _ b known none. refl;
    reads = (λ e. (first_alone new.failed plan.failed working).1 (one.reads.0 e), λ t. one.reads.1 ((first_alone new.failed plan.failed working).0 t));
  })

  -- `steps`, which reads the plan alone
  pub of_steps : (task : Device T) (old new : Device P) (r : Result Status ToolFault) → task.failed ≡ false → Answers contents (EndsFile left_plan (PlanBy detail.reasons (PrintAnswer plan_format)) old new) out_old out_new r → Answers contents (EndsAsked request.Steps task task old new) out_old out_new r
  of_steps task old new r working =
      let Answer = PlanBy detail.reasons (PrintAnswer plan_format) in
      let alone = second_alone task.failed new.failed (λ t. let apart : true ≡ false = sym t ∙ working in cc) in
      answers_by contents out_old out_new r (EndsFile left_plan Answer old new) (EndsAsked request.Steps task task old new) (λ Sent one. record {
        output = λ b c inputs. ends_by Sent (Answer c) (OutBy detail request.Steps b c) r (λ o out. out) (one.output c (inputs.1 refl));
        taken = λ decided.
            let (c, consumed, ends) = one.taken decided in
            ([], c, Consumes-nil _, consumed, ends_by Sent (Answer c) (OutBy detail request.Steps [] c) r (λ o out. out) ends);
        task_spared = λ _. refl;
        plan_spared = λ spared. absurd cc;
        plan_waits = λ is. absurd cc;
        reads = (λ e. alone.1 (one.reads.0 e), λ t. one.reads.1 (alone.0 t));
      })

  -- `plan` of a layered task, which reads both
  pub of_both : (p : Parts) (old new : Device T) → ReadsAll left_task task_format (ValueOf task_format) old new (Ok p) → IsLayered p
      → (plan_old plan_new : Device P) (r : Result Status ToolFault) → Answers contents (EndsFile left_plan (PlanBy detail.reasons (VerdictBy detail p)) plan_old plan_new) out_old out_new r → Answers contents (EndsAsked request.Plan old new plan_old plan_new) out_old out_new r
  of_both p old new read layered plan_old plan_new r =
      let Answer = PlanBy detail.reasons (VerdictBy detail p) in
      let alone = second_alone new.failed plan_new.failed (λ t. read.note.1 t) in
      answers_by contents out_old out_new r (EndsFile left_plan Answer plan_old plan_new) (EndsAsked request.Plan old new plan_old plan_new) (λ Sent one. record {
        output = λ b c inputs.
            let value = known_answer left_task task_format (ValueOf task_format) old new p b read (inputs.0 refl) in
            ends_by Sent (Answer c) (OutBy detail request.Plan b c) r (λ o. judged_by detail b c o p layered value) (one.output c (inputs.1 refl));
        taken = λ decided.
            let (b, consumed, value) = read.read in
            let (c, consumed_plan, ends) = one.taken decided in
            (b, c, consumed.0, consumed_plan, ends_by Sent (Answer c) (OutBy detail request.Plan b c) r (λ o. judged_by detail b c o p layered value) ends);
        task_spared = λ spared. absurd cc;
        plan_spared = λ spared. absurd cc;
        plan_waits = λ _ b known none. absurd (none (p, known_answer left_task task_format (ValueOf task_format) old new p b read known, layered));
        reads = (λ e. alone.1 (one.reads.0 e), λ t. one.reads.1 (alone.0 t));
      })

-- ---- what a planner relies on

module _ (Outputs : Request → List ℕ → List ℕ → Option Output → Type 0) (asked : Request) (task plan old new : Option (List ℕ)) where
  abbrev Ended : Result Status ToolFault → Type 0
  Ended r = (b c : List ℕ) → AreInputs asked task plan b c → EndsCounting (Outputs asked b c) (Appends old new) r

  pub headline_reported : (Sends : List ℕ → Type 0) → ((b c : List ℕ) (o : Output) → Outputs request.Plan b c (Some o) → (before : List ℕ) (status : Status)
      → old ≡ Some before → status ≡ o.status → Appends old new o.text → Headline b c Sends status) → (r : Result Status ToolFault) → Ended r
      → IfOk r (λ status. asked ≡ request.Plan → (b c before : List ℕ) → task ≡ Some b → plan ≡ Some c → old ≡ Some before → Headline b c Sends status)
  headline_reported Sends heads (Ok status) ends = λ is b c before known_task known_plan known.
      let (o, out, same, sent) = ends b c (λ _. known_task, λ _. known_plan) in
      heads b c o (subst (λ (q : Request). Outputs q b c (Some o)) is out) before status known same sent
  headline_reported Sends heads (Err why) ends = tt

  pub invariants_reported : ((b c : List ℕ) (o : Output) → Outputs request.Mutex b c (Some o) → (old new : Option (List ℕ)) (before : List ℕ)
      → old ≡ Some before → Appends old new o.text → Invariants b (Appends old new)) → (r : Result Status ToolFault) → Ended r
      → IfOk r (λ status. asked ≡ request.Mutex → (b before : List ℕ) → task ≡ Some b → old ≡ Some before → Invariants b (Appends old new))
  invariants_reported holds (Ok status) ends = λ is b before known_task known.
      let inputs = subst (λ (q : Request). AreInputs q task plan b []) (sym is) (λ _. known_task, λ e. absurd cc) in
      let (o, out, same, sent) = ends b [] inputs in
      holds b [] o (subst (λ (q : Request). Outputs q b [] (Some o)) is out) old new before known sent
  invariants_reported holds (Err why) ends = tt
