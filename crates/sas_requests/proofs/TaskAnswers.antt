-- How a run over many plans ends, by what came of reading its task.
use Rattle.sas_requests.proofs.Endings.{ends_more, ends_plans}
use Rattle.sas_requests.proofs.Imports.{◌≡◌, ℕ, Bool, true, false, List, [], length, inl, inr, Option, Some, Result, Ok, Parts, Device, Consumes, ReadsAll, ReadsAs, ValueOf, most_bytes, task_format, known_answer, IsLayered, Status, ToolFault, Ends, EndsCounting, EndsPlans, ends_by, IsDecided, exact_ends, EndsFile, TaskBy, UnlayeredBy, TaskOut, UnlayeredAnswer, plain_refusal, Plan, JudgeFault, tool_result, HaveBytes, WasRead, WereRead, Consumes-nil, JudgeOut, PlansOut, JudgesPlans}
use Rattle.sas_requests.proofs.ShortOutputs.{short_output}
use Rattle.sas_requests.proofs.SideBySide.{choose}

-- of plans that aren't opened nothing is read
unread : (known : ℕ → Option (List ℕ)) (count : ℕ) → (cs : List (List ℕ)) × WereRead known count cs
unread known count =
    let chosen = choose (λ k c. WasRead (known k) c) count (λ k less. ([], (known k, Consumes-nil (known k)))) in
    (chosen.items, (chosen.many, chosen.each))

-- how the refusal of the task goes out
refusal_ends : (reasons : Bool) (labels : List (List ℕ)) (Sent : List ℕ → Type 0) (b : List ℕ) (cs : List (List ℕ)) (r : Result Status ToolFault) → EndsCounting (TaskBy reasons (UnlayeredBy reasons) b) Sent r
    → EndsPlans reasons (JudgeOut reasons labels b cs) Sent r
refusal_ends true labels Sent b cs r ends = ends_by Sent (TaskBy true (UnlayeredBy true) b) (JudgeOut true labels b cs) r (λ o out. inl out) ends
refusal_ends false labels Sent b cs r ends =
    let Refused = TaskOut (UnlayeredAnswer plain_refusal) b in
    ends_more Sent Refused (JudgeOut false labels b cs) r (λ o out. inl out) (exact_ends Refused Sent (λ o out. short_output Plan b [] o (inl out)) r ends)

module _ {D : Type 0} (left : D → Option (List ℕ)) (reasons : Bool) (known : ℕ → Option (List ℕ)) (labels : List (List ℕ)) (Sent : List ℕ → Type 0) (old new : Device D) where
  -- of a layered task
  module _ (p : Parts) (read : ReadsAll left task_format (ValueOf task_format) old new (Ok p)) (layered : IsLayered p) (r : Result Status JudgeFault) (judges : JudgesPlans reasons p known labels Sent r) where
    of_plans : (b : List ℕ) (cs : List (List ℕ)) → ReadsAs task_format most_bytes b (Ok p) → Ends (PlansOut reasons p labels cs) Sent (tool_result r) → EndsPlans reasons (JudgeOut reasons labels b cs) Sent (tool_result r)
    of_plans b cs reads ends =
        let Out = JudgeOut reasons labels b cs in
        ends_plans reasons Sent Out (tool_result r) (ends_more Sent (PlansOut reasons p labels cs) Out (tool_result r) (λ o is. inr (p, reads, layered, is)) ends)

    pub layered_output : (b : List ℕ) (cs : List (List ℕ)) → left old.device ≡ Some b → HaveBytes known (length labels) cs → EndsPlans reasons (JudgeOut reasons labels b cs) Sent (tool_result r)
    layered_output b cs known_b have = of_plans b cs (known_answer left task_format (ValueOf task_format) old new p b read known_b) (judges.output cs have)

    pub layered_taken : IsDecided (tool_result r) → (b : List ℕ) × (cs : List (List ℕ)) × Consumes (left old.device) (left new.device) b × WereRead known (length labels) cs × EndsPlans reasons (JudgeOut reasons labels b cs) Sent (tool_result r)
    layered_taken decided =
        let (b, consumed, reads) = read.read in
        let (cs, were, ends) = judges.taken decided in
        (b, cs, consumed.0, were, of_plans b cs reads ends)

  -- of one that is refused
  module _ (r : Result Status ToolFault) (refused : EndsFile left (TaskBy reasons (UnlayeredBy reasons)) old new Sent r) where
    of_refusal : (b : List ℕ) (cs : List (List ℕ)) → EndsCounting (TaskBy reasons (UnlayeredBy reasons) b) Sent r → EndsPlans reasons (JudgeOut reasons labels b cs) Sent r
    of_refusal b cs ends = refusal_ends reasons labels Sent b cs r ends

    pub refused_output : (b : List ℕ) (cs : List (List ℕ)) → left old.device ≡ Some b → EndsPlans reasons (JudgeOut reasons labels b cs) Sent r
    refused_output b cs known_b = of_refusal b cs (refused.output b known_b)

    pub refused_taken : IsDecided r → (b : List ℕ) × (cs : List (List ℕ)) × Consumes (left old.device) (left new.device) b × WereRead known (length labels) cs × EndsPlans reasons (JudgeOut reasons labels b cs) Sent r
    refused_taken decided =
        let (b, consumed, ends) = refused.taken decided in
        let (cs, were) = unread known (length labels) in
        (b, cs, consumed, were, of_refusal b cs ends)
