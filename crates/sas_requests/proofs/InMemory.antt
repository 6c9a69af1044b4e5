-- Plans whose bytes are all in memory, and the answer about them in a text.
use Rattle.sas_requests.proofs.Imports.{arith, ◌≡◌, ℕ, List, [], length, refl, sym, subst, ◌∙◌, Option, Some, None, Ok, Err, All, slice_index_or, Appends, get_or-map, length-map, Status, ToolFault, Ends, EndsPlans, Bool, Output, PlanBytes, HaveBytes, bytes_of, labels_of}
use Rattle.sas_requests.proofs.Endings.{plans_end_long}
use Rattle.sas_answers.specs.declared.ending.ToolFault.TheVariants as tool_fault

-- there are as many labels as files
as_many : (plans : List PlanBytes) → length (bytes_of plans) ≡ length (labels_of plans)
as_many plans = length-map plans (λ (plan : PlanBytes). plan.bytes.now) ∙ sym (length-map plans (λ (plan : PlanBytes). plan.label.now))

-- what holds of all labels holds of each plan's
pub all_labels : (P : List ℕ → Type 0) (plans : List PlanBytes) → All P (labels_of plans) → All (λ (plan : PlanBytes). P plan.label.now) plans
all_labels P plans h = λ k d less.
    let f : PlanBytes → List ℕ = λ plan. plan.label.now in
    subst P (get_or-map f plans k d) (h k (f d) (rw length-map less))

pub have_bytes : (plans : List PlanBytes) → HaveBytes (λ number. Some (slice_index_or (bytes_of plans) number [])) (length (labels_of plans)) (bytes_of plans)
have_bytes plans = (as_many plans, λ number less. refl)

module _ (old : Option (List ℕ)) (new text : List ℕ) (empty : old ≡ Some []) (is : new ≡ text) where
  -- what was written is the text
  pub sent_text : (P : (List ℕ → Type 0) → Type 0) → P (Appends old (Some new)) → P (λ sent. text ≡ sent)
  sent_text P h = subst (λ (x : List ℕ). P (λ sent. x ≡ sent)) is (subst (λ (x : Option (List ℕ)). P (Appends x (Some new))) empty h)

  pub reported_output : (Out : Option Output → Type 0) (status : Status) → Ends Out (Appends old (Some new)) (Ok status) → Out (Some (record { text = text; status = status }))
  reported_output h1 status ends = grind (arith, sent_text)

-- an input that is too long has no answer
pub reported_none : (reasons : Bool) (Out : Option Output → Type 0) (Sent : List ℕ → Type 0) (why : ToolFault) → why ≡ tool_fault.TooLong → EndsPlans reasons Out Sent (Err why) → Out None
reported_none reasons Out Sent why long ends = plans_end_long reasons Sent Out (subst (λ (e : ToolFault). EndsPlans reasons Out Sent (Err e)) long ends)
