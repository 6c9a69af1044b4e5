-- What is said of one plan after another.
use Rattle.sas_requests.proofs.Imports.{IfSome, ◌≡◌, ◌≢◌, ℕ, ◌+◌, ◌<◌, ◌≤◌, ◌⊎◌, List, [], ◌∷◌, ◌++◌, length, get_or, codes, refl, sym, ap, subst, ◌∙◌, arith, inl, inr, Option, Some, None, Result, Err, IfErr, zip, flat_map, if◌then◌else◌, list_all, get_or-append, get_or-append_seam, cases_lt, length_push, count_by-le-length, Contains-get_or, Consumes-nil, Parts, Status, Yes, No, NotOpened, JudgeFault, Tool, Tally, Judged, IsJudged, PlansOut, costs_of, is_some, labelled, plans_answer, summary_of, tally_with, AreAnswered, HoldsOf, IsUnsaid, Judges, JudgesPlans, unjudged, WasRead, EndsAt, OpensInTurn, ToolFault, Ends, IsWrite, tool_result, judge_result, PlanSaid, Judge, Bool, length-map, map-append}
use Rattle.sas_requests.specs.declared.inputs.InputFault.TheVariants.{Read, TooLong}
use Rattle.sas_answers.specs.declared.ending.ToolFault.TheVariants.{Memory}
use Rattle.sas_requests.proofs.BestPlans.{best_place}
use Rattle.sas_requests.proofs.Endings.{ends_as}
use Rattle.sas_requests.proofs.Outputs.{same_output}
use Rattle.std.proofs.lemmas.Bool.Decides.{eqb_tells}
use Rattle.sas_requests.specs.declared.inputs.JudgeFault.TheVariants.{Plan, Tool}
use Rattle.sas_requests.specs.Inputs.{tool_fault as fault_of}
use Rattle.sas_requests.proofs.SideBySide.{all_zip, choose, labelled_next}
use Rattle.sas_requests.proofs.PlansSaid.{said_long}
use Rattle.sas_requests.proofs.Tallying.{status_yes, status_no, tally_next}
use Rattle.sas_requests.proofs.Turns.{tool_same, tool_long, tool_unread}

-- ---- one plan

-- how it is pushed
pub said_text : (before after label same_label line same_line : List ℕ) → after ≡ before ++ (label ++ codes ": " ++ line) → label ≡ same_label → line ≡ same_line → after ≡ before ++ (same_label ++ codes ": " ++ same_line)
said_text before after label same_label line same_line is e f = grind (arith, codes)

-- what holds of the same plan
pub holds_same : {P : Type 0} (Holds : P → List ℕ → Type 0) (p q : P) (a b : Option (List ℕ)) → p ≡ q → a ≡ b → HoldsOf a (Holds p) → HoldsOf b (Holds q)
holds_same {P} Holds p q a b e f h = subst (λ (x : P). HoldsOf b (Holds x)) e (subst (λ (x : Option (List ℕ)). HoldsOf x (Holds p)) f h)

-- why nothing is said of it
pub unsaid : {S I : Type 0} (gives : S → ℕ → Option I → S → Type 0) (p q : Judge) (a : Option (List ℕ)) (known : ℕ → Option (List ℕ)) (number : ℕ) (old new : S) (why : JudgeFault) → p ≡ q → a ≡ known number
    → Judges p.reasons p.loaded a (Err (fault_of why)) → EndsAt gives number old new why → IsUnsaid q.reasons q.loaded known why
unsaid gives p q a known number old new h1 e f h ends = grind (arith, holds_same)

-- the cost of each plan
abbrev cost_at : Judged → Option ℕ
cost_at j = j.cost

costs_next : (all : List Judged) (j : Judged) → costs_of (all ++ j ∷ []) ≡ costs_of all ++ j.cost ∷ []
costs_next all j = map-append cost_at all (j ∷ [])

module _ (reasons : Bool) (p : Parts) (known : ℕ → Option (List ℕ)) (labels : List (List ℕ)) where
  -- ---- one plan more

  said_at : (all : List Judged) (j : Judged) (n : ℕ) → length all ≡ n → ((k : ℕ) → k < n → HoldsOf (known k) (λ c. IsJudged reasons p c (get_or all k unjudged))) → HoldsOf (known n) (λ c. IsJudged reasons p c j)
      → (k : ℕ) → (k < n) ⊎ (n ≡ k) → HoldsOf (known k) (λ c. IsJudged reasons p c (get_or (all ++ j ∷ []) k unjudged))
  said_at all j n many each h k (inl before) =
      subst (λ (x : Judged). HoldsOf (known k) (λ c. IsJudged reasons p c x)) (sym (get_or-append all (j ∷ []) unjudged k (omega (arith, many)))) (each k before)
  said_at all j n many each h k (inr here) =
      let last : get_or (all ++ j ∷ []) (length all) unjudged ≡ j = get_or-append_seam all j [] unjudged in
      let at_k : get_or (all ++ j ∷ []) k unjudged ≡ j = ap (λ (m : ℕ). get_or (all ++ j ∷ []) m unjudged) (sym (many ∙ here)) ∙ last in
      subst (λ (x : Judged). HoldsOf (known k) (λ c. IsJudged reasons p c x)) (sym at_k) (rw here at h)

  module _ (count : ℕ) (text : List ℕ) (tally : Tally) (r : AreAnswered reasons p known labels count text tally) where
    -- no more are valid than there are
    pub valid_few : tally.valid ≤ count
    valid_few = omega (arith, r.counts.valid, r.many, count_by-le-length is_some (costs_of r.all), length-map r.all cost_at)

    pub reported_more : (after : List ℕ) (more : Tally) (j : Judged) (cost : Option ℕ) → count < length labels → HoldsOf (known count) (λ c. IsJudged reasons p c j) → after ≡ text ++ labelled (get_or labels count [], j)
        → j.cost ≡ cost → more ≡ tally_with count cost tally → AreAnswered reasons p known labels (count + 1) after more
    reported_more after more j cost less said is e add = record {
      all = r.all ++ j ∷ [];
      many = length_push r.all j ∙ ap (λ (m : ℕ). m + 1) r.many;
      each = λ k below. said_at r.all j count r.many r.each said k (elim (cases_lt k count) [ inl before ↦ inl before | inr from ↦ (let here : count ≡ k = omega arith in inr here) ]);
      whole =
          is ∙ ap (λ (x : List ℕ). x ++ labelled (get_or labels count [], j)) r.whole
          ∙ ap (λ (k : ℕ). flat_map labelled (zip labels r.all) ++ labelled (get_or labels k [], j)) (sym r.many)
          ∙ sym (labelled_next labels r.all j (omega (arith, r.many)));
      counts = rw (add, ← r.many, costs_next r.all j, e, ← length-map r.all cost_at) (tally_next (costs_of r.all) cost tally r.counts);
    }

  -- ---- all plans

  module _ (text : List ℕ) (tally : Tally) (reports : AreAnswered reasons p known labels (length labels) text tally) where
    pub placed : IfSome tally.best (λ best. best.number < length labels)
    placed = best_place labels (costs_of reports.all) tally.best (length-map reports.all cost_at ∙ reports.many) reports.counts.best

    -- the whole text goes out, with the status by how many are valid
    module _ (status : Status) (whole : List ℕ) (is : whole ≡ text ++ summary_of labels tally) (by : ((tally.valid ≡ length labels) × (status ≡ Yes)) ⊎ ((tally.valid ≢ length labels) × (status ≡ No)))
        (Sent : List ℕ → Type 0) (r : Result Status ToolFault) (write : IfErr r IsWrite) (ends : Ends (λ o. o ≡ Some (record { text = whole; status = status })) Sent r) where
      abbrev costs : List (Option ℕ)
      costs = costs_of reports.all

      many : length costs ≡ length labels
      many = length-map reports.all cost_at ∙ reports.many

      status_by : ((tally.valid ≡ length labels) × (status ≡ Yes)) ⊎ ((tally.valid ≢ length labels) × (status ≡ No)) → status ≡ (if list_all is_some costs then Yes else No)
      status_by (inl (all, good)) = good ∙ status_yes costs (length labels) many (sym reports.counts.valid ∙ all)
      status_by (inr (some, bad)) = bad ∙ status_no costs (length labels) many (λ e. some (reports.counts.valid ∙ e))

      status_is : status ≡ (if list_all is_some costs then Yes else No)
      status_is = status_by by

      text_is : whole ≡ flat_map labelled (zip labels reports.all) ++ summary_of labels tally
      text_is = is ∙ ap (λ (x : List ℕ). x ++ summary_of labels tally) reports.whole

      sent_for : (cs : List (List ℕ)) → length cs ≡ length labels → ((k : ℕ) → k < length labels → IsJudged reasons p (get_or cs k []) (get_or reports.all k unjudged)) → Ends (PlansOut reasons p labels cs) Sent (tool_result (judge_result r))
      sent_for cs many each =
          let each_is = all_zip (IsJudged reasons p) unjudged cs reports.all (many ∙ sym reports.many) (λ k less. each k (omega (arith, less, reports.many))) in
          rw (tool_same r) (ends_as (record { text = whole; status = status }) Sent (PlansOut reasons p labels cs) r (reports.all, each_is, tally, reports.counts, same_output _ (plans_answer labels reports.all tally) text_is status_is) ends)

      pub reported : JudgesPlans reasons p known labels Sent (judge_result r)
      reported = record {
        output = λ cs have. sent_for cs have.0 (λ k less. (reports.each k less).0 (get_or cs k []) (have.1 k less));
        taken = λ decided.
            let chosen = choose (λ k c. WasRead (known k) c × IsJudged reasons p c (get_or reports.all k unjudged)) (length labels) (λ k less. let t = (reports.each k less).1 in (t.0, (t.1, t.2))) in
            (chosen.items, (chosen.many, λ k less. (chosen.each k less).0), sent_for chosen.items chosen.many (λ k less. (chosen.each k less).1));
        long = tool_long known r;
        reads = tool_unread r write;
      }

  -- ---- or a plan of which nothing is said

  same_or_not : (m n : ℕ) → (m ≡ n) ⊎ (m ≢ n)
  same_or_not m n = elim (eqb_tells m n) [ inl same ↦ inl same.1 | inr other ↦ inr other.1 ]

  module _ (number : ℕ) (less : number < length labels) (h : HoldsOf (known number) (λ c. PlanSaid reasons p c None)) where
    long_plan : (cs : List (List ℕ)) → length cs ≡ length labels → PlanSaid reasons p (get_or cs number []) None → PlansOut reasons p labels cs None
    long_plan cs many out = (get_or cs number [], Contains-get_or cs number [] (omega (arith, many, less)), out)

    -- the bytes that were read of the plans: of those behind it none
    front_at : (k : ℕ) → (number ≡ k) ⊎ (number ≢ k) → (c : List ℕ) × (WasRead (known k) c × (number ≡ k → PlanSaid reasons p c None))
    front_at k (inl here) = (h.1.0, (rw here at h.1.1, λ same. h.1.2))
    front_at k (inr other) = ([], ((known k, Consumes-nil (known k)), λ same. absurd (other same)))

    too_long : (Sent : List ℕ → Type 0) → JudgesPlans reasons p known labels Sent (Err (Plan number TooLong))
    too_long Sent = record {
      output = λ cs have. long_plan cs have.0 (h.0 (get_or cs number []) (have.1 number less));
      taken = λ decided.
          let chosen = choose (λ k c. WasRead (known k) c × (number ≡ k → PlanSaid reasons p c None)) (length labels) (λ k below. front_at k (same_or_not number k)) in
          (chosen.items, (chosen.many, λ k below. (chosen.each k below).0), long_plan chosen.items chosen.many ((chosen.each number less).1 refl));
      long = λ c is. said_long reasons p c (h.0 c is);
      reads = λ e. absurd cc;
    }

  pub unexplained : {S I : Type 0} (gives : S → ℕ → Option I → S → Type 0) (task : Option (List ℕ)) (old new : S) (why : JudgeFault) → IsUnsaid reasons p known why → OpensInTurn gives task (length labels) old new (Err why)
      → (Sent : List ℕ → Type 0) → JudgesPlans reasons p known labels Sent (Err why)
  unexplained gives task old new (Plan number NotOpened) h opens Sent = record { output = λ cs have. tt; taken = λ decided. absurd decided; long = tt; reads = λ e. absurd cc }
  unexplained gives task old new (Plan number Read) h opens Sent = record { output = λ cs have. tt; taken = λ decided. absurd decided; long = tt; reads = λ e. absurd cc }
  unexplained gives task old new (Plan number TooLong) h opens Sent = too_long number opens.0 h Sent
  unexplained gives task old new (Tool why) h opens Sent = rw h record { output = λ cs have. tt; taken = λ decided. absurd decided; long = tt; reads = λ e. absurd cc }

  -- where memory is refused, nothing is said
  pub unsaid_all : (Sent : List ℕ → Type 0) → JudgesPlans reasons p known labels Sent (Err (Tool Memory))
  unsaid_all Sent = record { output = λ cs have. tt; taken = λ decided. absurd decided; long = tt; reads = λ e. absurd cc }
