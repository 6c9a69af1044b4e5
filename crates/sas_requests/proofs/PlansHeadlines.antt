-- What is printed of many plans says which of them solve the task.
use Rattle.sas_requests.proofs.Imports.{◌≡◌, ℕ, zero, suc, ◌<◌, Bool, true, false, List, [], ◌∷◌, ◌++◌, length, get_or, codes, decimal, append_assoc, refl, sym, ap, subst, ◌∙◌, arith, inl, inr, Option, Some, Result, Ok, Err, IfOk, ◌↔◌, All, zip, is_some, if◌then◌else◌, list_all, Appends, append_cancel_left, append_cancel_right, All-get_or, All-from_get_or, AllPass-from_list_all, list_all-from_AllPass, Parts, IsLayered, IsLabel, HaveBytes, JudgeFault, tool_result, Judged, IsJudged, JudgeOut, EndsPlans, costs_of, unexplained, without_reasons, false≢true, get_or-map, length-map, None, labelled, plans_answer, summary_of, Tally, unjudged, AllZip, AllZip-long, min, le-min, min-le_left, ◌≤◌, length-zip, get_or-zip, PlansHeadline, lines, lines-one, ReadsAs, most_bytes, plain, task_format, Status, Yes, No, Output, VerdictAnswer, valid_line, Solves, Headline, IsLayeredText, plain_refusal}
use Rattle.sas_requests.proofs.Headlines.{reports_valid, headline_of, sent_same}
use Rattle.sas_requests.proofs.PlanOutputs.{plain_refuses, not_refused}
use Rattle.sas_requests.proofs.SideBySide.{zip_at}
use Rattle.sas_requests.proofs.Endings.{plans_end_well}
use Rattle.sas_requests.proofs.JudgeLaws.{refuses_as_plan}
use Rattle.sas_requests.proofs.SamePlans.{status_valid, untold}
use Rattle.sas_requests.proofs.LastBytes.{last, IsDigit, digit_behind}
use Rattle.sas_requests.proofs.PlanLines.{IsLine, IsRefusal, verdict_line, labelled_line, line_at, line_of, task_refused}

-- `LABEL: plan valid: S steps, cost C`, with its end
abbrev labelled_valid : List ℕ → ℕ → ℕ → List ℕ
labelled_valid label steps cost = label ++ codes ": " ++ valid_line steps cost

-- what is said of one plan, and what that shows
record PlanReported (b c label : List ℕ) (j : Judged) : Type 0 where
  headline : Headline b c (Appends (Some []) (Some j.output.text)) j.output.status
  valid : (j.output.status ≡ Yes) ↔ (is_some j.cost ≡ true)
  is_line : IsLine (labelled (label, j))

-- ---- of a layered task

module _ (p : Parts) (layered : IsLayered p) (labels : List (List ℕ)) (b : List ℕ) (cs : List (List ℕ)) (reads : ReadsAs task_format most_bytes b (Ok p)) (many : length cs ≡ length labels) (are_labels : All IsLabel labels) where
  plan_reported : (label c : List ℕ) (j : Judged) → IsLabel label → IsJudged false p c j → PlanReported b c label j
  plan_reported label c j is_label (out, cost) = record {
    headline = headline_of VerdictAnswer plain_refusal reports_valid plain_refuses b c j.output (inr (p, reads, layered, out)) (Some []) (Some j.output.text) [] j.output.status refl refl refl;
    valid = status_valid c j.output.status j.cost cost;
    is_line = labelled_line label j.output.text is_label (verdict_line p c j.output out);
  }

  module _ (o : Output) (all : List Judged) (each : AllZip (IsJudged false p) cs all) (tally : Tally) (is : o ≡ plans_answer labels all tally) where
    all_long : length all ≡ length labels
    all_long = AllZip-long (IsJudged false p) cs all each ∙ many

    reported_at : (k : ℕ) → k < length labels → PlanReported b (get_or cs k []) (get_or labels k []) (get_or all k unjudged)
    reported_at k less =
        plan_reported (get_or labels k []) (get_or cs k []) (get_or all k unjudged) (All-get_or IsLabel labels k [] less are_labels) (zip_at (IsJudged false p) unjudged cs all k each (omega (arith, less, many)))

    pair_at : (k : ℕ) → k < length labels → get_or (zip labels all) k ([], unjudged) ≡ (get_or labels k [], get_or all k unjudged)
    pair_at k less = get_or-zip labels all k ([], unjudged) less (omega (arith, less, all_long))

    text_at : (k : ℕ) → k < length labels → line_of o.text k ≡ labelled (get_or labels k [], get_or all k unjudged)
    text_at k less =
        let both : length labels ≤ min (length labels) (length all) = le-min (omega arith) (omega (arith, all_long)) in
        let long = length-zip labels all in
        ap (λ (x : Output). line_of x.text k) is
        ∙ line_at labelled ([], unjudged) (zip labels all) (summary_of labels tally) k
        (λ i within.
        let below : i < length labels = omega (arith, within, long, min-le_left (length labels) (length all)) in
        subst (λ (x : List ℕ × Judged). IsLine (labelled x)) (sym (pair_at i below)) (reported_at i below).is_line)
        (omega (arith, less, long, both))
        ∙ ap labelled (pair_at k less)

    valid_at : (k steps cost : ℕ) → k < length labels → (line_of o.text k ≡ labelled_valid (get_or labels k []) steps cost) ↔ Solves b (get_or cs k []) (valid_line steps cost)
    valid_at k steps cost less =
        let both = (reported_at k less).headline.line steps cost in (
          λ e. both.0 (append_cancel_left (get_or labels k [] ++ codes ": ") (get_or all k unjudged).output.text (valid_line steps cost) (sym (text_at k less) ∙ e)),
          λ solves. text_at k less ∙ ap (λ (x : List ℕ). get_or labels k [] ++ codes ": " ++ x) (both.1 solves),
        )

    abbrev costs : List (Option ℕ)
    costs = costs_of all

    costs_long : length costs ≡ length all
    costs_long = length-map all (λ (j : Judged). j.cost)

    cost_is : (k : ℕ) → k < length labels → get_or costs k None ≡ (get_or all k unjudged).cost
    cost_is k less = get_or-map (λ (j : Judged). j.cost) all k unjudged

    status_is : o.status ≡ (if list_all is_some costs then Yes else No)
    status_is = ap (λ (x : Output). x.status) is

    all_solve : o.status ≡ Yes → (k : ℕ) → k < length labels → (steps cost : ℕ) × Solves b (get_or cs k []) (valid_line steps cost)
    all_solve is_yes k less =
        let reported = reported_at k less in
        let pass = AllPass-from_list_all is_some costs (all_pass (list_all is_some costs) (sym status_is ∙ is_yes)) in
        reported.headline.yes.0 (reported.valid.1 (ap (λ (c : Option ℕ). is_some c) (sym (cost_is k less)) ∙ pass k None (omega (arith, less, all_long, costs_long))))
      where
        all_pass : (t : Bool) → (if t then Yes else No) ≡ Yes → t ≡ true
        all_pass true e = refl
        all_pass false e = absurd cc

    status_yes : ((k : ℕ) → k < length labels → (steps cost : ℕ) × Solves b (get_or cs k []) (valid_line steps cost)) → o.status ≡ Yes
    status_yes solve =
        let pass = All-from_get_or (λ (c : Option ℕ). is_some c ≡ true) costs None
        (λ k less. let within : k < length labels = omega (arith, all_long, costs_long, less) in let reported = reported_at k within in ap (λ (c : Option ℕ). is_some c) (cost_is k within) ∙ reported.valid.0 (reported.headline.yes.1 (solve k within))) in
        status_is ∙ ap (λ (t : Bool). if t then Yes else No) (list_all-from_AllPass is_some costs pass)

    headline_layered : (old new : Option (List ℕ)) (before : List ℕ) (status : Status) → old ≡ Some before → status ≡ o.status → Appends old new o.text → PlansHeadline false labels b cs (Appends old new) status
    headline_layered old new before status known same sent = record {
      line = λ none number steps cost out less sent_out.
          subst (λ (x : List ℕ). (line_of x number ≡ labelled_valid (get_or labels number []) steps cost) ↔ Solves b (get_or cs number []) (valid_line steps cost)) (sent_same old new before o.text out known sent sent_out)
          (valid_at number steps cost less);
      yes = (λ e. ((p, reads, layered), all_solve (sym same ∙ e)), λ h. same ∙ status_yes h.1);
    }

-- ---- of a task that is refused

not_valid : (line label : List ℕ) (steps cost : ℕ) → (IsDigit (last line) → ⊥) → line ++ 10 ∷ [] ≡ labelled_valid label steps cost → ⊥
not_valid line label steps cost other e =
    let front = label ++ codes ": " in
    let words = codes "plan valid: " ++ decimal steps ++ codes " steps, cost " in
    let regrouped : labelled_valid label steps cost ≡ (front ++ words ++ decimal cost) ++ 10 ∷ [] =
    sym (append_assoc front (words ++ decimal cost) (10 ∷ [])) ∙ ap (λ (x : List ℕ). x ++ 10 ∷ []) (sym (append_assoc front words (decimal cost))) in
    let same : line ≡ front ++ words ++ decimal cost = append_cancel_right line (front ++ words ++ decimal cost) (10 ∷ []) (e ∙ regrouped) in
    other (subst (λ (x : List ℕ). IsDigit (last x)) (sym same) (digit_behind (front ++ words) cost))

module _ (labels : List (List ℕ)) (b : List ℕ) (cs : List (List ℕ)) (o : Output) (out : JudgeOut false labels b cs (Some o)) (refused : IsRefusal o) (unlayered : IsLayeredText b → ⊥) where
  no_digit : (k : ℕ) → IsDigit (last (get_or (refused.line ∷ []) k [])) → ⊥
  no_digit zero d = omega (arith, d.1, refused.letter)
  no_digit (suc k) d = omega (arith, d.0)

  no_line : (k steps cost : ℕ) (label : List ℕ) → line_of o.text k ≡ labelled_valid label steps cost → ⊥
  no_line k steps cost label e =
      let line = plain refused.line refused.plain in
      let one : lines o.text ≡ refused.line ∷ [] = ap lines refused.is ∙ lines-one refused.line line.no_end ∙ ap (λ (x : List ℕ). x ∷ []) line.no_return in
      not_valid (get_or (refused.line ∷ []) k []) label steps cost (no_digit k) (sym (ap (λ (x : List (List ℕ)). get_or x k [] ++ 10 ∷ []) one) ∙ e)

  none_solves : (c : List ℕ) (steps cost : ℕ) → Solves b c (valid_line steps cost) → ⊥
  none_solves c steps cost solves =
      let h = headline_of VerdictAnswer plain_refusal reports_valid plain_refuses b c o (refuses_as_plan false labels b cs o unlayered out c) (Some []) (Some o.text) [] o.status refl refl refl in
      let apart : No ≡ Yes = sym refused.status ∙ h.yes.1 (steps, cost, solves) in
      absurd cc

  headline_refused : (old new : Option (List ℕ)) (before : List ℕ) (status : Status) → old ≡ Some before → status ≡ o.status → Appends old new o.text → PlansHeadline false labels b cs (Appends old new) status
  headline_refused old new before status known is sent = record {
    line = λ none number steps cost sent_out less sent_too. (
      λ e. absurd (no_line number steps cost (get_or labels number []) (ap (λ (x : List ℕ). line_of x number) (sent_same old new before o.text sent_out known sent sent_too) ∙ e)),
      λ solves. absurd (none_solves (get_or cs number []) steps cost solves),
    );
    yes = (λ e. (let apart : No ≡ Yes = sym refused.status ∙ sym is ∙ e in absurd cc), λ h. absurd (unlayered h.0));
  }

-- ---- both

module _ (labels : List (List ℕ)) (are_labels : All IsLabel labels) (old new : Option (List ℕ)) where
  headline_of_output : (b : List ℕ) (cs : List (List ℕ)) (o : Output) (before : List ℕ) (status : Status) → length cs ≡ length labels → old ≡ Some before → status ≡ o.status → Appends old new o.text → JudgeOut false labels b cs (Some o) → PlansHeadline false labels b cs (Appends old new) status
  headline_of_output b cs o before status many known_before is sent (inl refused) =
      headline_refused labels b cs o (inl refused) (task_refused b o refused) (not_refused plain_refusal b (Some o) refused) old new before status known_before is sent
  headline_of_output b cs o before status many known_before is sent (inr (p, reads, layered, (all, each, tally, tallies, answer))) = headline_layered p layered labels b cs reads many are_labels o all each tally answer old new before status known_before is sent

module _ (labels : List (List ℕ)) (are_labels : All IsLabel labels) (old new : Option (List ℕ)) (b : List ℕ) (cs : List (List ℕ)) (o : Output) (before : List ℕ) (status : Status) (many : length cs ≡ length labels) (known : old ≡ Some before) (is : status ≡ o.status) (sent : Appends old new o.text) where
  -- with reasons or without
  headline_by : (reasons : Bool) → JudgeOut reasons labels b cs (Some o) → PlansHeadline reasons labels b cs (Appends old new) status
  headline_by false out = headline_of_output labels are_labels old new b cs o before status many known is sent out
  headline_by true out =
      let u = untold labels b cs o out in
      let h = headline_of_output labels are_labels (Some []) (Some u.plain.text) b cs u.plain [] u.plain.status many refl refl refl u.its in
      record {
        line = λ none number steps cost text less sent_text.
            let same : unexplained true text ≡ u.plain.text = ap without_reasons (sym (sent_same old new before o.text text known sent sent_text)) ∙ u.left (none refl) in
            subst (λ (x : List ℕ). (line_of x number ≡ labelled_valid (get_or labels number []) steps cost) ↔ Solves b (get_or cs number []) (valid_line steps cost)) (sym same)
            (h.line (λ e. absurd (false≢true e)) number steps cost u.plain.text less refl);
        yes = (λ e. h.yes.0 (sym u.status ∙ sym is ∙ e), λ s. is ∙ u.status ∙ h.yes.1 s);
      }

pub plans_headline : (reasons : Bool) (labels : List (List ℕ)) → All IsLabel labels → (old new task : Option (List ℕ)) (known : ℕ → Option (List ℕ)) (r : Result Status JudgeFault)
    → ((b : List ℕ) (cs : List (List ℕ)) → task ≡ Some b → HaveBytes known (length labels) cs → EndsPlans reasons (JudgeOut reasons labels b cs) (Appends old new) (tool_result r))
    → IfOk r (λ status. (b before : List ℕ) (cs : List (List ℕ)) → task ≡ Some b → HaveBytes known (length labels) cs → old ≡ Some before → PlansHeadline reasons labels b cs (Appends old new) status)
plans_headline reasons labels are_labels old new task known (Ok status) ends = λ b before cs known_b have known_before.
    let (o, out, is, sent) = plans_end_well reasons (Appends old new) (JudgeOut reasons labels b cs) status (ends b cs known_b have) in
    headline_by labels are_labels old new b cs o before status have.0 known_before is sent reasons out
plans_headline reasons labels are_labels old new task known (Err why) ends = tt
