-- What is written of the steps of a run, and of the whole run.
use Rattle.sas_plan_reasons.proofs.Imports.{◌≡◌, ℕ, ◌+◌, ◌≤◌, List, [], ◌∷◌, ◌++◌, flat_map, length, take, get_or, sym, ◌∙◌, ap, subst, get_or-append_seam, get_or-take, take-append_seam, take-take, length-take, length-append, range_with_len, Parts, text, text_of_both, text_of_each, initial_lines, IsLayered, Run, IsRunFrom, state_at, GoesThroughFrom, step_lines, run_lines, step_line, change_lines, Output, Option, Some, Status, ToolFault, Sink, Pushed, Pushes, pushes_then, EndsCounting, Tracer, HasTraced, sink_of, CanList}
use Rattle.sas_plan_reasons.proofs.Changing.{said, said_more}
use Rattle.sas_plan_reasons.proofs.Noted.{state_after}
use Rattle.std.proofs.Common.{arith}
use Rattle.std.specs.Prelude.{Result}

module _ (p : Parts) (run : Run) where
  -- the lines of a step, each with its end
  abbrev pub step_text : ℕ → List ℕ
  step_text k = text (step_lines p run k)

  -- those of the first steps
  abbrev pub steps_text : ℕ → List ℕ
  steps_text n = text (flat_map (step_lines p run) (range_with_len 0 n))

  steps_are : (n : ℕ) → steps_text n ≡ said step_text n
  steps_are n = text_of_each (step_lines p run) (range_with_len 0 n)

  pub steps_more : (n : ℕ) → steps_text n ++ step_text n ≡ steps_text (n + 1)
  steps_more n = ap (λ (l : List ℕ). l ++ step_text n) (steps_are n) ∙ (said_more step_text n ∙ sym (steps_are (n + 1)))

  -- the lines of the initial state, and behind them those of the steps
  pub run_text : text (initial_lines p.variables (state_at run 0)) ++ steps_text (length run.steps) ≡ text (run_lines p run)
  run_text = sym (text_of_both (initial_lines p.variables (state_at run 0)) (flat_map (step_lines p run) (range_with_len 0 (length run.steps))))

-- ---- one step more

module _ {W : Type 0} (contents : W → Option (List ℕ)) (p : Parts) (layered : IsLayered p) {start : List ℕ} (first old new : Tracer W) (before : List ℕ) (operator : ℕ) (next : List ℕ)
    (traced : HasTraced contents p start first old before) (there : GoesThroughFrom p start (before ++ operator ∷ []) next) where
  abbrev more : List ℕ
  more = before ++ operator ∷ []

  abbrev k : ℕ
  k = length before

  pub traced_next : (step : ℕ) → step ≡ k + 1 → CanList p new.printed.now.listing → new.printed.now.values ≡ next
      → Pushes contents (sink_of old) (sink_of new) (text (step_line p step operator ∷ change_lines p old.printed.now.values next)) → HasTraced contents p start first new more
  traced_next step at listing values pushes = record {
    listing = listing;
    through = subst (GoesThroughFrom p start more) (sym values) there;
    pushes = λ run through front.
        let many : length more ≡ k + 1 = length-append before (operator ∷ []) in
        let within : length more ≤ length run.steps = within_run run through front in
        let front_before : before ≡ take k run.operators = front_of run front in
        let its : get_or run.operators k 0 ≡ operator = operator_of run front in
        let s_is = state_after p layered run through before old.printed.now.values front_before (omega (arith, within, many)) traced.through in
        let next_is = ap (state_at run) (sym many) ∙ state_after p layered run through more next front within there in
        let line : step_text p run k ≡ text (step_line p step operator ∷ change_lines p old.printed.now.values next) =
        ap (λ (n : ℕ). text (step_line p n (get_or run.operators k 0) ∷ change_lines p (state_at run k) (state_at run (k + 1)))) (sym at)
        ∙ (ap (λ (o : ℕ). text (step_line p step o ∷ change_lines p (state_at run k) (state_at run (k + 1)))) its
        ∙ (ap (λ (s : List ℕ). text (step_line p step operator ∷ change_lines p s (state_at run (k + 1)))) s_is
        ∙ ap (λ (s : List ℕ). text (step_line p step operator ∷ change_lines p old.printed.now.values s)) next_is)) in
        subst (λ n. Pushes contents (sink_of first) (sink_of new) (steps_text p run n)) (sym many)
        (subst (Pushes contents (sink_of first) (sink_of new)) (steps_more p run k)
        (pushes_then contents (sink_of first) (sink_of old) (sink_of new) _ _ (traced.pushes run through front_before) (subst (Pushes contents (sink_of old) (sink_of new)) (sym line) pushes)));
  }
    where
      within_run : (run : Run) → IsRunFrom p start run → more ≡ take (length more) run.operators → length more ≤ length run.steps
      within_run run through front = omega (arith, ap length front, length-take (length more) run.operators, through.operators)

      front_of : (run : Run) → more ≡ take (length more) run.operators → before ≡ take k run.operators
      front_of run front = sym (take-append_seam before (operator ∷ [])) ∙ (ap (take k) front ∙ take-take k (length more) run.operators (omega (arith, length-append before (operator ∷ []))))

      operator_of : (run : Run) → more ≡ take (length more) run.operators → get_or run.operators k 0 ≡ operator
      operator_of run front = sym (get_or-take (length more) run.operators k 0 (omega (arith, length-append before (operator ∷ []))))
          ∙ (ap (λ os. get_or os k 0) (sym front) ∙ get_or-append_seam before operator [] 0)

-- what goes out of some lines, and of an answer behind them, is an output of both
pub sends_both : {W : Type 0} (contents : W → Option (List ℕ)) (lines : List ℕ) (answer : Output) (start : Option (List ℕ)) (first mid last : Sink W)
    (Sent : List ℕ → Type 0) (ended : Result Status ToolFault) → first.status ≡ answer.status → Pushed contents start first [] → Pushes contents first mid lines → Pushes contents mid last answer.text
    → ((whole : List ℕ) → Pushed contents start last whole → EndsCounting (λ output. output ≡ Some (record { text = whole; status = last.status })) Sent ended)
    → EndsCounting (λ output. output ≡ Some (record { text = lines ++ answer.text; status = answer.status })) Sent ended
sends_both contents lines answer start first mid last Sent ended status none pushes behind finish =
    subst (λ (s : Status). EndsCounting (λ output. output ≡ Some (record { text = lines ++ answer.text; status = s })) Sent ended)
    (behind.status ∙ (pushes.status ∙ status)) (finish _ (behind.text start _ (pushes.text start [] none)))
