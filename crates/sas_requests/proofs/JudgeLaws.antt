-- Laws of what is printed of many plans.
use Rattle.sas_requests.proofs.Imports.{arith, ◌≡◌, ℕ, ◌<◌, List, [], ◌∷◌, ◌++◌, length, codes, refl, sym, ap, subst, ◌∙◌, inl, inr, Option, Some, None, Result, Ok, Err, zip, flat_map, map, All, AllZip, none-some, All-nil, All-cons, All-contains, Contains-append_right, Contains-append_left, Contains-push, Parts, PlanParts, WellRanged, IsLayered, Fault, ReadsAs, Judged, HasCost, IsJudged, PlansOut, JudgeOut, plans_answer, summary_of, Tallies, labelled, EachIsThatOfPlan, IsOneLong, RefusesAsPlan, most_bytes, plan_format, plan_laws_hold, task_format, Status, Yes, No, Output, VerdictAnswer, WhyVerdict, Plan, Show, OutBy, untraced, VerdictOut, LayeredOut, PlanSaid, TaskOut, TaskBy, UnlayeredAnswer, UnlayeredBy, FileLine, file_text, with_reasons, why_refusal, plain_refusal, costs_of, option_map, Bool, true, false, IsAnswerOrRefusal, HasOneOutput, refusal_line, word_of, worded}
use Rattle.std.proofs.Common.{Contains}
use Rattle.sas_requests.proofs.Outputs.{none_made}
use Rattle.sas_requests.proofs.PlanOutputs.{plain_refuses, not_refused_by, layered_output}
use Rattle.sas_requests.proofs.PlansSaid.{plan_said}
use Rattle.sas_requests.proofs.RefusalLaws.{reasons_of}
use Rattle.sas_requests.proofs.RefusalReasons.{some_of}
use Rattle.sas_requests.proofs.RequestEnds.{judged_by, unlayered_by}
use Rattle.sas_requests.proofs.WhyAnswers.{why_refuses}
use Rattle.sas_requests.proofs.Tallying.{one_tally, some_tally}

-- ---- one thing is said of a plan

one_cost : (c : List ℕ) (s : Status) (x y : Option ℕ) → HasCost c s x → HasCost c s y → x ≡ y
one_cost c h1 x y h2 h3 = grind (arith, plan_laws_hold)

-- a status other than that of a refusal comes of a plan that was read
cost_for : (IsAnswer : PlanParts → Output → Type 0) (c : List ℕ) (o : Output) (s : Status) → o.status ≡ s → (r : Result PlanParts Fault) → ReadsAs plan_format most_bytes c r → IsAnswerOrRefusal (codes "plan") IsAnswer r (Some o)
    → (cost : Option ℕ) × HasCost c s cost
cost_for IsAnswer c o No e r reads is = (None, refl)
cost_for IsAnswer c o Yes e (Ok plan) reads is = (Some plan.cost, (plan, reads.0, refl))
cost_for IsAnswer c o Yes e (Err f) reads is =
    let no = (worded (word_of f.kind) (refusal_line (codes "plan") f.line) o (sym is)).status in
    let apart : Yes ≡ No = sym e ∙ no in
    absurd cc

cost_by : (reasons : Bool) (p : Parts) (c : List ℕ) (o : Output) → PlanSaid reasons p c (Some o) → (cost : Option ℕ) × HasCost c o.status cost
cost_by false p c o out = cost_for (VerdictAnswer p) c o o.status refl out.0 out.1 out.2
cost_by true p c o out =
    let (q, is, same) = some_of (file_text out.reasons) out.of_read o out.whole in
    let (r, reads, answer) = subst (VerdictOut WhyVerdict p c) is out.is_out in
    cost_for (WhyVerdict p) c q o.status (sym (ap (λ (x : Output). x.status) same)) r reads answer

said_for : (reasons : Bool) (p : Parts) (c : List ℕ) (o : Output) → PlanSaid reasons p c (Some o) → (j : Judged) × IsJudged reasons p c j
said_for reasons p c o out = let cost = cost_by reasons p c o out in (record { output = o; cost = cost.0 }, (out, cost.1))

-- ---- one output

module _ (reasons : Bool) (p : Parts) (ranged : WellRanged p) (layered : IsLayered p) where
  verdict : (c : List ℕ) → HasOneOutput (PlanSaid reasons p c) (most_bytes < length c)
  verdict c = plan_said reasons p ranged layered c

  one_said : (c : List ℕ) (a b : Judged) → IsJudged reasons p c a → IsJudged reasons p c b → a ≡ b
  one_said c a b (out_a, cost_a) (out_b, cost_b) =
      let e : Some a.output ≡ Some b.output = (verdict c).one (Some a.output) (Some b.output) out_a out_b in
      let same : a.output ≡ b.output = cc in
      let cost = one_cost c b.output.status a.cost b.cost (subst (λ (x : Output). HasCost c x.status a.cost) same cost_a) cost_b in
      ap (λ (x : Output). let j : Judged = record { output = x; cost = a.cost } in j) same ∙ ap (λ (x : Option ℕ). let j : Judged = record { output = b.output; cost = x } in j) cost

  one_list : (cs : List (List ℕ)) (xs ys : List Judged) → AllZip (IsJudged reasons p) cs xs → AllZip (IsJudged reasons p) cs ys → xs ≡ ys
  one_list [] [] [] h g = refl
  one_list [] [] (y ∷ ys) h g = absurd g
  one_list [] (x ∷ xs) ys h g = absurd h
  one_list (c ∷ cs) [] ys h g = absurd h
  one_list (c ∷ cs) (x ∷ xs) [] h g = absurd g
  one_list (c ∷ cs) (x ∷ xs) (y ∷ ys) h g =
      ap (λ (j : Judged). j ∷ xs) (one_said c x y h.0 g.0) ∙ ap (λ (l : List Judged). y ∷ l) (one_list cs xs ys h.1 g.1)

  abbrev IsShort : List ℕ → Type 0
  IsShort c = PlanSaid reasons p c None → ⊥

  -- where something is said of each plan, none is too long
  each_said : (cs : List (List ℕ)) (all : List Judged) → AllZip (IsJudged reasons p) cs all → All IsShort cs
  each_said [] all h = All-nil IsShort
  each_said (c ∷ cs) [] h = absurd h
  each_said (c ∷ cs) (j ∷ all) h = All-cons IsShort c cs (λ long. none-some j.output ((verdict c).one None (Some j.output) long h.0.0)) (each_said cs all h.1)

  one_plans_output : (labels cs : List (List ℕ)) (o q : Option Output) → PlansOut reasons p labels cs o → PlansOut reasons p labels cs q → o ≡ q
  one_plans_output labels cs None None a b = refl
  one_plans_output labels cs None (Some q) (c, has, long) (all, each, tally, tallies, is) = absurd (All-contains IsShort cs c (each_said cs all each) has long)
  one_plans_output labels cs (Some o) None (all, each, tally, tallies, is) (c, has, long) = absurd (All-contains IsShort cs c (each_said cs all each) has long)
  one_plans_output labels cs (Some o) (Some q) (xs, each, s, h, is) (ys, each_other, t, g, is_other) =
      let same : xs ≡ ys = one_list cs xs ys each each_other in
      ap Some (is ∙ ap (λ (all : List Judged). plans_answer labels all s) same
      ∙ ap (plans_answer labels ys) (one_tally (costs_of ys) s t (subst (λ (all : List Judged). Tallies (costs_of all) s) same h) g) ∙ sym is_other)

  -- nothing is said of some plans, and none of them is too long
  abbrev NoneSaid : List (List ℕ) → Type 0
  NoneSaid cs = (all : List Judged) → AllZip (IsJudged reasons p) cs all → ⊥

  abbrev NoneLong : List (List ℕ) → Type 0
  NoneLong cs = (c : List ℕ) → Contains cs c → IsShort c

  first_said : (c : List ℕ) (cs : List (List ℕ)) (o : Option Output) → (NoneSaid cs → NoneLong cs → ⊥) → NoneSaid (c ∷ cs) → NoneLong (c ∷ cs) → PlanSaid reasons p c o → ⊥
  first_said c cs None later none short out = short c (Contains-append_left (c ∷ []) cs c (Contains-push [] c)) out
  first_said c cs (Some o) later none short out =
      let said = said_for reasons p c o out in
      later (λ all are. none (said.0 ∷ all) (said.1, are)) (λ d has long. short d (Contains-append_right (c ∷ []) cs d has) long)

  some_list : (cs : List (List ℕ)) → NoneSaid cs → NoneLong cs → ⊥
  some_list [] none short = none [] tt
  some_list (c ∷ cs) none short = (verdict c).some (λ o out. first_said c cs o (some_list cs) none short out)

  plans_output : (labels cs : List (List ℕ)) → HasOneOutput (PlansOut reasons p labels cs) ((c : List ℕ) × Contains cs c × (most_bytes < length c))
  plans_output labels cs = record {
    one = one_plans_output labels cs;
    some = λ none. some_list cs (λ all are. let tally = some_tally (costs_of all) in none (Some (plans_answer labels all tally.0)) (all, are, tally.0, tally.1, refl)) (λ c has long. none None (c, has, long));
    long = λ (c, has, long). (c, has, (verdict c).long long);
  }

module _ (labels : List (List ℕ)) (b : List ℕ) (cs : List (List ℕ)) where
  abbrev Long : Type 0
  Long = (c : List ℕ) × Contains cs c × (most_bytes < length c)

  -- where the task is refused without its reasons
  unreasoned : HasOneOutput (LayeredOut why_refusal (λ p. PlansOut true p labels cs) b) (IsOneLong b cs)
  unreasoned = layered_output why_refusal why_refuses (λ p. PlansOut true p labels cs) Long b (λ p ranged layered. plans_output true p ranged layered labels cs)

  one_refusal : (o q : Option Output) → TaskBy true (UnlayeredBy true) b o → TaskBy true (UnlayeredBy true) b q → o ≡ q
  one_refusal o q x y =
      let read : x.of_read ≡ y.of_read = unreasoned.one x.of_read y.of_read (inl x.is_out) (inl y.is_out) in
      let lines : x.reasons ≡ y.reasons = (reasons_of Show b []).one x.reasons y.reasons x.are_reasons y.are_reasons in
      x.whole ∙ ap (λ (r : List FileLine). option_map (with_reasons (file_text r)) x.of_read) lines ∙ ap (option_map (with_reasons (file_text y.reasons))) read ∙ sym y.whole

  one_reasoned : (o q : Option Output) → JudgeOut true labels b cs o → JudgeOut true labels b cs q → o ≡ q
  one_reasoned o q (inl x) (inl y) = one_refusal o q x y
  one_reasoned o q (inl x) (inr (p, reads, layered, is)) = absurd (not_refused_by true b o x (p, reads, layered))
  one_reasoned o q (inr (p, reads, layered, is)) (inl y) = absurd (not_refused_by true b q y (p, reads, layered))
  one_reasoned o q (inr x) (inr y) = unreasoned.one o q (inr x) (inr y)

  some_reasoned : (o : Option Output) → LayeredOut why_refusal (λ p. PlansOut true p labels cs) b o → ((q : Option Output) → JudgeOut true labels b cs q → ⊥) → ⊥
  some_reasoned o (inl x) none = (reasons_of Show b []).some (λ r why. none (option_map (with_reasons (file_text r)) o) (inl (record { of_read = o; reasons = r; is_out = x; are_reasons = why; whole = refl })))
  some_reasoned o (inr y) none = none o (inr y)

  long_reasoned : JudgeOut true labels b cs None → IsOneLong b cs
  long_reasoned (inl x) = unreasoned.long (inl (subst (TaskOut (UnlayeredAnswer why_refusal) b) (none_made (with_reasons (file_text x.reasons)) x.of_read x.whole) x.is_out))
  long_reasoned (inr y) = unreasoned.long (inr y)

  pub judge_output : (reasons : Bool) → HasOneOutput (JudgeOut reasons labels b cs) (IsOneLong b cs)
  judge_output true = record { one = one_reasoned; some = λ none. unreasoned.some (λ o out. some_reasoned o out none); long = long_reasoned }
  judge_output false = layered_output plain_refusal plain_refuses (λ p. PlansOut false p labels cs) Long b (λ p ranged layered. plans_output false p ranged layered labels cs)

-- ---- of each plan it is what `plan` prints

-- `LABEL: ` and the output of `plan`
abbrev pub labelled_plain : List ℕ × Output → List ℕ
labelled_plain (label, plain) = label ++ codes ": " ++ plain.text

abbrev outputs : List Judged → List Output
outputs all = map (λ (j : Judged). j.output) all

plain_texts : (labels : List (List ℕ)) (all : List Judged) → flat_map labelled (zip labels all) ≡ flat_map labelled_plain (zip labels (outputs all))
plain_texts [] all = refl
plain_texts (l ∷ []) [] = refl
plain_texts (l ∷ m ∷ labels) [] = refl
plain_texts (l ∷ labels) (j ∷ all) = ap (λ (x : List ℕ). labelled (l, j) ++ x) (plain_texts labels all)

each_plain : (reasons : Bool) (p : Parts) → IsLayered p → (b : List ℕ) → ReadsAs task_format most_bytes b (Ok p) → (cs : List (List ℕ)) (all : List Judged) → AllZip (IsJudged reasons p) cs all → AllZip (λ c out. OutBy (untraced reasons) Plan b c (Some out)) cs (outputs all)
each_plain reasons p layered b reads [] [] h = tt
each_plain reasons p layered b reads [] (j ∷ all) h = absurd h
each_plain reasons p layered b reads (c ∷ cs) [] h = absurd h
each_plain reasons p layered b reads (c ∷ cs) (j ∷ all) h = (judged_by (untraced reasons) b c (Some j.output) p layered reads h.0.0, each_plain reasons p layered b reads cs all h.1)

pub each_is_that_of_plan : EachIsThatOfPlan
each_is_that_of_plan reasons labels b cs o layered (inl refused) = absurd (not_refused_by reasons b (Some o) refused layered)
each_is_that_of_plan reasons labels b cs o _ (inr (p, reads, layered, (all, each, tally, tallies, is))) = (
  outputs all,
  each_plain reasons p layered b reads cs all each,
  summary_of labels tally,
  ap (λ (x : Output). x.text) is ∙ ap (λ (x : List ℕ). x ++ summary_of labels tally) (plain_texts labels all),
)

-- a task is refused as by `plan`
pub refuses_as_plan : RefusesAsPlan
refuses_as_plan reasons labels b cs o other (inl refused) c = unlayered_by (untraced reasons) b c (Some o) refused
refuses_as_plan reasons labels b cs o other (inr (p, reads, layered, is)) c = absurd (other (p, reads, layered))
