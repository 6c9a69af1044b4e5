-- With reasons, what is printed of many plans is the same answer as without.
use Rattle.std.proofs.lemmas.Slice.Eq.{bytes_eq-Decides}
use Rattle.sas_requests.proofs.Imports.{◌≡◌, ℕ, zero, suc, Bool, true, false, List, [], ◌∷◌, ◌++◌, length, take, get_or, codes, decimal, append_assoc, refl, sym, ap, subst, ◌∙◌, arith, inl, inr, ◌↔◌, Option, Some, None, is_some, if◌then◌else◌, list_all, list_all-from_AllPass, AllPass-from_list_all, zip, flat_map, AllZip, text, Parts, WellRanged, IsPlain, plain, plain-append, plain-decimal, IsLabel, Status, Yes, No, Output, Judged, HasCost, IsJudged, JudgeOut, AreNoReasons, BestPlan, Tally, Tallies, best_words, costs_of, labelled, plans_answer, summary_of, is_reason, without_reasons, SamePlans, untraced, Plan}
use Rattle.sas_requests.proofs.PlainAnswers.{IsReported, first_stays, stays, reported_line, without_both}
use Rattle.sas_requests.proofs.PlanLines.{IsLine, verdict_line, task_refused}
use Rattle.sas_requests.proofs.PlanOutputs.{not_refused_by}
use Rattle.sas_requests.proofs.ReasonLines.{AreReasons}
use Rattle.sas_requests.proofs.ReasonedOutputs.{same_answer}
use Rattle.sas_requests.proofs.RequestEnds.{unlayered_by}
use Rattle.sas_requests.proofs.PlansSaid.{said_plain}
use Rattle.sas_requests.proofs.LastBytes.{IsDigit, decimal_first}

-- a plan has a cost if it is valid
pub status_valid : (c : List ℕ) (s : Status) (cost : Option ℕ) → HasCost c s cost → (s ≡ Yes) ↔ (is_some cost ≡ true)
status_valid c h1 cost h2 = grind (arith, false, true)

-- ---- lines that are no reasons

-- a reason begins with two spaces
by_bytes : (line : List ℕ) → ((take 2 line ≡ codes "  ") → ⊥) → is_reason line ≡ false
by_bytes line other = go (is_reason line) refl
  where
    go : (b : Bool) → is_reason line ≡ b → b ≡ false
    go true e = absurd (other ((bytes_eq-Decides (take 2 line) (codes "  ")).0 e))
    go false e = refl

no_reason : (label words : List ℕ) → is_reason label ≡ false → is_reason (label ++ codes ": " ++ words) ≡ false
no_reason [] words e = by_bytes (codes ": " ++ words) (λ same. (let first = ap (λ (t : List ℕ). get_or t 0 0) same in omega (arith, first)))
no_reason (a ∷ []) words e = by_bytes (a ∷ codes ": " ++ words) (λ same. (let second = ap (λ (t : List ℕ). get_or t 1 0) same in omega (arith, second)))
no_reason (a ∷ b ∷ label) words e = e

digit_no_reason : (line : List ℕ) → IsDigit (get_or line 0 0) → is_reason line ≡ false
digit_no_reason line digit = by_bytes line (λ same. (let first = ap (λ (t : List ℕ). get_or t 0 0) same ∙ refl in omega (arith, first_of line, first, digit.0)))
  where
    first_of : (bytes : List ℕ) → get_or (take 2 bytes) 0 0 ≡ get_or bytes 0 0
    first_of [] = refl
    first_of (byte ∷ bytes) = refl

digit_first : (front behind : List ℕ) → IsDigit (get_or front 0 0) → IsDigit (get_or (front ++ behind) 0 0)
digit_first [] behind digit = absurd (omega (arith, digit.0))
digit_first (byte ∷ front) behind digit = digit

-- ---- one plan

-- what is said of a plan without reasons, and with them
record IsSame (k j : Judged) : Type 0 where
  cost : k.cost ≡ j.cost
  line : IsLine k.output.text
  reasons : List (List ℕ)
  are : AreReasons reasons
  whole : j.output.text ≡ k.output.text ++ text reasons
  yes : is_some j.cost ≡ true → j.output.text ≡ k.output.text

module _ (p : Parts) (ranged : WellRanged p) where
  same_judged : (c : List ℕ) (j : Judged) → IsJudged true p c j → (k : Judged) × IsJudged false p c k × IsSame k j
  same_judged c j (out, cost) =
      let x = said_plain p ranged c j.output out in
      let its : HasCost c x.plain.status j.cost = subst (λ (s : Status). HasCost c s j.cost) x.status cost in (
        record { output = x.plain; cost = j.cost },
        (x.said, its),
        record {
          cost = refl;
          line = verdict_line p c x.plain x.said;
          reasons = x.reasons;
          are = x.are;
          whole = x.whole;
          yes = λ valid. x.yes ((status_valid c x.plain.status j.cost its).1 valid);
        },
      )

  same_list : (cs : List (List ℕ)) (all : List Judged) → AllZip (IsJudged true p) cs all → (ks : List Judged) × AllZip (IsJudged false p) cs ks × AllZip IsSame ks all
  same_list [] [] h = ([], tt, tt)
  same_list [] (j ∷ all) h = absurd h
  same_list (c ∷ cs) [] h = absurd h
  same_list (c ∷ cs) (j ∷ all) h =
      let (k, its, same) = same_judged c j h.0 in
      let (ks, each, are) = same_list cs all h.1 in (k ∷ ks, (its, each), (same, are))

same_costs : (ks all : List Judged) → AllZip IsSame ks all → costs_of ks ≡ costs_of all
same_costs [] [] h = refl
same_costs [] (j ∷ all) h = absurd h
same_costs (k ∷ ks) [] h = absurd h
same_costs (k ∷ ks) (j ∷ all) h = let first : IsSame k j = h.0 in rw (first.cost, same_costs ks all h.1) refl

-- its line stays when the reasons behind it are taken away
left_one : (label : List ℕ) (k j : Judged) (rest : List ℕ) → IsLabel label → is_reason label ≡ false → IsSame k j → without_reasons (labelled (label, j) ++ rest) ≡ labelled (label, k) ++ without_reasons rest
left_one label k j rest is_label other same =
    let front = label ++ codes ": " in
    let first = front ++ same.line.line in
    let reported : IsReported first = record { plain = plain-append front same.line.line (plain-append label (codes ": ") is_label refl) same.line.plain; no_reason = no_reason label same.line.line other } in
    let plain_is : labelled (label, k) ≡ first ++ 10 ∷ [] = ap (λ (x : List ℕ). front ++ x) same.line.is ∙ sym (append_assoc front same.line.line (10 ∷ [])) in
    let why_is : labelled (label, j) ≡ (first ++ 10 ∷ []) ++ text same.reasons =
    ap (λ (x : List ℕ). front ++ x) same.whole ∙ sym (append_assoc front k.output.text (text same.reasons)) ∙ ap (λ (x : List ℕ). x ++ text same.reasons) plain_is in
    ap (λ (x : List ℕ). without_reasons (x ++ rest)) why_is
    ∙ without_both (first ∷ same.reasons) rest
    ∙ ap (λ (x : List ℕ). x ++ without_reasons rest) (first_stays first same.reasons reported same.are ∙ sym plain_is)

-- ---- all plans

left_each : (labels : List (List ℕ)) (ks all : List Judged) (rest : List ℕ) → AreNoReasons labels → AllZip IsSame ks all
    → without_reasons (flat_map labelled (zip labels all) ++ rest) ≡ flat_map labelled (zip labels ks) ++ without_reasons rest
left_each [] ks all rest none same = refl
left_each (l ∷ labels) [] [] rest none same = refl
left_each (l ∷ labels) [] (j ∷ all) rest none same = absurd same
left_each (l ∷ labels) (k ∷ ks) [] rest none same = absurd same
left_each (l ∷ labels) (k ∷ ks) (j ∷ all) rest none same =
    let first = none 0 [] (omega arith) in
    let whys = flat_map labelled (zip labels all) in
    let plains = flat_map labelled (zip labels ks) in
    ap without_reasons (append_assoc (labelled (l, j)) whys rest)
    ∙ left_one l k j (whys ++ rest) first.0 first.1 same.0
    ∙ ap (λ (x : List ℕ). labelled (l, k) ++ x) (left_each labels ks all rest (λ i d less. none (suc i) d (omega arith)) same.1)
    ∙ sym (append_assoc (labelled (l, k)) plains (without_reasons rest))

-- where all are valid there are no reasons
valid_each : (labels : List (List ℕ)) (ks all : List Judged) → AllZip IsSame ks all → list_all is_some (costs_of all) ≡ true → flat_map labelled (zip labels all) ≡ flat_map labelled (zip labels ks)
valid_each [] ks all same valid = refl
valid_each (l ∷ labels) [] [] same valid = refl
valid_each (l ∷ labels) [] (j ∷ all) same valid = absurd same
valid_each (l ∷ labels) (k ∷ ks) [] same valid = absurd same
valid_each (l ∷ labels) (k ∷ ks) (j ∷ all) same valid =
    let pass = AllPass-from_list_all is_some (costs_of (j ∷ all)) valid in
    let first : IsSame k j = same.0 in
    let rest = list_all-from_AllPass is_some (costs_of all) (λ i d less. pass (suc i) d (omega arith)) in
    rw (first.yes (pass 0 None (omega arith)), valid_each labels ks all same.1 rest) refl

-- ---- the last line

label_plain : (labels : List (List ℕ)) (number : ℕ) → AreNoReasons labels → IsPlain (get_or labels number [])
label_plain [] number none = refl
label_plain (l ∷ labels) zero none = (none 0 [] (omega arith)).0
label_plain (l ∷ labels) (suc number) none = label_plain labels number (λ i d less. none (suc i) d (omega arith))

best_plain : (labels : List (List ℕ)) (best : Option BestPlan) → AreNoReasons labels → IsPlain (best_words labels best)
best_plain labels None none = refl
best_plain labels (Some best) none =
    let words = codes ", best cost " ++ decimal best.cost in
    plain-append (words ++ codes ": ") (get_or labels best.number []) (plain-append words (codes ": ") (plain-append (codes ", best cost ") (decimal best.cost) refl (plain-decimal best.cost)) refl) (label_plain labels best.number none)

summary_stays : (labels : List (List ℕ)) (tally : Tally) → AreNoReasons labels → without_reasons (summary_of labels tally) ≡ summary_of labels tally
summary_stays labels tally none =
    let count = decimal (length labels) in
    let plans = count ++ codes " plans, " in
    let valid = plans ++ decimal tally.valid in
    let words = valid ++ codes " valid" ++ best_words labels tally.best in
    let is_plain : IsPlain words = plain-append (valid ++ codes " valid") (best_words labels tally.best)
    (plain-append valid (codes " valid") (plain-append plans (decimal tally.valid) (plain-append count (codes " plans, ") (plain-decimal (length labels)) refl) (plain-decimal tally.valid)) refl)
    (best_plain labels tally.best none) in
    let digit = digit_first (valid ++ codes " valid") (best_words labels tally.best) (digit_first valid (codes " valid") (digit_first plans (decimal tally.valid) (digit_first count (codes " plans, ") (decimal_first (length labels))))) in
    let reported : IsReported words = record { plain = is_plain; no_reason = digit_no_reason words digit } in
    stays (summary_of labels tally) (reported_line words (summary_of labels tally) reported refl)

-- ---- the whole answer

-- the same answer without reasons
pub record Untold (labels : List (List ℕ)) (b : List ℕ) (cs : List (List ℕ)) (why : Output) : Type 0 where
  pub plain : Output
  pub its : JudgeOut false labels b cs (Some plain)
  pub status : why.status ≡ plain.status
  pub yes : plain.status ≡ Yes → why.text ≡ plain.text
  pub left : AreNoReasons labels → without_reasons why.text ≡ plain.text

passes : (t : Bool) → (if t then Yes else No) ≡ Yes → t ≡ true
passes true e = refl
passes false e = absurd cc

pub untold : (labels : List (List ℕ)) (b : List ℕ) (cs : List (List ℕ)) (why : Output) → JudgeOut true labels b cs (Some why) → Untold labels b cs why
untold labels b cs why (inl refused) =
    let (plain, its, same) = same_answer false Plan b [] why (unlayered_by (untraced true) b [] (Some why) refused) in
    elim its [
      | inl out ↦ record { plain = plain; its = inl out; status = same.status; yes = same.yes; left = λ none. same.no (task_refused b plain out).status }
      | inr (p, reads, layered, out) ↦ absurd (not_refused_by true b (Some why) refused (p, reads, layered))
    ]
untold labels b cs why (inr (p, reads, layered, (all, each, tally, tallies, is))) =
    let (ks, plain_each, same) = same_list p reads.0.good cs all each in
    let costs = same_costs ks all same in
    let last = summary_of labels tally in
    let whole : why.text ≡ flat_map labelled (zip labels all) ++ last = ap (λ (o : Output). o.text) is in
    record {
      plain = plans_answer labels ks tally;
      its = inr (p, reads, layered, (ks, plain_each, tally, subst (λ (x : List (Option ℕ)). Tallies x tally) (sym costs) tallies, refl));
      status = ap (λ (o : Output). o.status) is ∙ ap (λ (x : List (Option ℕ)). if list_all is_some x then Yes else No) (sym costs);
      yes = λ is_yes.
          let valid = passes (list_all is_some (costs_of all)) (ap (λ (x : List (Option ℕ)). if list_all is_some x then Yes else No) (sym costs) ∙ is_yes) in
          whole ∙ ap (λ (x : List ℕ). x ++ last) (valid_each labels ks all same valid);
      left = λ none. ap without_reasons whole ∙ left_each labels ks all last none same ∙ ap (λ (x : List ℕ). flat_map labelled (zip labels ks) ++ x) (summary_stays labels tally none);
    }

pub same_plans : SamePlans
same_plans labels b cs why none out =
    let u = untold labels b cs why out in (u.plain, u.its, record { status = u.status; yes = u.yes; no = λ _. u.left none })
