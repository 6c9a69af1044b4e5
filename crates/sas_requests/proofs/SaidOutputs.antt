-- What an output says of a plan and of groups, with reasons and traces, is what it says without them.
use Rattle.std.proofs.lemmas.List.Elements.{Contains-append_left, Contains-append_right}
use Rattle.sas_requests.proofs.Imports.{◌≡◌, ℕ, Bool, true, false, List, [], ◌∷◌, ◌++◌, codes, decimal, refl, sym, ap, subst, ◌∙◌, inl, inr, Option, Some, if◌then◌else◌, not, filter, Contains, contains_none, contains_cases, contains_head, contains_tail, same_from_push, Appends, lines, lines-append, lines-one, unfinished-end, text, Plain, plain, Exclusive, group_line, valid_line, Status, Yes, No, Output, VerdictAnswer, Detail, Plan, Mutex, plain_refusal, Out, OutBy, EndsInLine, SaysLine, SendsLine, is_reason, without_reasons, IsSameAnswer, Solves, Headline, Invariants}
use Rattle.sas_requests.proofs.Headlines.{headline_of, reports_valid, sent_same}
use Rattle.sas_requests.proofs.InvariantGroups.{invariants_of}
use Rattle.sas_requests.proofs.PlanLines.{IsLine, valid_plain, verdict_line, task_refused}
use Rattle.sas_requests.proofs.PlanOutputs.{plain_refuses}
use Rattle.sas_requests.proofs.PlainAnswers.{IsReported, without_both, stays, reported_line, group_reported}
use Rattle.sas_requests.proofs.ReasonedOutputs.{same_answer}
use Rattle.sas_requests.proofs.TraceLaws.{lines_behind_text, ends_as_plan}

-- ---- the last line of a text

-- behind some lines a line is the last one
lines_behind : (front : List (List ℕ)) (bytes : List ℕ) (l : IsLine bytes) → lines (text front ++ bytes) ≡ lines (text front) ++ l.line ∷ []
lines_behind front bytes l =
    let line = plain l.line l.plain in
    lines_behind_text front bytes
    ∙ ap (λ (x : List (List ℕ)). lines (text front) ++ x) (ap lines l.is ∙ lines-one l.line line.no_end ∙ ap (λ (x : List ℕ). x ∷ []) line.no_return)

-- and a text has one last line
same_last : (front other : List (List ℕ)) (a b : List ℕ) → IsLine a → IsLine b → text front ++ a ≡ text other ++ b → a ≡ b
same_last front other a b is_a is_b e =
    let both = sym (lines_behind front a is_a) ∙ ap lines e ∙ lines_behind other b is_b in
    let same = same_from_push (lines (text front)) (lines (text other)) is_a.line is_b.line both in
    is_a.is ∙ ap (λ (x : List ℕ). x ++ 10 ∷ []) same.1 ∙ sym is_b.is

-- ---- lines of verdicts

abbrev valid_words : ℕ → ℕ → List ℕ
valid_words steps cost = codes "plan valid: " ++ decimal steps ++ codes " steps, cost " ++ decimal cost

valid_is_line : (steps cost : ℕ) → IsLine (valid_line steps cost)
valid_is_line steps cost = record { line = valid_words steps cost; plain = valid_plain steps cost; is = refl }

-- no reason says that a plan is valid
valid_stays : (steps cost : ℕ) → without_reasons (valid_line steps cost) ≡ valid_line steps cost
valid_stays steps cost = stays (valid_line steps cost) (reported_line (valid_words steps cost) (valid_line steps cost) (record { plain = valid_plain steps cost; no_reason = refl }) refl)

plan_line : (b c : List ℕ) (o : Output) → Out Plan b c (Some o) → IsLine o.text
plan_line b c o (inl refused) = let r = task_refused b o refused in record { line = r.line; plain = r.plain; is = r.is }
plan_line b c o (inr (p, reads, layered, out)) = verdict_line p c o out

-- ---- whether the plan solves the task

-- a text says so without its reasons, too
says_kept : (trace : Bool) (bytes : List ℕ) (steps cost : ℕ) → SaysLine trace bytes (valid_line steps cost) → SaysLine trace (without_reasons bytes) (valid_line steps cost)
says_kept false bytes steps cost is = ap without_reasons is ∙ valid_stays steps cost
says_kept true bytes steps cost (front, is) = (
  filter (λ line. not (is_reason line)) (lines (text front)),
  ap without_reasons is ∙ without_both front (valid_line steps cost) ∙ ap (λ (t : List ℕ). without_reasons (text front) ++ t) (valid_stays steps cost),
)

module _ (b c : List ℕ) where
  plain_headline : (o : Output) → Out Plan b c (Some o) → Headline b c (SaysLine false o.text) o.status
  plain_headline o out =
      let h = headline_of VerdictAnswer plain_refusal reports_valid plain_refuses b c o out (Some []) (Some o.text) [] o.status refl refl refl in
      record { line = h.line; yes = h.yes }

  trace_headline : (o : Output) → OutBy (record { reasons = false; trace = true }) Plan b c (Some o) → Headline b c (SaysLine true o.text) o.status
  trace_headline o out =
      let (untraced, its, front, whole, status) = ends_as_plan false b c o out in
      let h = plain_headline untraced its in
      record {
        line = λ steps cost. (
          λ last. (h.line steps cost).0 (same_last front last.0 untraced.text (valid_line steps cost) (plan_line b c untraced its) (valid_is_line steps cost) (sym whole ∙ last.1)),
          λ solves. (front, whole ∙ ap (λ (x : List ℕ). text front ++ x) ((h.line steps cost).1 solves)),
        );
        yes = (λ e. h.yes.0 (sym status ∙ e), λ s. status ∙ h.yes.1 s);
      }

  why_headline : (trace : Bool) (o why : Output) → IsSameAnswer o why → Headline b c (SaysLine trace o.text) o.status → Headline b c (SaysLine trace why.text) why.status
  why_headline trace o why same h = record {
    line = λ steps cost. (
      by_status o.status refl steps cost,
      λ solves. subst (λ (t : List ℕ). SaysLine trace t (valid_line steps cost)) (sym (same.yes (h.yes.1 (steps, cost, solves)))) ((h.line steps cost).1 solves),
    );
    yes = (λ e. h.yes.0 (sym same.status ∙ e), λ s. same.status ∙ h.yes.1 s);
  }
    where
      by_status : (status : Status) → o.status ≡ status → (steps cost : ℕ) → SaysLine trace why.text (valid_line steps cost) → Solves b c (valid_line steps cost)
      by_status Yes is steps cost says = (h.line steps cost).0 (subst (λ (t : List ℕ). SaysLine trace t (valid_line steps cost)) (same.yes is) says)
      by_status No is steps cost says = (h.line steps cost).0 (subst (λ (t : List ℕ). SaysLine trace t (valid_line steps cost)) (same.no is) (says_kept trace why.text steps cost says))

  untold_headline : (trace : Bool) (o : Output) → OutBy (record { reasons = false; trace = trace }) Plan b c (Some o) → Headline b c (SaysLine trace o.text) o.status
  untold_headline false o out = plain_headline o out
  untold_headline true o out = trace_headline o out

  headline_by : (reasons trace : Bool) (o : Output) → OutBy (record { reasons = reasons; trace = trace }) Plan b c (Some o) → Headline b c (SaysLine trace o.text) o.status
  headline_by false trace o out = untold_headline trace o out
  headline_by true trace o out = let (untold, its, same) = same_answer trace Plan b c o out in why_headline trace untold o same (untold_headline trace untold its)

  -- ---- what was sent of it

  sent : (trace : Bool) (o : Output) (old new : Option (List ℕ)) (before : List ℕ) (status : Status) → old ≡ Some before → status ≡ o.status → Appends old new o.text
      → Headline b c (SaysLine trace o.text) o.status → Headline b c (SendsLine trace old new) status
  sent false o old new before status known is went h = record {
    line = λ steps cost. (
      λ line. (h.line steps cost).0 (sent_same old new before o.text (valid_line steps cost) known went line),
      λ solves. subst (Appends old new) ((h.line steps cost).1 solves) went,
    );
    yes = (λ e. h.yes.0 (sym is ∙ e), λ s. is ∙ h.yes.1 s);
  }
  sent true o old new before status known is went h = record {
    line = λ steps cost. (
      λ last. (h.line steps cost).0 (subst (λ (x : List ℕ). EndsInLine x (valid_line steps cost)) (sent_same old new before last.0 o.text known last.1 went) last.2),
      λ solves. (o.text, went, (h.line steps cost).1 solves),
    );
    yes = (λ e. h.yes.0 (sym is ∙ e), λ s. is ∙ h.yes.1 s);
  }

pub headline_of_text : (detail : Detail) (b c : List ℕ) (o : Output) → OutBy detail Plan b c (Some o) → Headline b c (SaysLine detail.trace o.text) o.status
headline_of_text detail b c o out = headline_by b c detail.reasons detail.trace o out

pub headline_said : (detail : Detail) (b c : List ℕ) (o : Output) → OutBy detail Plan b c (Some o) → (old new : Option (List ℕ)) (before : List ℕ) (status : Status)
    → old ≡ Some before → status ≡ o.status → Appends old new o.text → Headline b c (SendsLine detail.trace old new) status
headline_said detail b c o out old new before status known is went =
    sent b c detail.trace o old new before status known is went (headline_of_text detail b c o out)

-- ---- which groups are exclusive

abbrev keeps : List ℕ → Bool
keeps line = not (is_reason line)

kept : (ls : List (List ℕ)) (line : List ℕ) → IsReported line → Contains ls line → Contains (filter keeps ls) line
kept [] line reported has = absurd (contains_none line has)
kept (l ∷ ls) line reported has = elim (contains_cases l ls line has) [
  | inl here ↦ subst (λ (x : List ℕ). Contains (filter keeps (x ∷ ls)) line) (sym here)
      (subst (λ (b : Bool). Contains (if not b then line ∷ filter keeps ls else filter keeps ls) line) (sym reported.no_reason) (contains_head line (filter keeps ls)))
  | inr later ↦ go (keeps l) (kept ls line reported later)
]
  where
    go : (b : Bool) → Contains (filter keeps ls) line → Contains (if b then l ∷ filter keeps ls else filter keeps ls) line
    go true in_rest = contains_tail l (filter keeps ls) line in_rest
    go false in_rest = in_rest

text_has : (ls : List (List ℕ)) (line : List ℕ) → Plain line → Contains ls line → Contains (lines (text ls)) line
text_has [] line is has = absurd (contains_none line has)
text_has (l ∷ ls) line is has =
    let split = lines-append (l ++ 10 ∷ []) (text ls) ∙ ap (λ (u : List ℕ). lines (l ++ 10 ∷ []) ++ lines (u ++ text ls)) (unfinished-end l) in
    subst (λ (x : List (List ℕ)). Contains x line) (sym split) (elim (contains_cases l ls line has) [
      | inl here ↦ Contains-append_left (lines (l ++ 10 ∷ [])) (lines (text ls)) line (subst (λ (x : List (List ℕ)). Contains x line)
          (sym (ap (λ (x : List ℕ). lines (x ++ 10 ∷ [])) here ∙ lines-one line is.no_end ∙ ap (λ (x : List ℕ). x ∷ []) is.no_return)) (contains_head line []))
      | inr later ↦ Contains-append_right (lines (l ++ 10 ∷ [])) (lines (text ls)) line (text_has ls line is later)
    ])

module _ (b c : List ℕ) where
  untold_invariants : (trace : Bool) (o : Output) → OutBy (record { reasons = false; trace = trace }) Mutex b c (Some o) → Invariants b (λ out. o.text ≡ out)
  untold_invariants trace o out =
      let i = invariants_of b o out (Some []) (Some o.text) [] refl refl in
      record { line = i.line }

  invariants : (reasons trace : Bool) (o : Output) → OutBy (record { reasons = reasons; trace = trace }) Mutex b c (Some o) → Invariants b (λ out. o.text ≡ out)
  invariants false trace o out = untold_invariants trace o out
  invariants true trace o out =
      let (plain_one, its, same) = same_answer trace Mutex b c o out in
      let i = untold_invariants trace plain_one its in
      record { line = λ place printed is has. i.line place plain_one.text refl (by_status plain_one same plain_one.status refl place (subst (λ (t : List ℕ). Contains (lines t) (group_line place Exclusive)) (sym is) has)) }
    where
      by_status : (plain_one : Output) → IsSameAnswer plain_one o → (status : Status) → plain_one.status ≡ status → (place : ℕ) → Contains (lines o.text) (group_line place Exclusive) → Contains (lines plain_one.text) (group_line place Exclusive)
      by_status plain_one same Yes is place has = subst (λ (t : List ℕ). Contains (lines t) (group_line place Exclusive)) (same.yes is) has
      by_status plain_one same No is place has =
          let reported = group_reported place Exclusive in
          subst (λ (t : List ℕ). Contains (lines t) (group_line place Exclusive)) (same.no is) (text_has (filter keeps (lines o.text)) (group_line place Exclusive) (plain (group_line place Exclusive) reported.plain) (kept (lines o.text) (group_line place Exclusive) reported has))

pub invariants_of_text : (detail : Detail) (b c : List ℕ) (o : Output) → OutBy detail Mutex b c (Some o) → Invariants b (λ out. o.text ≡ out)
invariants_of_text detail b c o out = invariants b c detail.reasons detail.trace o out

pub invariants_said : (detail : Detail) (b c : List ℕ) (o : Output) → OutBy detail Mutex b c (Some o) → (old new : Option (List ℕ)) (before : List ℕ)
    → old ≡ Some before → Appends old new o.text → Invariants b (Appends old new)
invariants_said detail b c o out old new before known went =
    let i = invariants_of_text detail b c o out in
    record { line = λ place printed sent_too has. i.line place printed (sent_same old new before o.text printed known went sent_too) has }
