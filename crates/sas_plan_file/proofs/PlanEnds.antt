-- A plan that lacks only its last line end, or only its cost line: after its steps, the text is a cost, or a step or empty.
use Rattle.sas_plan_file.proofs.Imports.{Behavior, ◌≡◌, ℕ, ◌≤◌, List, [], ◌∷◌, ◌++◌, length, length-append, length-decimal-le, map, refl, sym, ap, subst, ◌∙◌, arith, IsTrue, ◌↔◌, append-nil, same_from_push, map-append, decimal, CostKind, PlanParts, without_return, return_length, Kind, take, take_all, length-take, AllByRecursion, IsName, IsEnclosed, AreAllLines, StandsBehind, behind_line, behind_text, at_end, LeadsToEnd, Leads, IsRejected, Rejects, after_ends, Follows, PlanLine, step, cost, plan_line_bytes, plan_format, PlanLineFits, plan_line_ok, PlanKind, cost_front, cost_words, PlanState, going, closed, plan_node, plan_start, PlanRefusal, IsCostLine, filling_cost_line, rest_line, IsStepIfSome, TellsLacks}
use Rattle.sas_core.specs.declared.plan.CostKind.TheVariants as costs
use Rattle.sas_reader.specs.declared.fault.Kind.TheVariants as kinds
use Rattle.sas_plan_file.proofs.PlanGrammar.{plan_grammar}
use Rattle.sas_plan_file.proofs.PlanSteps.{led_on}

-- ---- a cost

-- a line that may not stand isn't one
pub rejected_line : (line : List ℕ) (k : Kind) → IsRejected plan_format PlanLineFits tt plan_line_ok line k → IsCostLine line → ⊥
rejected_line line k r (n, kind, small, is) = r.none (cost n kind) (record { slot = refl; fits = small; good = refl }) is

-- a cost is short
words_length : (kind : CostKind) → length (cost_words kind) ≤ 15
words_length costs.Unit = omega arith
words_length costs.General = omega arith

cost_short : (line : List ℕ) → IsCostLine line → length line ≤ 44
cost_short line (n, kind, small, is) =
    let digits = length-decimal-le 20 n (omega arith) (omega (arith, small)) small in
    let words = words_length kind in
    omega (arith, ap length is, length-append cost_front (decimal n ++ cost_words kind), length-append (decimal n) (cost_words kind), digits, words)

-- so the text of one is kept as a whole
short_kept : (text : List ℕ) → length (take 65 text) ≤ 64 → take 65 text ≡ text
short_kept text h = take_all 65 text (omega (arith, h, length-take 65 text))

pub kept_cost : (text kept : List ℕ) → kept ≡ take 65 text → IsCostLine (without_return kept) → kept ≡ text
kept_cost text kept is its = is ∙ short_kept text (let short = cost_short (without_return kept) its in omega (arith, short, return_length kept, ap length is))

pub cost_kept : (text kept : List ℕ) → kept ≡ take 65 text → IsCostLine (without_return text) → kept ≡ text
cost_kept text kept is its = is ∙ take_all 65 text (let short = cost_short (without_return text) its in omega (arith, short, return_length text))

-- ---- the last line

last_is_cost : (ls : List (List ℕ)) (line : List ℕ) → AreAllLines plan_format (ls ++ line ∷ []) → IsCostLine line
last_is_cost ls line (p, good, is) =
    let steps = map step p.steps in
    (p.cost, p.kind, good.cost, (same_from_push (map plan_line_bytes steps) ls _ line (sym (map-append plan_line_bytes steps (cost p.cost p.kind ∷ [])) ∙ is)).1)

pub lines_of_plan : (ls : List (List ℕ)) (p : PlanParts) → Leads plan_format PlanLineFits plan_node plan_start ls (closed p) → AreAllLines plan_format ls
lines_of_plan ls p h =
    let end = subst (λ (is : List PlanLine). LeadsToEnd plan_format PlanLineFits plan_node plan_start is p) (append-nil h.items) (after_ends plan_format PlanLineFits plan_node plan_start (closed p) p h.items [] h.after refl) in
    let s = plan_grammar.sound h.items p end in
    (p, s.0, ap (map plan_line_bytes) (sym s.1) ∙ h.spells)

pub lines_with_cost : (ls steps : List (List ℕ)) (line : List ℕ) → Leads plan_format PlanLineFits plan_node plan_start ls (going steps) → IsCostLine line → AreAllLines plan_format (ls ++ line ∷ [])
lines_with_cost ls steps line h (n, kind, small, is) = lines_of_plan (ls ++ line ∷ []) _ (led_on ls steps _ (cost n kind) line h (record { slot = refl; fits = small; good = refl }) is refl)

-- ---- the line before it

-- the last of some steps is a name in parentheses
last_step : (names front : List (List ℕ)) (line : List ℕ) → AllByRecursion IsName names → map plan_line_bytes (map step names) ≡ front ++ line ∷ [] → IsEnclosed line
last_step [] [] line good e = absurd cc
last_step [] (first ∷ front) line good e = absurd cc
last_step (name ∷ []) [] line good e = (name, good.0, let same : plan_line_bytes (step name) ≡ line = cc in sym same)
last_step (name ∷ next ∷ names) [] line good e = absurd cc
last_step (name ∷ names) (first ∷ front) line good e = last_step names front line good.1 cc

step_before_cost : (accepted : List (List ℕ)) (text line : List ℕ) → AreAllLines plan_format ((accepted ++ rest_line text) ++ line ∷ []) → IsStepIfSome text
step_before_cost accepted [] line all = tt
step_before_cost accepted (b ∷ rest) line (p, good, is) =
    let steps = map step p.steps in
    last_step p.steps accepted (without_return (b ∷ rest)) good.steps
    (same_from_push (map plan_line_bytes steps) (accepted ++ without_return (b ∷ rest) ∷ []) _ line (sym (map-append plan_line_bytes steps (cost p.cost p.kind ∷ [])) ∙ is)).0

filling_is_cost : IsCostLine filling_cost_line
filling_is_cost = (0, costs.Unit, omega arith, refl)

-- a cost completes the steps, and one more
with_cost : (accepted steps : List (List ℕ)) (text : List ℕ) → Leads plan_format PlanLineFits plan_node plan_start accepted (going steps) → IsStepIfSome text → AreAllLines plan_format ((accepted ++ rest_line text) ++ filling_cost_line ∷ [])
with_cost accepted steps [] h is = subst (λ (ls : List (List ℕ)). AreAllLines plan_format (ls ++ filling_cost_line ∷ [])) (sym (append-nil accepted)) (lines_with_cost accepted steps filling_cost_line h filling_is_cost)
with_cost accepted steps (b ∷ rest) h (name, good, is) =
    let line = without_return (b ∷ rest) in
    lines_with_cost (accepted ++ line ∷ []) (steps ++ name ∷ []) filling_cost_line (led_on accepted steps _ (step name) line h (record { slot = refl; fits = tt; good = good }) (sym is) refl) filling_is_cost

-- ---- a refusal

pub no_end_kind : (line : List ℕ) → PlanKind line kinds.End → ⊥
no_end_kind line k = grind arith

module _ {M : Type 0} (B : Behavior M) (follows : Follows plan_format PlanLineFits plan_node plan_start B) where
  rejected_end : (p : PlanState) (line : List ℕ) → Rejects plan_format PlanLineFits (plan_node p) line kinds.End → ⊥
  rejected_end (going steps) line r = no_end_kind line r.kind
  rejected_end (closed p) line r = r

  -- at an early end only steps were read
  going_at_end : (accepted : List (List ℕ)) (text : List ℕ) (k : Kind) (now : M) → k ≡ kinds.End → StandsBehind B accepted text k now → (steps : List (List ℕ)) × Leads plan_format PlanLineFits plan_node plan_start accepted (going steps)
  going_at_end accepted text k now e (behind_line machine led going_on r stays) =
      let a = follows accepted machine led in
      absurd (rejected_end a.state text (a.refuses text kinds.End going_on (subst (B.rejects machine text) e r)))
  going_at_end accepted text k now e (behind_text led done t) = absurd (let apart : kinds.Trailing ≡ kinds.End = sym t ∙ e in cc)
  going_at_end accepted text k now e (at_end led going_on t) =
      let a = follows accepted now led in
      open_still a.state a.leads (λ v same. going_on (a.is_ended v (ap plan_node same)))
    where
      open_still : (p : PlanState) → Leads plan_format PlanLineFits plan_node plan_start accepted p → ((v : PlanParts) → p ≡ closed v → ⊥) → (steps : List (List ℕ)) × Leads plan_format PlanLineFits plan_node plan_start accepted (going steps)
      open_still (going steps) leads none = (steps, leads)
      open_still (closed p) leads none = absurd (none p refl)

  -- the refusal tells whether the plan lacks only its last line end, and whether only its cost line
  pub tells_lacks : (k : Kind) (now : M) (r : PlanRefusal) → r.fault.kind ≡ k → (accepted : List (List ℕ)) (text : List ℕ) → (IsTrue r.lacks_line_end ↔ (k ≡ kinds.End) × IsCostLine (without_return text)) → (IsTrue r.lacks_cost_line ↔ (k ≡ kinds.End) × IsStepIfSome text) → StandsBehind B accepted text k now → TellsLacks accepted text r
  tells_lacks k now r same accepted text line_end cost_line stands = record {
    line_end = (
      λ t.
          let h = line_end.0 t in
          let s = going_at_end accepted text k now h.0 stands in
          (same ∙ h.0, lines_with_cost accepted s.0 (without_return text) s.1 h.1),
      λ (e, all). line_end.1 (sym same ∙ e, last_is_cost accepted (without_return text) all),
    );
    cost_line = (
      λ t.
          let h = cost_line.0 t in
          let s = going_at_end accepted text k now h.0 stands in
          (same ∙ h.0, filling_cost_line, filling_is_cost, with_cost accepted s.0 text s.1 h.1),
      λ (e, line, is, all). cost_line.1 (sym same ∙ e, step_before_cost accepted text line all),
    );
  }
