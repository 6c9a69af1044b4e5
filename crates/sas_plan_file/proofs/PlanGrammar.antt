-- The grammar of plan files.
use Rattle.sas_plan_file.proofs.Imports.{◌≡◌, ℕ, List, [], ◌∷◌, ◌++◌, map, refl, sym, ap, subst, ◌∙◌, append_assoc, arith, codes, AllByRecursion, decimal, append-nil, CostKind, IsName, PlanParts, IsPlanCost, WellNamed, lines_of, Node, ended, LeadsToEnd, Grammar, IsPlain, one_ended, plain-decimal, plain-name, plain-append, PlanLine, step, cost, plan_line_bytes, plan_layout, plan_texts, plan_format, cost_front, cost_words, PlanLineFits, PlanState, going, closed, plan_node, plan_start}
use Rattle.sas_core.specs.declared.plan.CostKind.TheVariants as costs
use Rattle.sas_plan_file.proofs.PlanLines.{one_plan_line, one_plan_kind, some_plan_kind}

abbrev plan_with : List (List ℕ) → ℕ → CostKind → PlanParts
plan_with steps n k = record { steps = steps; cost = n; kind = k }

-- ---- lines that lead to the end are the lines of a plan

record Found (steps : List (List ℕ)) (is : List PlanLine) (p : PlanParts) : Type 0 where
  more : List (List ℕ)
  names : AllByRecursion IsName more
  small : IsPlanCost p.cost
  steps_are : p.steps ≡ steps ++ more
  whole : is ≡ map step more ++ cost p.cost p.kind ∷ []

cost_found : (steps : List (List ℕ)) (n : ℕ) (k : CostKind) (is : List PlanLine) (p : PlanParts) → IsPlanCost n → LeadsToEnd plan_format PlanLineFits plan_node (closed (plan_with steps n k)) is p → Found steps (cost n k ∷ is) p
cost_found steps n k [] p f e = subst (λ (x : PlanParts). Found steps (cost n k ∷ []) x) (one_ended {T = PlanState} {I = PlanLine} {S = Unit {0}} (plan_with steps n k) p e) (record { more = []; names = tt; small = f; steps_are = sym (append-nil steps); whole = refl })
cost_found steps n k (i ∷ is) p f e = absurd e

found : (is : List PlanLine) (steps : List (List ℕ)) (p : PlanParts) → LeadsToEnd plan_format PlanLineFits plan_node (going steps) is p → Found steps is p
found [] steps p e = absurd cc
found (step b ∷ is) steps p e =
    let f = found is (steps ++ b ∷ []) p e.1 in
    record { more = b ∷ f.more; names = (e.0.good, f.names); small = f.small; steps_are = f.steps_are ∙ append_assoc steps (b ∷ []) f.more; whole = ap (λ (x : List PlanLine). step b ∷ x) f.whole }
found (cost n k ∷ is) steps p e = cost_found steps n k is p e.0.fits e.1

plan_sound : (is : List PlanLine) (p : PlanParts) → LeadsToEnd plan_format PlanLineFits plan_node plan_start is p → WellNamed p × (is ≡ plan_layout p)
plan_sound is p e =
    let f = found is [] p e in
    (record { steps = subst (AllByRecursion IsName) (sym f.steps_are) f.names; cost = f.small }, f.whole ∙ ap (λ (x : List (List ℕ)). map step x ++ cost p.cost p.kind ∷ []) (sym f.steps_are))

-- ---- the lines of a plan lead to the end

leads : (more steps : List (List ℕ)) (n : ℕ) (k : CostKind) → AllByRecursion IsName more → IsPlanCost n → LeadsToEnd plan_format PlanLineFits plan_node (going steps) (map step more ++ cost n k ∷ []) (plan_with (steps ++ more) n k)
leads [] steps n k g f = (record { slot = refl; fits = f; good = refl }, ap (λ (x : List (List ℕ)). let t : Node PlanState PlanParts PlanLine (Unit {0}) = ended (plan_with x n k) in t) (sym (append-nil steps)))
leads (b ∷ more) steps n k g f = (record { slot = refl; fits = tt; good = g.0 }, subst (λ (x : List (List ℕ)). LeadsToEnd plan_format PlanLineFits plan_node (going (steps ++ b ∷ [])) (map step more ++ cost n k ∷ []) (plan_with x n k)) (append_assoc steps (b ∷ []) more) (leads more (steps ++ b ∷ []) n k g.1 f))

-- the cost 0 completes any steps
plan_filled : (p : PlanState) → (more : List PlanLine) × (v : PlanParts) × LeadsToEnd plan_format PlanLineFits plan_node p more v
plan_filled (going steps) = (cost 0 costs.Unit ∷ [], plan_with steps 0 costs.Unit, (record { slot = refl; fits = omega arith; good = refl }, refl))
plan_filled (closed p) = ([], p, refl)

-- ---- no line contains LF or CR

plain-words : (k : CostKind) → IsPlain (cost_words k)
plain-words costs.Unit = refl
plain-words costs.General = refl

pub plain-step : (name : List ℕ) → IsName name → IsPlain (plan_line_bytes (step name))
plain-step name h = plain-append (codes "(") (name ++ codes ")") refl (plain-append name (codes ")") (plain-name name h) refl)

pub plain-cost_line : (n : ℕ) (k : CostKind) → IsPlanCost n → IsPlain (plan_line_bytes (cost n k))
plain-cost_line n k h = plain-append cost_front (decimal n ++ cost_words k) refl (plain-append (decimal n) (cost_words k) (plain-decimal n) (plain-words k))

plain-lines : (steps : List (List ℕ)) (n : ℕ) (k : CostKind) → AllByRecursion IsName steps → IsPlanCost n → AllByRecursion IsPlain (map plan_line_bytes (map step steps ++ cost n k ∷ []))
plain-lines [] n k g f = (plain-cost_line n k f, tt)
plain-lines (b ∷ steps) n k g f = (plain-step b g.0, plain-lines steps n k g.1 f)

plan_plain : (p : PlanParts) → WellNamed p → AllByRecursion IsPlain (lines_of plan_texts p)
plan_plain p g = plain-lines p.steps p.cost p.kind g.steps g.cost

pub plan_grammar : Grammar plan_format PlanLineFits plan_node plan_start
plan_grammar = record {
  sound = plan_sound;
  complete = λ p g. leads p.steps [] p.cost p.kind g.steps g.cost;
  fillable = λ is p a. plan_filled p;
  plain = plan_plain;
  one_item = λ i j s f g e. one_plan_line i j f g e;
  one_kind = λ s line j k a b. one_plan_kind line j k a b;
  some_kind = λ s line h. some_plan_kind line h;
}
