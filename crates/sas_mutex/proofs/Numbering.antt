-- Different facts have different numbers.
use Rattle.sas_mutex.proofs.Imports.{◌≡◌, ℕ, zero, suc, ◌+◌, ◌*◌, ◌^◌, ◌<◌, ◌≤◌, List, [], ◌∷◌, length, ap, subst, inl, inr, arith, AllByRecursion, cases_lt, Fact, Parts, Variable, FactExists, range_of, WellRanged, VariableFits, fact_within, common_steps, facts_below, fact_number, AreFirstNumbers, fact_same}

-- a variable has fewer than 2^31 values
range_low : (variables : List Variable) (var : ℕ) → AllByRecursion VariableFits variables → range_of variables var < 2 ^ 31
range_low [] var fits = omega arith
range_low (v ∷ vs) zero fits = fits.0.values.count
range_low (v ∷ vs) (suc var) fits = range_low vs var fits.1

-- a variable's facts come before those of the next one
pub facts_below_more : (p : Parts) (var : ℕ) → facts_below p (var + 1) ≡ facts_below p var + range_of p.variables var
facts_below_more p var = let one : var + 1 ≡ suc var = omega arith in ap (facts_below p) one

-- the first facts' numbers are low
low_by : (p : Parts) (var : ℕ) → WellRanged p → facts_below p var ≤ var * 2 ^ 31
low_by p zero ranged = omega arith
low_by p (suc var) ranged =
    let ih = low_by p var ranged in
    let its = range_low p.variables var ranged.variables.each in
    omega arith

pub below_low : (p : Parts) (var : ℕ) → WellRanged p → var ≤ length p.variables → facts_below p var ≤ 2 ^ 62
below_low p var ranged le = grind (arith, common_steps, low_by)

-- later variables' facts have higher numbers
below_up : (p : Parts) (low var : ℕ) → low < var → facts_below p low + range_of p.variables low ≤ facts_below p var
below_up p low zero lt = absurd (omega arith)
below_up p low (suc var) lt = elim (cases_lt low var) [
  | inl less ↦ (let ih = below_up p low var less in omega arith)
  | inr le ↦ (let e : low ≡ var = omega arith in subst (λ v. facts_below p low + range_of p.variables low ≤ facts_below p v + range_of p.variables v) e (omega arith))
]

-- the number of a fact of the task
number_is : (p : Parts) (firsts : List ℕ) (fact : Fact) → AreFirstNumbers p firsts → FactExists p.variables fact → fact_number firsts fact ≡ facts_below p fact.var + fact.value
number_is p firsts fact are exists = ap (λ first. first + fact.value) (are.are fact.var (fact_within p fact.var fact.value exists))

-- it is below how many there are
pub number_low : (p : Parts) (firsts : List ℕ) (fact : Fact) → AreFirstNumbers p firsts → FactExists p.variables fact
    → fact_number firsts fact < facts_below p (length p.variables)
number_low p firsts fact are exists =
    let is = number_is p firsts fact are exists in
    let within = fact_within p fact.var fact.value exists in
    let up = below_up p fact.var (length p.variables) within in
    omega arith

-- facts of the task with one number are one
pub one_number : (p : Parts) (firsts : List ℕ) (f g : Fact) → AreFirstNumbers p firsts → FactExists p.variables f → FactExists p.variables g
    → fact_number firsts f ≡ fact_number firsts g → f ≡ g
one_number p firsts f g are here there same =
    let its = number_is p firsts f are here in
    let other = number_is p firsts g are there in
    elim (cases_lt f.var g.var) [
      | inl less ↦ (let up = below_up p f.var g.var less in absurd (omega arith))
      | inr le ↦ elim (cases_lt g.var f.var) [
        | inl less ↦ (let up = below_up p g.var f.var less in absurd (omega arith))
        | inr ge ↦ (let on : f.var ≡ g.var = omega arith in
            let below : facts_below p f.var ≡ facts_below p g.var = ap (facts_below p) on in
            fact_same f g on (omega arith))
      ]
    ]
