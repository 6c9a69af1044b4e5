-- The first of the valid plans that cost least: there is one where a plan is valid, and one only.
use Rattle.sas_requests.proofs.Imports.{IfSome, ◌≡◌, ℕ, ◌<◌, ◌≤◌, Bool, true, false, List, [], ◌∷◌, ◌++◌, length, get_or, refl, sym, ap, ◌∙◌, arith, inl, inr, Option, Some, None, if◌then◌else◌, nat_lt, ltb-true, ltb-false, cases_lt, none-some, length-append, append_assoc, get_or-append, get_or-append_seam, All, All-nil, All-cons, All-append, All-push, All-weaker, BestPlan, IsBest, HasBest, better}

-- the plan isn't valid; or if it is, it costs more, or as much at least
abbrev HasNoCost : Option ℕ → Type 0
HasNoCost j = j ≡ None

abbrev CostsMore : ℕ → Option ℕ → Type 0
CostsMore cost j = (c : ℕ) → j ≡ Some c → cost < c

abbrev CostsEnough : ℕ → Option ℕ → Type 0
CostsEnough cost j = (c : ℕ) → j ≡ Some c → cost ≤ c

some_cost : (a b : ℕ) (cost : Option ℕ) → cost ≡ Some a → cost ≡ Some b → a ≡ b
some_cost a b cost e f = let same : Some a ≡ Some b = sym e ∙ f in cc

-- ---- one only

module _ (all : List (Option ℕ)) (best : BestPlan) (is : IsBest all best) where
  abbrev its : Option ℕ
  its = Some best.cost

  within : best.number < length all
  within = let long = ap length is.whole ∙ length-append is.front (its ∷ is.behind) in omega (arith, long, is.number)

  its_cost : get_or all best.number None ≡ its
  its_cost = rw (is.whole, ← is.number) (get_or-append_seam is.front its is.behind None)

  more_before : (k : ℕ) → k < best.number → CostsMore best.cost (get_or all k None)
  more_before k less = rw (is.whole, get_or-append is.front (its ∷ is.behind) None k (omega (arith, less, is.number))) (is.dearer k None (omega (arith, less, is.number)))

  none_less : All (CostsEnough best.cost) all
  none_less = rw is.whole (All-append (CostsEnough best.cost) is.front (its ∷ is.behind)
      (All-weaker (CostsMore best.cost) (CostsEnough best.cost) (λ j more. λ c e. omega (arith, more c e)) is.front is.dearer)
      (All-cons (CostsEnough best.cost) its is.behind (λ c e. omega (arith, some_cost best.cost c its refl e)) is.no_cheaper))

no_later : (all : List (Option ℕ)) (a b : BestPlan) → IsBest all a → IsBest all b → b.number ≤ a.number
no_later all a b x y = elim (cases_lt a.number b.number) [
  | inl less ↦
      (let more = more_before all b y a.number less a.cost (its_cost all a x) in
      let enough = none_less all a x b.number None (within all b y) b.cost (its_cost all b y) in
      omega (arith, more, enough))
  | inr from ↦ from
]

no_best : (all : List (Option ℕ)) (best : BestPlan) → All HasNoCost all → IsBest all best → ⊥
no_best all best none is = none-some best.cost (sym (none best.number None (within all best is)) ∙ its_cost all best is)

pub one_best : (all : List (Option ℕ)) (x y : Option BestPlan) → HasBest all x → HasBest all y → x ≡ y
one_best all None None x y = refl
one_best all None (Some b) x y = absurd (no_best all b x y)
one_best all (Some a) None x y = absurd (no_best all a y x)
one_best all (Some a) (Some b) x y =
    let number : a.number ≡ b.number = omega (arith, no_later all a b x y, no_later all b a y x) in
    let cost = some_cost a.cost b.cost (get_or all a.number None) (its_cost all a x) (rw number (its_cost all b y)) in
    ap (λ (c : ℕ). let it : Option BestPlan = Some (record { cost = c; number = a.number }) in it) cost
    ∙ ap (λ (n : ℕ). let it : Option BestPlan = Some (record { cost = b.cost; number = n }) in it) number

-- its place is that of a plan
pub best_place : (labels : List (List ℕ)) (all : List (Option ℕ)) (best : Option BestPlan) → length all ≡ length labels → HasBest all best → IfSome best (λ (b : BestPlan). b.number < length labels)
best_place labels all h1 many h = grind (arith, within)

-- ---- one plan more

-- a plan that isn't better leaves the best as it is
stays : (all : List (Option ℕ)) (j : Option ℕ) (best : BestPlan) → CostsEnough best.cost j → IsBest all best → IsBest (all ++ j ∷ []) best
stays all j best enough is = record {
  front = is.front;
  behind = is.behind ++ j ∷ [];
  whole = ap (λ (x : List (Option ℕ)). x ++ j ∷ []) is.whole ∙ append_assoc is.front (Some best.cost ∷ is.behind) (j ∷ []);
  number = is.number;
  dearer = is.dearer;
  no_cheaper = All-push (CostsEnough best.cost) is.behind j is.no_cheaper enough;
}

-- and one that is better is the best
is_last : (all : List (Option ℕ)) (cost : ℕ) → All (CostsMore cost) all → IsBest (all ++ Some cost ∷ []) (record { cost = cost; number = length all })
is_last all cost more = record { front = all; behind = []; whole = refl; number = refl; dearer = more; no_cheaper = All-nil (CostsEnough cost) }

-- one that isn't valid, and one that is
pub best_stays : (all : List (Option ℕ)) (best : Option BestPlan) → HasBest all best → HasBest (all ++ None ∷ []) best
best_stays all None h = All-push HasNoCost all None h refl
best_stays all (Some best) h = stays all None best (λ c e. absurd (none-some c e)) h

pub best_next : (all : List (Option ℕ)) (cost : ℕ) (best : Option BestPlan) → HasBest all best → HasBest (all ++ Some cost ∷ []) (better (length all) cost best)
best_next all cost None h = is_last all cost (All-weaker HasNoCost (CostsMore cost) (λ i none. λ c is. absurd (none-some c (sym none ∙ is))) all h)
best_next all cost (Some best) h = by (nat_lt cost best.cost) refl
  where
    by : (lower : Bool) → nat_lt cost best.cost ≡ lower → HasBest (all ++ Some cost ∷ []) (if lower then Some (record { cost = cost; number = length all }) else Some best)
    by true lower =
        let less = ltb-true cost best.cost lower in
        is_last all cost (All-weaker (CostsEnough best.cost) (CostsMore cost) (λ i enough. λ c is. omega (arith, enough c is, less)) all (none_less all best h))
    by false lower =
        let more = ltb-false cost best.cost lower in
        stays all (Some cost) best (λ c is. omega (arith, some_cost cost c (Some cost) refl is, more)) h
