-- The index of the first fact that doesn't hold, in a list of several parts.
use Rattle.std.proofs.lemmas.Grind.{common_steps}
use Rattle.sas_run.proofs.Imports.{◌≡◌, ◌≢◌, ℕ, ◌+◌, ◌-◌, List, ◌∷◌, ◌++◌, length, sym, ◌∙◌, ap, subst, arith, cases_lt, get_or_append_left, get_or-append-add, length-append, Fact, Holds, AllHold, IsFirstMissedFact}

-- the first such fact after facts that hold is the first in the whole list
pub missed_behind : (value : ℕ → ℕ) (xs ys : List Fact) (fact : Fact) → AllHold value xs → IsFirstMissedFact value ys fact → IsFirstMissedFact value (xs ++ ys) fact
missed_behind value xs ys fact hold (index, first, is) = (
  length xs + index,
  record {
    exists = let l = length-append xs ys in let e = first.exists in omega arith;
    missed = λ d h. first.missed d (subst (λ f. Holds value f) (get_or-append-add xs ys index d) h);
    before = λ k d lt. grind (arith, cases_lt k (length xs), get_or_append_left xs ys d k, get_or-append-add xs ys (k - length xs) d, hold k d, first.before (k - length xs) d);
  },
  λ d. get_or-append-add xs ys index d ∙ is d,
)

-- the first of a list
pub missed_head : (value : ℕ → ℕ) (fact : Fact) (facts : List Fact) → (value fact.var ≢ fact.value) → IsFirstMissedFact value (fact ∷ facts) fact
missed_head value fact facts ne = grind (arith, common_steps)

-- the first fact that doesn't hold, if all facts before it hold
pub missed_next : (value : ℕ → ℕ) (all before left after : List Fact) (fact : Fact) → all ≡ before ++ left → AllHold value before → left ≡ fact ∷ after
    → (value fact.var ≢ fact.value) → IsFirstMissedFact value all fact
missed_next value all before left after fact is hold next ne =
    subst (λ (fs : List Fact). IsFirstMissedFact value fs fact) (sym (is ∙ ap (λ (fs : List Fact). before ++ fs) next))
    (missed_behind value before (fact ∷ after) fact hold (missed_head value fact after ne))
