-- Two settled states with the same basic values are equal, layer by layer.
use Rattle.sas_meaning.proofs.Imports.{rules, ◌≡◌, ◌≢◌, ℕ, zero, suc, ◌<◌, ◌⊎◌, true, false, not, List, get_or, refl, sym, ◌∙◌, ap, subst, inl, inr, arith, eqb_tells, same_number_lists, Parts, Operator, SettledIsOne, StepIsOne, Step, IsOnLayer, default_of, IsLayered, differs, IsSettledAt, IsSettled, SameBasic}
use Rattle.sas_meaning.proofs.Facts.{set_or_kept}
use Rattle.sas_meaning.proofs.Layers.{AgreeBelow, agree_sym, closed_agrees, layer_cases}

-- the test shows whether a variable differs from its default
pub differs_decides : (t : Parts) (s : List ℕ) (v : ℕ) → ((get_or s v 0 ≡ default_of t v) × (differs t s v ≡ false)) ⊎ ((get_or s v 0 ≢ default_of t v) × (differs t s v ≡ true))
differs_decides t s v = elim (eqb_tells (get_or s v 0) (default_of t v)) [ inl w ↦ inl (w.1, ap not w.0) | inr w ↦ inr (w.1, ap not w.0) ]

module _ (t : Parts) (layered : IsLayered t) where
  -- where two states agree below a layer on which both are settled, a variable that differs in one
  -- differs in the other
  both_differ : (layer : ℕ) (s s' : List ℕ) → AgreeBelow t layer s s' → IsSettledAt t layer s → IsSettledAt t layer s'
      → (v : ℕ) → IsOnLayer t layer v → differs t s v ≡ true → differs t s' v ≡ true
  both_differ layer s s' agree a b v on d =
      a.least (differs t s') (closed_agrees t layer s' s (differs t s') layered (agree_sym t layer s s' agree) b.closed) v on d

  same_at : (layer : ℕ) (s s' : List ℕ) → AgreeBelow t layer s s' → IsSettledAt t layer s → IsSettledAt t layer s'
      → (v : ℕ) → IsOnLayer t layer v → get_or s v 0 ≡ get_or s' v 0
  same_at layer s s' agree a b v on = search (rules, arith, differs_decides, both_differ, agree_sym)

  agree_below : (s s' : List ℕ) → IsSettled t s → IsSettled t s' → SameBasic t s s' → (n : ℕ) → AgreeBelow t n s s'
  agree_below s s' a b basic zero = record { basic = basic; derived = λ v m lt on. absurd (omega arith) }
  agree_below s s' a b basic (suc n) = record { basic = basic; derived = λ v m lt on. step v m lt on (agree_below s s' a b basic n) }
    where
      step : (v m : ℕ) → m < suc n → IsOnLayer t m v → AgreeBelow t n s s' → get_or s v 0 ≡ get_or s' v 0
      step v m lt on agree = elim (eqb_tells m n) [
        | inl w ↦ same_at n s s' agree (a n) (b n) v (subst (λ k. IsOnLayer t k v) w.1 on)
        | inr w ↦ (let ne : m ≢ n = w.1 in agree.derived v m (omega arith) on)
      ]

pub settled_is_one : SettledIsOne
settled_is_one t s p q layered a b = same_number_lists p q (a.state.one_each ∙ sym b.state.one_each) (λ v lt. elim (layer_cases t v) [
  | inl e ↦ sym (a.basic v e) ∙ b.basic v e
  | inr w ↦ (agree_below t layered p q a.settled b.settled (λ v e. sym (a.basic v e) ∙ b.basic v e) (suc w.0)).derived v w.0 (omega arith) w.1
])

-- what an operator does to a basic variable is one value
step_on_basic : (t : Parts) (s : List ℕ) (o : Operator) (a b : List ℕ) → Step t s o a → Step t s o b → SameBasic t a b
step_on_basic t s o a b p q v basic = grind (arith, set_or_kept, get_or)

pub step_is_one : StepIsOne
step_is_one t s o a b layered p q =
    settled_is_one t a a b layered
    (record { state = p.state; basic = λ v e. refl; settled = p.settled })
    (record { state = q.state; basic = step_on_basic t s o a b p q; settled = q.settled })
