-- Collecting the rules that can fire, without late ones.
use Rattle.sas_axioms.proofs.Imports.{◌≡◌, ◌⊎◌, ℕ, ◌+◌, ◌<◌, List, [], ◌∷◌, ◌++◌, length, sym, subst, inl, inr, arith, All, Contains, cases_eq, All-push, Contains-append_left, Contains-push, All-permutation, Contains-permutation, IsPermutation, IsNonDecreasingBy, Parts, LayerRule, IsRuleOn, IsLate, AreFirstRules}

-- those of the first `k` rules that can fire, without late ones
pub record FirstUpTo (p : Parts) (k : ℕ) (rules : List LayerRule) : Type 0 where
  pub only : All (λ (r : LayerRule). IsRuleOn p r.layer r.rule) rules
  pub each : (layer rule : ℕ) → rule < k → IsRuleOn p layer rule → Contains rules (record { layer = layer; rule = rule }) ⊎ IsLate p layer rule

-- a rule is on one layer only
pub one_layer : (p : Parts) (m layer rule : ℕ) → IsRuleOn p m rule → IsRuleOn p layer rule → m ≡ layer
one_layer p m layer rule a b = let e = a.on in let f = b.on in cc

pub first_more : (p : Parts) (k layer : ℕ) (rules : List LayerRule) → IsRuleOn p layer k → FirstUpTo p k rules
    → FirstUpTo p (k + 1) (rules ++ record { layer = layer; rule = k } ∷ [])
first_more p k layer rules is up = record {
  only = All-push (λ (r : LayerRule). IsRuleOn p r.layer r.rule) rules (record { layer = layer; rule = k }) up.only is;
  each = λ m rule lt on. elim (cases_eq rule k) [
    | inr ne ↦ elim (up.each m rule (omega arith) on) [
      | inl there ↦ inl (Contains-append_left rules (record { layer = layer; rule = k } ∷ []) (record { layer = m; rule = rule }) there)
      | inr late ↦ inr late
    ]
    | inl e ↦ (let on' : IsRuleOn p m k = subst (λ i. IsRuleOn p m i) e on in
        let f : m ≡ layer = one_layer p m layer k on' is in
        let same : record { layer = layer; rule = k } ≡ (let x : LayerRule = record { layer = m; rule = rule } in x) = cc in
        inl (subst (λ (r : LayerRule). Contains (rules ++ record { layer = layer; rule = k } ∷ []) r) same (Contains-push rules (record { layer = layer; rule = k }))))
  ];
}

-- one rule that can't fire or is late
pub first_skip : (p : Parts) (k : ℕ) (rules : List LayerRule) → ((layer : ℕ) → IsRuleOn p layer k → IsLate p layer k) → FirstUpTo p k rules → FirstUpTo p (k + 1) rules
first_skip p k rules late up = record {
  only = up.only;
  each = λ m rule lt on. elim (cases_eq rule k) [
    | inr ne ↦ up.each m rule (omega arith) on
    | inl e ↦ inr (subst (λ i. IsLate p m i) (sym e) (late m (subst (λ i. IsRuleOn p m i) e on)))
  ];
}

-- all of them, in ascending order of their layers
pub first_all : (p : Parts) (rules sorted : List LayerRule) → FirstUpTo p (length p.rules) rules → IsPermutation rules sorted → IsNonDecreasingBy (λ (r : LayerRule). r.layer) sorted → AreFirstRules p sorted
first_all p rules sorted up moved ascending = record {
  only = All-permutation (λ (r : LayerRule). IsRuleOn p r.layer r.rule) rules sorted moved up.only;
  each = λ layer rule is. elim (up.each layer rule is.exists is) [
    | inl there ↦ inl (Contains-permutation rules sorted (record { layer = layer; rule = rule }) moved there)
    | inr late ↦ inr late
  ];
  ascending = ascending;
}
