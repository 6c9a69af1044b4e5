-- Variables set by sources are forced, and a rule that fires is a source.
use Rattle.sas_axioms.proofs.Imports.{◌≡◌, ◌≢◌, ℕ, zero, suc, ◌+◌, ◌<◌, ◌==◌, Bool, true, cond, List, [], ◌∷◌, length, get_or, set, refl, sym, ◌∙◌, ap, subst, inl, inr, arith, cases_eq, eq-eqb, eqb_tells, get_or_default, get_or-set_same, get_or-set_other, Fact, Effect, Parts, rule_at, IsOnLayer, default_of, IsLayered, new_value_of, value_with, IsClosed, differs, IsSettledAt, OnlyForced, IsRuleOn, IsLate, AllHold, IsHolding, IsSourceOf, HaveSources, AreGiven, HasFired, AtDefault, SameOff, differs_true, differs_same, differs_not, layer_decides, given_on, looks_down, new_value_is, settled_when_fired, differs_decides, no_effect}
use Rattle.sas_meaning.proofs.Layers.{given_off as value_off}

-- a condition on the layer that holds is on a variable that differs from its default
pub condition_differs : (p : Parts) (layer rule : ℕ) (s : List ℕ) → IsLayered p → IsRuleOn p layer rule → (j : ℕ) (e : Fact) → j < length (rule_at p rule).conditions
    → IsOnLayer p layer (get_or (rule_at p rule).conditions j e).var → get_or s (get_or (rule_at p rule).conditions j e).var 0 ≡ (get_or (rule_at p rule).conditions j e).value
    → differs p s (get_or (rule_at p rule).conditions j e).var ≡ true
condition_differs p layer rule s layered is j e lt on hold = grind (arith, differs_true, get_or, rule_at, no_effect)

-- what sources give is in every closed set
module _ (p : Parts) (layer : ℕ) (s sources : List ℕ) (layered : IsLayered p) (given : AreGiven p layer s sources) where
  module _ (set : ℕ → Bool) (closed : IsClosed p layer s set) where
    -- a condition of a source holds with the set, where what has a lower rank is a member
    condition_holds : (v : ℕ) (on : IsOnLayer p layer v) (d : differs p s v ≡ true)
        → ((u : ℕ) → given.have.rank u < given.have.rank v → IsOnLayer p layer u → differs p s u ≡ true → set u ≡ true)
        → (j : ℕ) (e : Fact) → j < length (rule_at p (get_or sources v 0)).conditions
        → value_with p layer s set (get_or (rule_at p (get_or sources v 0)).conditions j e).var ≡ (get_or (rule_at p (get_or sources v 0)).conditions j e).value
    condition_holds v on d lower j e within = elim (layer_decides p layer (get_or (rule_at p (get_or sources v 0)).conditions j e).var) [
      | inr w ↦ value_off p layer s set (get_or (rule_at p (get_or sources v 0)).conditions j e).var w.0 ∙ given.hold v on d j e within
      | inl w ↦ (let c : Fact = get_or (rule_at p (get_or sources v 0)).conditions j e in
          let source = given.have.source v on d in
          let hold = given.hold v on d j e within in
          let d' = condition_differs p layer (get_or sources v 0) s layered source.is j e within w.0 hold in
          let member = lower c.var (source.lower j e within w.0) w.0 d' in
          given_on p layer s set c.var w.0 ∙ (ap (λ b. cond b (new_value_of p c.var) (default_of p c.var)) member ∙ (sym (given.have.new c.var w.0 d') ∙ hold)))
    ]

    by_rank : (n v : ℕ) → given.have.rank v < n → IsOnLayer p layer v → differs p s v ≡ true → set v ≡ true
    by_rank zero v lt on d = absurd (omega arith)
    by_rank (suc n) v lt on d =
        let source = given.have.source v on d in
        subst (λ u. set u ≡ true) source.sets (closed (get_or sources v 0) no_effect source.is.exists source.is.on source.is.can
        (condition_holds v on d (λ u less on_u d_u. by_rank n u (omega arith) on_u d_u)))

  pub forced_when_given : OnlyForced p layer s
  forced_when_given = record {
    new = given.have.new;
    least = λ set closed v on d. by_rank set closed (suc (given.have.rank v)) v (omega arith) on d;
  }

-- where all has its default there is nothing to give
pub given_at_default : (p : Parts) (layer : ℕ) (s sources : List ℕ) → AtDefault p layer s → AreGiven p layer s sources
given_at_default p layer s sources at = record {
  have = record {
    rank = λ _. 0;
    source = λ v on d. absurd (differs_not p s v d (at v on));
    new = λ v on d. absurd (differs_not p s v d (at v on));
  };
  hold = λ v on d. absurd (differs_not p s v d (at v on));
}

-- where variables fall, the others keep their sources
pub sources_fall : (p : Parts) (m : ℕ) (s s' sources : List ℕ) → ((v : ℕ) → differs p s' v ≡ true → get_or s' v 0 ≡ get_or s v 0) → HaveSources p m s sources → HaveSources p m s' sources
sources_fall p m s s' sources kept have = grind (arith, differs_same)

-- where a layer's values and sources are the same
pub sources_same : (p : Parts) (m : ℕ) (s s' sources sources' : List ℕ) → ((v : ℕ) → IsOnLayer p m v → get_or s' v 0 ≡ get_or s v 0) → ((v : ℕ) → IsOnLayer p m v → get_or sources' v 0 ≡ get_or sources v 0)
    → HaveSources p m s sources → HaveSources p m s' sources'
sources_same p m s s' sources sources' kept same have = grind (arith, differs_same)

-- a layer that was settled before is given as before, where what its rules ask about has kept its
-- value
pub given_off : (p : Parts) (layer m : ℕ) (s s' sources sources' : List ℕ) → IsLayered p → SameOff p layer s s' → ((v : ℕ) → (IsOnLayer p layer v → ⊥) → get_or sources' v 0 ≡ get_or sources v 0)
    → m < layer → AreGiven p m s sources → AreGiven p m s' sources'
given_off p layer m s s' sources sources' layered off same lt given = grind (arith, sources_same, differs_same, differs, true, get_or, rule_at, looks_down, no_effect)

-- ---- a rule that fires

-- a rank above those of all conditions
abbrev above : (ℕ → ℕ) → List Fact → ℕ
above rank [] = 0
above rank (c ∷ cs) = suc (rank c.var) + above rank cs

below_above : (rank : ℕ → ℕ) (cs : List Fact) (j : ℕ) (e : Fact) → j < length cs → rank (get_or cs j e).var < above rank cs
below_above rank [] j e lt = absurd (omega arith)
below_above rank (c ∷ cs) zero e lt = omega arith
below_above rank (c ∷ cs) (suc j) e lt = let ih = below_above rank cs j e (omega arith) in omega arith

module _ (p : Parts) (layer rule : ℕ) (s sources : List ℕ) (layered : IsLayered p) (is : IsRuleOn p layer rule) (given : AreGiven p layer s sources)
    (holding : IsHolding p s rule) (default : get_or s (rule_at p rule).var 0 ≡ default_of p (rule_at p rule).var)
    (within : (rule_at p rule).var < length s) (place : (rule_at p rule).var < length sources) where
  abbrev its : ℕ
  its = (rule_at p rule).var

  abbrev after : List ℕ
  after = set s (rule_at p rule).var (rule_at p rule).new

  abbrev rank_after : ℕ → ℕ
  rank_after v = cond (v == (rule_at p rule).var) (above given.have.rank (rule_at p rule).conditions) (given.have.rank v)

  -- no rule that holds asks about the variable on its layer, which had its default
  not_asked : (k : ℕ) → IsRuleOn p layer k → IsHolding p s k → (j : ℕ) (e : Fact) → j < length (rule_at p k).conditions → (get_or (rule_at p k).conditions j e).var ≢ (rule_at p rule).var
  not_asked k is_k hold j e lt same = grind (arith, differs_not, get_or, rule_at, condition_differs, default_of)

  still_holds : (k : ℕ) → IsRuleOn p layer k → IsHolding p s k → IsHolding p (set s (rule_at p rule).var (rule_at p rule).new) k
  still_holds k is_k hold j e lt = get_or-set_other s its (get_or (rule_at p k).conditions j e).var (rule_at p rule).new 0 (not_asked k is_k hold j e lt) ∙ hold j e lt

  rank_other : (v : ℕ) → v ≢ (rule_at p rule).var → cond (v == (rule_at p rule).var) (above given.have.rank (rule_at p rule).conditions) (given.have.rank v) ≡ given.have.rank v
  rank_other v ne = elim (eqb_tells v (rule_at p rule).var) [ inl w ↦ absurd (ne w.1) | inr w ↦ rw w.0 refl ]

  rank_its : cond ((rule_at p rule).var == (rule_at p rule).var) (above given.have.rank (rule_at p rule).conditions) (given.have.rank (rule_at p rule).var) ≡ above given.have.rank (rule_at p rule).conditions
  rank_its = rw (eq-eqb (rule_at p rule).var (rule_at p rule).var refl) refl

  differed : (v : ℕ) → v ≢ (rule_at p rule).var → differs p (set s (rule_at p rule).var (rule_at p rule).new) v ≡ true → differs p s v ≡ true
  differed v ne d = differs_same p after s v (get_or-set_other s its v (rule_at p rule).new 0 ne) d

  new_source : IsSourceOf p layer rank_after (rule_at p rule).var rule
  new_source = grind (arith, rank_other, get_or, rule_at, not_asked, rank_its, below_above)

  old_source : (v : ℕ) → v ≢ (rule_at p rule).var → IsOnLayer p layer v → differs p s v ≡ true → IsSourceOf p layer rank_after v (get_or sources v 0)
  old_source v ne on d = grind (arith, rank_other, get_or, rule_at, not_asked)

  source_its : get_or (set sources (rule_at p rule).var rule) (rule_at p rule).var 0 ≡ rule
  source_its = get_or-set_same sources (rule_at p rule).var rule 0 place

  pub given_when_fired : AreGiven p layer (set s (rule_at p rule).var (rule_at p rule).new) (set sources (rule_at p rule).var rule)
  given_when_fired = record {
    have = record {
      rank = rank_after;
      source = λ v on d. elim (cases_eq v (rule_at p rule).var) [
        | inl e ↦ rw e (rw source_its new_source)
        | inr ne ↦ rw (get_or-set_other sources its v rule 0 ne) (old_source v ne on (differed v ne d))
      ];
      new = λ v on d. elim (cases_eq v (rule_at p rule).var) [
        | inl e ↦ rw e (get_or-set_same s (rule_at p rule).var (rule_at p rule).new 0 within ∙ sym (new_value_is p rule no_effect layered is.exists is.can))
        | inr ne ↦ get_or-set_other s its v (rule_at p rule).new 0 ne ∙ given.have.new v on (differed v ne d)
      ];
    };
    hold = λ v on d. elim (cases_eq v (rule_at p rule).var) [
      | inl e ↦ rw e (rw source_its (still_holds rule is holding))
      | inr ne ↦ rw (get_or-set_other sources its v rule 0 ne) (still_holds (get_or sources v 0) (given.have.source v on (differed v ne d)).is (given.hold v on (differed v ne d)))
    ];
  }

-- ---- settled layers

-- on a settled layer, a variable's value with those that differ is its value
settled_value : (p : Parts) (layer : ℕ) (s : List ℕ) → IsSettledAt p layer s → (v : ℕ) → value_with p layer s (differs p s) v ≡ get_or s v 0
settled_value p layer s settled v = grind (arith, layer_decides, differs, given_on, differs_decides, cond, new_value_of, default_of)

-- on a settled layer, the variable of a rule that holds differs from its default
pub differs_where_holding : (p : Parts) (layer rule : ℕ) (s : List ℕ) → IsSettledAt p layer s → IsRuleOn p layer rule → IsHolding p s rule → differs p s (rule_at p rule).var ≡ true
differs_where_holding p layer rule s settled on hold = grind (arith, no_effect, settled_value, get_or, rule_at)

-- a layer on which only forced variables differ is settled, where each rule that holds has set its
-- variable
pub settled_when_set : (p : Parts) (layer : ℕ) (s : List ℕ) → OnlyForced p layer s
    → ((k : ℕ) → IsRuleOn p layer k → IsHolding p s k → get_or s (rule_at p k).var 0 ≡ (rule_at p k).new) → IsSettledAt p layer s
settled_when_set p layer s forced done = settled_when_fired p layer s forced (λ k d lt.
    subst (λ (r : Effect). HasFired p layer s r) (get_or_default p.rules k no_effect d lt) (λ on can hold. done k (record { exists = lt; on = on; can = can }) hold))

-- a layer that sources give is settled, where the variable of each rule that holds differs from its
-- default
pub settled_when_given : (p : Parts) (layer : ℕ) (s sources : List ℕ) → IsLayered p → AreGiven p layer s sources
    → ((rule : ℕ) → IsRuleOn p layer rule → IsHolding p s rule → differs p s (rule_at p rule).var ≡ true) → IsSettledAt p layer s
settled_when_given p layer s sources layered given fired = grind (arith, settled_when_set, forced_when_given, rule_at, new_value_is, no_effect)

-- a late rule doesn't hold while the variables of its layer have their defaults
pub late_waits : (p : Parts) (layer k : ℕ) (s : List ℕ) → IsLayered p → IsRuleOn p layer k → IsLate p layer k → AtDefault p layer s → AllHold (λ v. get_or s v 0) (rule_at p k).conditions → ⊥
late_waits p layer k s layered is late at hold = grind (arith, get_or, rule_at, differs_not, condition_differs)
