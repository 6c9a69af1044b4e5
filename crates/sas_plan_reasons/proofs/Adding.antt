-- Reports with more lines.
use Rattle.std.proofs.lemmas.Grind.{common_steps}
use Rattle.sas_plan_reasons.proofs.Imports.{◌≡◌, ◌≢◌, ℕ, suc, ◌<◌, ◌⊎◌, true, false, not, List, [], ◌∷◌, ◌++◌, length, get_or, set, map, Option, None, Some, Vec, Global, refl, sym, ◌∙◌, ap, subst, inl, inr, arith, flat_map, find, ◌↔◌, IsTrue, AllByRecursion, AllPairs, Contains, option_map_or, cases_eq, cases_Bool, false≢true, get_or-set_same, get_or-set_other, length-set, flat_map-cons, Origins, Explanation, is_explained, AreOrigins, ExplainsDerivation, lines_of_keepers, is_kept, ExplainsGivers, IsExplanation, Contains-append_left, Contains-append_right, Contains-append_cases, Fact, Parts, rule_at, of_variable, places, can_give, contains_head, contains_tail, contains_cases, contains_none, places_ascend, Line, RuleDerives, RuleRequires, rule_numbers, is_rule_line, with_lines, StandsBefore, IsDerivation, fails, failing_lines}
use Rattle.sas_plan_reasons.proofs.Derivation.{no_circle}
use Rattle.sas_plan_reasons.proofs.Once.{IsPlain, Apart, rule_of, other_line, contains_map, map_contains, derived_lines, none_new, all_new}
use Rattle.sas_plan_reasons.proofs.ExplainedRules.{in_filter, of_filter}

-- a plain line isn't one of a rule
no_rule_line : (more : List Line) (z : Line) → AllByRecursion IsPlain more → is_rule_line z ≡ true → Contains more z → ⊥
no_rule_line [] z plain rule h = contains_none z h
no_rule_line (l ∷ more) z plain rule h = elim (contains_cases l more z h) [
  | inl e ↦ false≢true (sym plain.0 ∙ (ap is_rule_line e ∙ rule))
  | inr there ↦ no_rule_line more z plain.1 rule there
]

-- a line that says what a rule derives isn't one that says what a rule requires
derives_requires_none : (rule other : ℕ) (c : Fact) → RuleDerives rule ≡ RuleRequires other c → ⊥
derives_requires_none rule other c e = absurd (let k : 1 ≡ 3 = ap (λ (l : Line). length (rule_numbers l)) e in omega (arith, k))

module _ (p : Parts) (s : List ℕ) where
  -- what has to be known of more lines
  record Grows (old new : Explanation) (more : List Line) : Type 0 where
    lines : new.lines ≡ old.lines ++ more
    origins : AreOrigins p s new.origins
    derived : (rule : ℕ) → IsTrue (is_explained new.origins rule) ↔ (IsTrue (is_explained old.origins rule) ⊎ Contains more (RuleDerives rule))
    rules : new.rules ≡ old.rules
    one_each : length new.kept ≡ length old.kept
    kept : (var : ℕ) → is_kept new var ≡ true → (is_kept old var ≡ true) ⊎ ((z : Line) → Contains (lines_of_keepers p s var) z → Contains more z)
    not_kept : (rule : ℕ) (c : Fact) → is_kept new (rule_at p rule).var ≡ false
        → (is_kept old (rule_at p rule).var ≡ false) × (Contains more (RuleRequires rule c) → ⊥)

  grown : (old new : Explanation) (more : List Line) → Grows old new more → IsExplanation p s old → IsExplanation p s new
  grown old new more g is = record {
    origins = g.origins;
    derived = λ rule. (
      (λ t. elim ((g.derived rule).0 t) [
        | inl before ↦ before_too (RuleDerives rule) ((is.derived rule).0 before)
        | inr now ↦ now_too (RuleDerives rule) now
      ]),
      (λ h. elim (either (RuleDerives rule) h) [
        | inl before ↦ (g.derived rule).1 (inl ((is.derived rule).1 before))
        | inr now ↦ (g.derived rule).1 (inr now)
      ]),
    );
    rules = subst (Rattle.sas_axioms.specs.LayerRules.AreRulesOf p) (sym g.rules) is.rules;
    one_each = g.one_each ∙ is.one_each;
    kept = λ var so z h. elim (g.kept var so) [
      | inl before ↦ before_too z (is.kept var before z h)
      | inr now ↦ now_too z (now z h)
    ];
    not_kept = λ rule c not_so h. let n = g.not_kept rule c not_so in elim (either (RuleRequires rule c) h) [
      | inl before ↦ is.not_kept rule c n.0 before
      | inr now ↦ n.1 now
    ];
  }
    where
      before_too : (z : Line) → Contains old.lines z → Contains new.lines z
      before_too z h = subst (λ (l : List Line). Contains l z) (sym g.lines) (Contains-append_left old.lines more z h)

      now_too : (z : Line) → Contains more z → Contains new.lines z
      now_too z h = subst (λ (l : List Line). Contains l z) (sym g.lines) (Contains-append_right old.lines more z h)

      either : (z : Line) → Contains new.lines z → Contains old.lines z ⊎ Contains more z
      either z h = Contains-append_cases old.lines more z (subst (λ (l : List Line). Contains l z) g.lines h)

  -- lines of no rule
  pub plain_added : (explanation : Explanation) (new more : List Line) → AllByRecursion IsPlain more → new ≡ explanation.lines ++ more
      → IsExplanation p s explanation → IsExplanation p s (record explanation { lines = new })
  plain_added explanation new more plain add is = grown explanation (record explanation { lines = new }) more (record {
    lines = add;
    origins = is.origins;
    derived = grind (arith, common_steps, no_rule_line);
    rules = refl;
    one_each = refl;
    kept = λ var so. inl so;
    not_kept = λ rule c not_so. (not_so, no_rule_line more (RuleRequires rule c) plain refl);
  }) is

  -- ---- rules that derive values

  rules_differ : (var : ℕ) (rules : List ℕ) → IsDerivation p s var rules → AllPairs (λ a b. a ≢ b) rules
  rules_differ var rules d i j e lt within same =
      let a = get_or rules i e in
      let itself = subst (StandsBefore d.order a) (sym same) (d.ordered i j e lt within) in
      no_circle p s d.order d.is a a itself itself

  module _ (explanation : Explanation) (new : List Line) (origins : Origins) (next : Vec ℕ Global) (var : ℕ) (t : ExplainsDerivation p s var explanation.origins origins next.items)
      (add : new ≡ explanation.lines ++ map RuleDerives next.items) (is : IsExplanation p s explanation) where
    derivation_once : new ≡ with_lines explanation.lines (map RuleDerives t.derivation)
    derivation_once = add
        ∙ (ap (λ (l : List ℕ). explanation.lines ++ map RuleDerives l) t.explained
        ∙ sym (derived_lines explanation.lines (is_explained explanation.origins) is.derived t.derivation (rules_differ var t.derivation t.is)))

    derivation_added : IsExplanation p s (record explanation { lines = new; origins = origins; next = next })
    derivation_added = grown explanation (record explanation { lines = new; origins = origins; next = next }) (map RuleDerives next.items) (record {
      lines = add;
      origins = t.origins;
      derived = λ rule. (
        (λ so. elim ((t.noted rule).0 so) [
          | inl before ↦ inl before
          | inr now ↦ elim (cases_Bool (is_explained explanation.origins rule)) [
            | inl before ↦ inl before
            | inr new ↦ inr (contains_map RuleDerives next.items rule
                (subst (λ (l : List ℕ). Contains l rule) (sym t.explained) (in_filter (λ r. not (is_explained explanation.origins r)) t.derivation rule now (ap not new))))
          ]
        ]),
        (λ either. elim either [
          | inl before ↦ (t.noted rule).1 (inl before)
          | inr h ↦ (let w = map_contains RuleDerives next.items (RuleDerives rule) h in
              let same : w.0 ≡ rule = ap rule_of w.2 in
              let among = of_filter (λ r. not (is_explained explanation.origins r)) t.derivation w.0 (subst (λ (l : List ℕ). Contains l w.0) t.explained w.1) in
              (t.noted rule).1 (inr (subst (Contains t.derivation) same among.0)))
        ]),
      );
      rules = refl;
      one_each = refl;
      kept = λ v so. inl so;
      not_kept = λ rule c not_so. (not_so, λ h. let w = map_contains RuleDerives next.items (RuleRequires rule c) h in derives_requires_none w.0 rule c w.2);
    }) is

    pub givers_explained : ExplainsGivers p s var explanation (record explanation { lines = new; origins = origins; next = next })
    givers_explained = record { rules = t.derivation; are = t.is; added = derivation_once; explanation = derivation_added }

  -- ---- what the rules require that don't fire

  at_one : (rule : ℕ) (first : Option Fact) (z : Line) → Contains (option_map_or (λ c. RuleRequires rule c ∷ []) first []) z → (c : Fact) × (z ≡ RuleRequires rule c)
  at_one rule None z h = absurd (contains_none z h)
  at_one rule (Some c) z h = elim (contains_cases (RuleRequires rule c) [] z h) [ inl e ↦ (c, sym e) | inr none ↦ absurd (contains_none z none) ]

  keeper : (rules : List ℕ) (z : Line) → Contains (flat_map (failing_lines p s) rules) z → (rule : ℕ) × (c : Fact) × Contains rules rule × (z ≡ RuleRequires rule c)
  keeper [] z h = absurd (contains_none z h)
  keeper (rule ∷ rules) z h = elim (Contains-append_cases (failing_lines p s rule) (flat_map (failing_lines p s) rules) z (subst (λ l. Contains l z) (flat_map-cons (failing_lines p s) rule rules) h)) [
    | inl here ↦ (let w = at_one rule (find (fails s) (rule_at p rule).conditions) z here in (rule, w.0, contains_head rule rules, w.1))
    | inr there ↦ (let w = keeper rules z there in (w.0, w.1, contains_tail rule rules w.0 w.2, w.3))
  ]

  apart_more : (rule : ℕ) (first : Option Fact) (lines : List Line) → Apart lines → ((z : Line) → Contains lines z → rule ≢ rule_of z)
      → Apart (option_map_or (λ c. RuleRequires rule c ∷ []) first [] ++ lines)
  apart_more rule h1 lines apart others = grind (arith, other_line)

  keepers_apart : (rules : List ℕ) → AllPairs (λ a b. a < b) rules → Apart (flat_map (failing_lines p s) rules)
  keepers_apart [] pairs = tt
  keepers_apart (rule ∷ rules) pairs = subst Apart (sym (flat_map-cons (failing_lines p s) rule rules))
      (apart_more rule (find (fails s) (rule_at p rule).conditions) (flat_map (failing_lines p s) rules)
      (keepers_apart rules (λ i j d lt within. pairs (suc i) (suc j) d (omega arith) (omega arith)))
      (λ z h same.
      let w = keeper rules z h in
      let one : rule ≡ w.0 = same ∙ ap rule_of w.3 in
      let below : rule < get_or rules w.2.0 w.0 = pairs 0 (suc w.2.0) w.0 (omega arith) (let lt = w.2.1 in omega arith) in
      absurd (omega (arith, w.2.2))))

  module _ (explanation : Explanation) (var : ℕ) (is : IsExplanation p s explanation) where
    abbrev keepers : List Line
    keepers = lines_of_keepers p s var

    pub keepers_again : is_kept explanation var ≡ true → explanation.lines ≡ with_lines explanation.lines keepers
    keepers_again so = sym (none_new explanation.lines keepers (λ z h. (rule_line z h, is.kept var so z h)))
      where
        rule_line : (z : Line) → Contains keepers z → is_rule_line z ≡ true
        rule_line z h = let w = keeper (places (can_give p var) p.rules) z h in ap is_rule_line w.3

    module _ (new : List Line) (within : var < length p.variables) (not_so : is_kept explanation var ≡ false) (add : new ≡ explanation.lines ++ keepers) where
      pub keepers_once : new ≡ with_lines explanation.lines keepers
      keepers_once = add ∙ sym (all_new explanation.lines keepers (keepers_apart (places (can_give p var) p.rules) (places_ascend (can_give p var) 0 p.rules))
          (λ z h before.
          let w = keeper (places (can_give p var) p.rules) z h in
          let of = of_variable p var w.0 w.2 in
          is.not_kept w.0 w.1 (ap (λ v. is_kept explanation v) of.1 ∙ not_so) (subst (Contains explanation.lines) w.3 before)))

      pub keepers_added : IsExplanation p s (record explanation { lines = new; kept = set explanation.kept var true })
      keepers_added = grown explanation (record explanation { lines = new; kept = set explanation.kept var true }) keepers (record {
        lines = add;
        origins = is.origins;
        derived = λ rule. (
          (λ t. inl t),
          (λ either. elim either [
            | inl t ↦ t
            | inr h ↦ (let w = keeper (places (can_give p var) p.rules) (RuleDerives rule) h in absurd (derives_requires_none rule w.0 w.1 w.3))
          ]),
        );
        rules = refl;
        one_each = length-set explanation.kept var true;
        kept = grind (arith, common_steps, cases_eq, elsewhere);
        not_kept = λ rule c not_yet. elim (cases_eq (rule_at p rule).var var) [
          | inl e ↦ absurd (false≢true (sym not_yet ∙ (ap (λ u. get_or (set explanation.kept var true) u false) e ∙ here)))
          | inr ne ↦ (
            sym (elsewhere (rule_at p rule).var ne) ∙ not_yet,
            λ h. let w = keeper (places (can_give p var) p.rules) (RuleRequires rule c) h in
                let one : rule ≡ w.0 = ap rule_of w.3 in
                ne (ap (λ r. (rule_at p r).var) one ∙ (of_variable p var w.0 w.2).1),
          )
        ];
      }) is
        where
          here : get_or (set explanation.kept var true) var false ≡ true
          here = get_or-set_same explanation.kept var true false (omega (arith, is.one_each, within))

          elsewhere : (v : ℕ) → v ≢ var → get_or (set explanation.kept var true) v false ≡ get_or explanation.kept v false
          elsewhere v ne = get_or-set_other explanation.kept var v true false ne
