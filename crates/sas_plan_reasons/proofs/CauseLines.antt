-- The rules that concern a fact that doesn't hold. A fact has exactly one cause.
use Rattle.sas_plan_reasons.proofs.Imports.{IsDerived, IsTrue, can_be_given, ◌≡◌, ℕ, ◌<◌, true, List, [], ◌∷◌, ◌++◌, length, get_or, slice_index, Some, refl, sym, ◌∙◌, ap, subst, inl, inr, ◌==◌, ◌&&◌, find, map, and_parts, eqb-true, not-true, eqb-false, eqb_tells, Decides-eqb, Decides-not, All-nil, All-cons, Any-from_list_any, Fact, Effect, Parts, rule_at, Holds, AllHold, IsOnLayer, default_of, CanFire, fails, AreDerivationLines, since_line, missing_lines, IsCause, can_fire, IsLayered, new_value_of, differs, IsSettled, hold_or_not, new_value_is, differs_decides, differs_not, can_give, Line, Run, last_state}
use Rattle.sas_answers.specs.declared.line.Line.TheVariants as line
use Rattle.sas_plan_reasons.proofs.Derivation.{on_some_layer, value_is}
use Rattle.sas_plan_reasons.proofs.Derivations.{some_derivation, one_derivation}
use Rattle.sas_plan_reasons.proofs.Since.{some_since, one_since}

pub default_if_not_given : (p : Parts) (s : List ℕ) (fact : Fact) → IsLayered p → IsSettled p s → IsDerived p.variables fact.var → IsTrue (can_be_given p fact)
    → IsTrue (fails s fact) → slice_index s fact.var ≡ default_of p fact.var
default_if_not_given p s fact layered settled derived given missed = elim (differs_decides p s fact.var) [
  | inl w ↦ w.0
  | inr w ↦ absurd (missing (on_some_layer p fact.var derived) w.1)
]
  where
    at : (k : ℕ) (rule : Effect) → k < length p.rules → get_or p.rules k rule ≡ rule → rule.var ≡ fact.var → CanFire p rule → rule.new ≡ fact.value
        → new_value_of p fact.var ≡ fact.value
    at k rule lt is var can new =
        subst (λ v. new_value_of p v ≡ fact.value) var
        (subst (λ (r : Effect). new_value_of p r.var ≡ r.new) is (new_value_is p k rule layered lt (subst (CanFire p) (sym is) can)) ∙ new)

    new_is : new_value_of p fact.var ≡ fact.value
    new_is =
        let w = Any-from_list_any (λ (rule : Effect). can_give p fact.var rule && (rule.new == fact.value)) p.rules given in
        let both = and_parts (can_give p fact.var w.1) (w.1.new == fact.value) w.4 in
        let its = and_parts (w.1.var == fact.var) (can_fire p w.1) both.0 in
        at w.0 w.1 w.2 w.3 (eqb-true w.1.var fact.var its.0)
        ((Decides-not (w.1.new == default_of p w.1.var) (Decides-eqb w.1.new (default_of p w.1.var))).0 its.1)
        (eqb-true w.1.new fact.value both.1)

    missing : (layer : ℕ) × IsOnLayer p layer fact.var → differs p s fact.var ≡ true → ⊥
    missing (layer, on) d = eqb-false (slice_index s fact.var) fact.value (not-true (slice_index s fact.var == fact.value) missed)
        ((settled layer).new fact.var on d ∙ new_is)

-- if not all facts hold, one is the first that doesn't
first_that_fails : (s : List ℕ) (facts : List Fact) → (AllHold (slice_index s) facts → ⊥) → (c : Fact) × (find (fails s) facts ≡ Some c)
first_that_fails s [] none = absurd (none (All-nil (Holds (slice_index s))))
first_that_fails s (f ∷ fs) none = elim (eqb_tells (slice_index s f.var) f.value) [
  | inr w ↦ (f, rw w.0 refl)
  | inl w ↦ (let r = first_that_fails s fs (λ h. none (All-cons (Holds (slice_index s)) f fs w.1 h)) in (r.0, rw w.0 r.1))
]

pub each_rule_fails : (p : Parts) (s : List ℕ) (rule : ℕ) → IsLayered p → IsSettled p s → rule < length p.rules → CanFire p (rule_at p rule)
    → slice_index s (rule_at p rule).var ≡ default_of p (rule_at p rule).var → (c : Fact) × (find (fails s) (rule_at p rule).conditions ≡ Some c)
each_rule_fails p s rule layered settled exists can default = elim (hold_or_not (slice_index s) (rule_at p rule).conditions) [
  | inr n ↦ first_that_fails s (rule_at p rule).conditions n
  | inl hold ↦ absurd (fired (on_some_layer p (rule_at p rule).var (layered.derived rule _ exists)) hold)
]
  where
    fired : (layer : ℕ) × IsOnLayer p layer (rule_at p rule).var → AllHold (slice_index s) (rule_at p rule).conditions → ⊥
    fired (layer, on) hold = differs_not p s (rule_at p rule).var
        ((settled layer).closed rule _ exists on can (λ j d lt. value_is p s layered settled layer (get_or (rule_at p rule).conditions j d).var ∙ hold j d lt))
        default

-- ---- one cause

givers_one : (p : Parts) (s : List ℕ) (var : ℕ) (x y : List Line) → AreDerivationLines p s var x → AreDerivationLines p s var y → x ≡ y
givers_one p s var x y f g = f.2 ∙ (ap (λ (rules : List ℕ). map line.RuleDerives rules) (one_derivation p s var f.0 g.0 f.1 g.1) ∙ sym g.2)

-- the lines of a cause
abbrev lines_of : Parts → Run → Fact → ℕ → List Line → List Line
lines_of p run fact since givers =
    line.Requires fact ∷ line.Actual (record { var = fact.var; value = slice_index (last_state run) fact.var }) ∷ since_line since ∷ givers ++ missing_lines p (last_state run) fact

pub one_cause : (p : Parts) (run : Run) (fact : Fact) (a b : List Line) → IsCause p run fact a → IsCause p run fact b → a ≡ b
one_cause p run fact a b x y = x.whole
    ∙ (ap (λ since. lines_of p run fact since x.givers) (one_since run fact.var x.since y.since x.last_change y.last_change)
    ∙ (ap (λ givers. lines_of p run fact y.since givers)
    (givers_one p (last_state run) fact.var x.givers y.givers x.given y.given) ∙ sym y.whole))

pub some_cause : (p : Parts) (run : Run) (fact : Fact) → 0 < length run.states → (lines : List Line) × IsCause p run fact lines
some_cause p run fact some =
    let since = some_since run fact.var some in
    let w = some_derivation p (last_state run) fact.var in
    let givers = map line.RuleDerives w.0 in
    (lines_of p run fact since.0 givers, record { since = since.0; last_change = since.1; givers = givers; given = (w.0, w.1, refl); whole = refl })
