-- What functions report, one behind the other.
use Rattle.std.proofs.Common.{arith}
use Rattle.std.proofs.lemmas.Grind.{common_steps}
use Rattle.sas_plan_reasons.proofs.Imports.{◌≡◌, ℕ, zero, suc, ◌+◌, ◌<◌, true, false, List, [], ◌∷◌, ◌++◌, length, get_or, set, map, take, refl, sym, ◌∙◌, ap, subst, append_assoc, if◌then◌else◌, flat_map, slice_index, AllByRecursion, append-nil, map-append, take_more, flat_map-cons, flat_map-append, Fact, Parts, needs_rules, Line, with_lines, LineThen, PlanHistory, Explanation, IsExplanation, ExplainsGivers, IsBehind, lines_of_keepers, is_kept, IsExplanationOf, AddsLines, LinesOfEach, Run, last_state, IsDerivation, since_line, AreDerivationLines, can_be_given, keeping_lines, missing_lines, IsCause}
use Rattle.sas_answers.specs.declared.line.Line.TheVariants as line
use Rattle.sas_plan_reasons.proofs.Once.{IsPlain, lines_append, plain_lines}
use Rattle.sas_plan_reasons.proofs.Adding.{plain_added, keepers_again, keepers_once, keepers_added}

-- the fact that the variable has its value in a state
abbrev pub actual_fact : List ℕ → ℕ → Fact
actual_fact s var = record { var = var; value = slice_index s var }

module _ (p : Parts) (history : PlanHistory) where
  -- ---- lines of no rule

  plain_then : (explanation : Explanation) (new more rest : List Line) → AllByRecursion IsPlain more → new ≡ explanation.lines ++ more
      → with_lines new rest ≡ with_lines explanation.lines (more ++ rest)
  plain_then explanation new more rest plain add = grind (arith, with_lines, plain_lines, lines_append)

  pub plain_is_explanation : (explanation : Explanation) (new more : List Line) → AllByRecursion IsPlain more → new ≡ explanation.lines ++ more
      → IsExplanationOf p history explanation → IsExplanationOf p history (record explanation { lines = new })
  plain_is_explanation explanation new more plain add can = (can.0, can.1, plain_added p history.last explanation new more plain add can.2)

  pub more_is_explanation : (Are : Run → List Line → Type 0) (old new : Explanation) → AddsLines p history old new Are → IsExplanationOf p history old → IsExplanationOf p history new
  more_is_explanation Are old new adds can = let w = adds can.0 can.1 can.2 in (can.0, can.1, w.3)

  pub line_and_more : (explanation after : Explanation) (new : List Line) (l : Line) (Are : Run → List Line → Type 0) → IsPlain l → new ≡ explanation.lines ++ l ∷ []
      → AddsLines p history (record explanation { lines = new }) after Are → AddsLines p history explanation after (λ run. LineThen l (Are run))
  line_and_more explanation after new l Are plain add adds run behind is =
      let w = adds run behind (plain_added p history.last explanation new (l ∷ []) (plain, tt) add is) in
      (l ∷ w.0, (w.0, w.1, refl), w.2 ∙ plain_then explanation new (l ∷ []) w.0 (plain, tt) add, w.3)

  -- ---- causes

  -- the lines that a cause begins with
  abbrev pub first_lines : Fact → List Line
  first_lines fact = line.Requires fact ∷ line.Actual (actual_fact history.last fact.var) ∷ since_line (slice_index history.since.items fact.var) ∷ []

  since_plain : (since : ℕ) → IsPlain (since_line since)
  since_plain zero = refl
  since_plain (suc before) = refl

  pub first_plain : (fact : Fact) → AllByRecursion IsPlain (first_lines fact)
  first_plain fact = (refl, (refl, (since_plain (slice_index history.since.items fact.var), tt)))

  pub cause_added : (explanation : Explanation) (new : List Line) (between after : Explanation) (fact : Fact) → fact.var < length p.variables
      → new ≡ explanation.lines ++ first_lines fact
      → AddsLines p history (record explanation { lines = new }) between (λ run. AreDerivationLines p (last_state run) fact.var)
      → AddsLines p history between after (λ run lines. lines ≡ missing_lines p (last_state run) fact)
      → AddsLines p history explanation after (λ run. IsCause p run fact)
  cause_added explanation new between after fact lt add givers missing run behind is =
      let since = slice_index history.since.items fact.var in
      let g = givers run behind (plain_added p history.last explanation new (first_lines fact) (first_plain fact) add is) in
      let m = missing run behind g.3 in (
        first_lines fact ++ (g.0 ++ m.0),
        record {
          since = since;
          last_change = behind.since.each fact.var lt;
          givers = g.0;
          given = g.1;
          whole = ap (λ s. line.Requires fact ∷ line.Actual (actual_fact s fact.var) ∷ since_line since ∷ g.0 ++ m.0) behind.last
              ∙ ap (λ (l : List Line). line.Requires fact ∷ line.Actual (actual_fact (last_state run) fact.var) ∷ since_line since ∷ g.0 ++ l) m.1;
        },
        m.2 ∙ (ap (λ (l : List Line). with_lines l m.0) g.2
            ∙ (sym (lines_append new g.0 m.0)
            ∙ plain_then explanation new (first_lines fact) (g.0 ++ m.0) (first_plain fact) add)),
        m.3,
      )

  -- ---- rules that derive values

  pub givers_behind : (old new : Explanation) (var : ℕ) → ((s : List ℕ) → IsExplanation p s old → ExplainsGivers p s var old new)
      → AddsLines p history old new (λ run. AreDerivationLines p (last_state run) var)
  givers_behind old new var reports run behind is =
      let t = reports history.last is in
      (map line.RuleDerives t.rules, (t.rules, subst (λ s. IsDerivation p s var t.rules) behind.last t.are, refl), t.added, t.explanation)

  -- ---- rules that don't fire

  keepers_of_last : (run : Run) → IsBehind p history run → (fact : Fact) → can_be_given p fact ≡ true
      → lines_of_keepers p history.last fact.var ≡ keeping_lines p (last_state run) fact
  keepers_of_last run behind fact so = grind (arith, lines_of_keepers, last_state)

  pub no_rule : (explanation : Explanation) (new : List Line) (fact : Fact) → can_be_given p fact ≡ false → new ≡ explanation.lines ++ line.NoRuleDerives ∷ []
      → AddsLines p history explanation (record explanation { lines = new }) (λ run lines. lines ≡ keeping_lines p (last_state run) fact)
  no_rule explanation new fact not_so add run behind is = (
    line.NoRuleDerives ∷ [],
    sym (ap (λ b. if b then lines_of_keepers p (last_state run) fact.var else line.NoRuleDerives ∷ []) not_so),
    add ∙ sym (plain_lines explanation.lines (line.NoRuleDerives ∷ []) (refl, tt)),
    plain_added p history.last explanation new (line.NoRuleDerives ∷ []) (refl, tt) add is,
  )

  pub reported_before : (explanation : Explanation) (fact : Fact) → can_be_given p fact ≡ true → is_kept explanation fact.var ≡ true
      → AddsLines p history explanation explanation (λ run lines. lines ≡ keeping_lines p (last_state run) fact)
  reported_before explanation fact so kept run behind is = grind (arith, lines_of_keepers, keepers_of_last, keepers_again)

  pub reported_now : (explanation : Explanation) (new : List Line) (fact : Fact) → fact.var < length p.variables → can_be_given p fact ≡ true
      → is_kept explanation fact.var ≡ false → new ≡ explanation.lines ++ lines_of_keepers p history.last fact.var
      → AddsLines p history explanation (record explanation { lines = new; kept = set explanation.kept fact.var true }) (λ run lines. lines ≡ keeping_lines p (last_state run) fact)
  reported_now explanation new fact lt so not_kept add run behind is = (
    lines_of_keepers p history.last fact.var,
    keepers_of_last run behind fact so,
    keepers_once p history.last explanation fact.var is new lt not_kept add,
    keepers_added p history.last explanation fact.var is new lt not_kept add,
  )

  pub nothing_missing : (explanation : Explanation) (fact : Fact) → needs_rules p fact ≡ false → AddsLines p history explanation explanation (λ run lines. lines ≡ missing_lines p (last_state run) fact)
  nothing_missing explanation fact not_so run behind is = ([], sym (ap (λ b. if b then keeping_lines p (last_state run) fact else []) not_so), refl, is)

  pub missing_reported : (explanation after : Explanation) (fact : Fact) → needs_rules p fact ≡ true → AddsLines p history explanation after (λ run lines. lines ≡ keeping_lines p (last_state run) fact)
      → AddsLines p history explanation after (λ run lines. lines ≡ missing_lines p (last_state run) fact)
  missing_reported explanation after fact so adds run behind is = grind (arith, common_steps)

-- ---- each of some items

each_more : {A : Type 0} (Are : A → List Line → Type 0) (items : List A) (item : A) (lines its : List Line)
    → LinesOfEach Are items lines → Are item its → LinesOfEach Are (items ++ item ∷ []) (lines ++ its)
each_more Are [] item lines its none decides = (its, [], decides, refl, ap (λ (l : List Line). l ++ its) none ∙ sym (append-nil its))
each_more Are (first ∷ items) item lines its each decides = grind (arith, common_steps, each_more Are items item each.1 its each.3 decides, append_assoc)

module _ (p : Parts) (history : PlanHistory) {A : Type 0} (Are : Run → A → List Line → Type 0) where
  pub none_yet : (explanation : Explanation) → AddsLines p history explanation explanation (λ run. LinesOfEach (Are run) [])
  none_yet explanation run behind is = ([], refl, refl, is)

  pub one_more : (first old new : Explanation) (items : List A) (item : A) → AddsLines p history first old (λ run. LinesOfEach (Are run) items)
      → AddsLines p history old new (λ run. Are run item) → AddsLines p history first new (λ run. LinesOfEach (Are run) (items ++ item ∷ []))
  one_more first old new items item before adds run behind is =
      let b = before run behind is in
      let a = adds run behind b.3 in
      (b.0 ++ a.0, each_more (Are run) items item b.0 a.0 b.1 a.1, a.2 ∙ (ap (λ (l : List Line). with_lines l a.0) b.2 ∙ sym (lines_append first.lines b.0 a.0)), a.3)

-- ---- the lines of rules, one rule more

pub map_more : {A B : Type 0} (f : A → B) (first old new : List B) (k : ℕ) (items : List A) (d : A) → k < length items
    → old ≡ first ++ map f (take k items) → new ≡ old ++ f (get_or items k d) ∷ [] → new ≡ first ++ map f (take (k + 1) items)
map_more f first old new k items d lt before pushed = grind (arith, common_steps, append_assoc, map-append, take_more)

pub flat_more : {A B : Type 0} (f : A → List B) (first old new shown : List B) (k : ℕ) (items : List A) (d : A) → k < length items
    → old ≡ first ++ flat_map f (take k items) → new ≡ old ++ shown → shown ≡ f (get_or items k d)
    → new ≡ first ++ flat_map f (take (k + 1) items)
flat_more f first old new shown k items d lt before pushed is = grind (arith, common_steps, append_assoc, flat_map-cons, append-nil, flat_map-append, take_more)
