-- Spans of variables: those of the derived variables, and copying the values in them.
use Rattle.std.proofs.lemmas.Grind.{common_steps}
use Rattle.sas_meaning.proofs.Imports.{◌≡◌, ◌⊎◌, ℕ, ◌+◌, ◌-◌, ◌<◌, ◌≤◌, List, [], ◌∷◌, ◌++◌, length, get_or, take, drop, sym, ◌∙◌, ap, subst, inl, inr, arith, cases_eq, cases_lt, get_or_default, All-push, All-weaker, Contains-append_left, Contains-push, Contains-get_or, get_or-take, get_or-drop, get_or_append_left, get_or-append_right, length-take-le, length-drop, length-append, Parts, IsDerived, VariableSpan, IsSpanned, AreSpansOf, AreDerivedSpans, CopiesSpans, SameBasic, AtDefault, IsState, WellRanged, range_of, is_some, refl}
use Rattle.sas_meaning.proofs.DerivedVariables.{derived_within, not_basic}
use Rattle.sas_meaning.proofs.Layers.{layer_cases}

abbrev pub span_of : ℕ → ℕ → VariableSpan
span_of start end = record { start = start; end = end }

spanned_before : (spans : List VariableSpan) (s : VariableSpan) (v : ℕ) → IsSpanned spans v → IsSpanned (spans ++ s ∷ []) v
spanned_before spans s v is = (is.0, Contains-append_left spans (s ∷ []) is.0 is.1, is.2, is.3)

spanned_cases : (spans : List VariableSpan) (s : VariableSpan) (v : ℕ) → IsSpanned (spans ++ s ∷ []) v → IsSpanned spans v ⊎ ((s.start ≤ v) × (v < s.end))
spanned_cases spans s v is = grind (arith, common_steps)

-- the derived variables below k are in spans, but for those of a span that begins at `start` and
-- goes on
pub record SpansUpTo (p : Parts) (start k : ℕ) (spans : List VariableSpan) : Type 0 where
  pub begun : start ≤ k
  pub unended : (v : ℕ) → start ≤ v → v < k → IsDerived p.variables v
  pub fit : AreSpansOf k spans
  pub only : (v : ℕ) → IsSpanned spans v → IsDerived p.variables v
  pub each : (v : ℕ) → v < k → IsDerived p.variables v → IsSpanned spans v ⊎ ((start ≤ v) × IsDerived p.variables k)

pub spans_none : (p : Parts) → SpansUpTo p 0 0 []
spans_none p = grind arith

module _ (p : Parts) (start k : ℕ) (spans : List VariableSpan) (up : SpansUpTo p start k spans) where
  fit_more : AreSpansOf (k + 1) spans
  fit_more = All-weaker (λ (s : VariableSpan). (s.start ≤ s.end) × (s.end ≤ k)) (λ (s : VariableSpan). (s.start ≤ s.end) × (s.end ≤ k + 1)) (λ s is. (is.0, omega (arith, is.1))) spans up.fit

  -- the next variable is basic
  pub spans_past : (IsDerived p.variables k → ⊥) → SpansUpTo p (k + 1) (k + 1) spans
  spans_past basic = grind (arith, fit_more, cases_eq)

  module _ (here : IsDerived p.variables k) where
    still_open : (v : ℕ) → start ≤ v → v < k + 1 → IsDerived p.variables v
    still_open v le lt = elim (cases_eq v k) [ inl e ↦ subst (λ n. IsDerived p.variables n) (sym e) here | inr ne ↦ up.unended v le (omega arith) ]

    -- it is derived, and so is the one after it
    pub spans_on : IsDerived p.variables (k + 1) → SpansUpTo p start (k + 1) spans
    spans_on more = grind (arith, still_open, fit_more, cases_eq)

    -- it is derived, and ends its span
    pub spans_end : SpansUpTo p start (k + 1) (spans ++ span_of start (k + 1) ∷ [])
    spans_end = record {
      begun = omega (arith, up.begun);
      unended = still_open;
      fit = All-push (λ (s : VariableSpan). (s.start ≤ s.end) × (s.end ≤ k + 1)) spans (span_of start (k + 1)) fit_more (omega (arith, up.begun), omega arith);
      only = λ v is. elim (spanned_cases spans (span_of start (k + 1)) v is) [ inl before ↦ up.only v before | inr new ↦ still_open v new.0 new.1 ];
      each = λ v lt derived. inl (elim (cases_lt v start) [
        | inr le ↦ (span_of start (k + 1), Contains-push spans (span_of start (k + 1)), le, lt)
        | inl less ↦ spanned_before spans (span_of start (k + 1)) v (elim (up.each v (omega (arith, up.begun)) derived) [ inl is ↦ is | inr is ↦ absurd (omega (arith, is.0)) ])
      ]);
    }

  pub spans_all : length p.variables ≡ k → AreDerivedSpans p spans
  spans_all all = grind (arith, derived_within)

-- ---- copying

-- xs with the values of `other` from a up to but not including e
abbrev pub copied : List ℕ → List ℕ → ℕ → ℕ → List ℕ
copied xs other a e = take a xs ++ (take (e - a) (drop a other) ++ drop (e - a) (drop a xs))

module _ (xs other : List ℕ) (a e : ℕ) (ordered : a ≤ e) (within : e ≤ length xs) (known : length other ≡ length xs) where
  front : length (take a xs) ≡ a
  front = length-take-le a xs (omega arith)

  middle : length (take (e - a) (drop a other)) ≡ e - a
  middle = length-take-le (e - a) (drop a other) (omega (arith, length-drop a other))

  behind : (v : ℕ) → a ≤ v → get_or (copied xs other a e) v 0 ≡ get_or (take (e - a) (drop a other) ++ drop (e - a) (drop a xs)) (v - a) 0
  behind v le = get_or-append_right (take a xs) (take (e - a) (drop a other) ++ drop (e - a) (drop a xs)) a v 0 front le

  pub copied_inside : (v : ℕ) → a ≤ v → v < e → get_or (copied xs other a e) v 0 ≡ get_or other v 0
  copied_inside v le lt = grind (arith, behind, get_or_append_left, take, drop, middle, get_or-take, get_or-drop, get_or)

  pub copied_outside : (v : ℕ) → (a ≤ v → v < e → ⊥) → get_or (copied xs other a e) v 0 ≡ get_or xs v 0
  copied_outside v not = grind (arith, cases_lt, get_or_append_left, take, drop, front, get_or-take, behind, get_or-append_right, middle, get_or-drop, get_or)

  pub copied_length : length (copied xs other a e) ≡ length xs
  copied_length = grind (arith, length-append, take, drop, front, middle, length-drop)

-- the first i spans are copied
pub record CopiedTo (spans : List VariableSpan) (other s0 : List ℕ) (i : ℕ) (s : List ℕ) : Type 0 where
  pub one_each : length s ≡ length s0
  pub inside : (j v : ℕ) (d : VariableSpan) → j < i → (get_or spans j d).start ≤ v → v < (get_or spans j d).end → get_or s v 0 ≡ get_or other v 0
  pub outside : (v : ℕ) → (IsSpanned spans v → ⊥) → get_or s v 0 ≡ get_or s0 v 0

pub copied_none : (spans : List VariableSpan) (other s : List ℕ) → CopiedTo spans other s 0 s
copied_none spans other s = record { one_each = refl; inside = λ j v d lt. absurd (omega arith); outside = λ v not. refl }

pub one_copied : (spans : List VariableSpan) (other s0 : List ℕ) (i : ℕ) (s : List ℕ) → i < length spans → length other ≡ length s0 → AreSpansOf (length s0) spans → CopiedTo spans other s0 i s
    → CopiedTo spans other s0 (i + 1) (copied s other (get_or spans i (span_of 0 0)).start (get_or spans i (span_of 0 0)).end)
one_copied spans other s0 i s lt known fit to = record {
  one_each = copied_length s other (get_or spans i (span_of 0 0)).start (get_or spans i (span_of 0 0)).end ordered within known' ∙ to.one_each;
  inside = λ j v d below le less. elim (cases_lt v (get_or spans i (span_of 0 0)).start) [
    | inl before ↦ (let none : (get_or spans i (span_of 0 0)).start ≤ v → v < (get_or spans i (span_of 0 0)).end → ⊥ = λ ge under. absurd (omega arith) in others v none ∙ to.inside j v d (earlier j v d below le less none) le less)
    | inr ge ↦ elim (cases_lt v (get_or spans i (span_of 0 0)).end) [
      | inl under ↦ copied_inside s other (get_or spans i (span_of 0 0)).start (get_or spans i (span_of 0 0)).end ordered within known' v ge under
      | inr past ↦ (let none : (get_or spans i (span_of 0 0)).start ≤ v → v < (get_or spans i (span_of 0 0)).end → ⊥ = λ ge' under. absurd (omega arith) in others v none ∙ to.inside j v d (earlier j v d below le less none) le less)
    ]
  ];
  outside = λ v not. others v (λ le less. not (get_or spans i (span_of 0 0), Contains-get_or spans i (span_of 0 0) lt, le, less)) ∙ to.outside v not;
}
  where
    fits : ((get_or spans i (span_of 0 0)).start ≤ (get_or spans i (span_of 0 0)).end) × ((get_or spans i (span_of 0 0)).end ≤ length s0)
    fits = fit i (span_of 0 0) lt

    ordered : (get_or spans i (span_of 0 0)).start ≤ (get_or spans i (span_of 0 0)).end
    ordered = fits.0

    within : (get_or spans i (span_of 0 0)).end ≤ length s
    within = omega (arith, fits.1, to.one_each)

    known' : length other ≡ length s
    known' = known ∙ sym to.one_each

    others : (v : ℕ) → ((get_or spans i (span_of 0 0)).start ≤ v → v < (get_or spans i (span_of 0 0)).end → ⊥)
        → get_or (copied s other (get_or spans i (span_of 0 0)).start (get_or spans i (span_of 0 0)).end) v 0 ≡ get_or s v 0
    others v none = copied_outside s other (get_or spans i (span_of 0 0)).start (get_or spans i (span_of 0 0)).end ordered within known' v none

    earlier : (j v : ℕ) (d : VariableSpan) → j < i + 1 → (get_or spans j d).start ≤ v → v < (get_or spans j d).end
        → ((get_or spans i (span_of 0 0)).start ≤ v → v < (get_or spans i (span_of 0 0)).end → ⊥) → j < i
    earlier j v d below le less none = elim (cases_eq j i) [
      | inr ne ↦ omega arith
      | inl same ↦ (let its : get_or spans j d ≡ get_or spans i (span_of 0 0) = ap (λ n. get_or spans n d) same ∙ get_or_default spans i d (span_of 0 0) lt in
          absurd (none (subst (λ (x : VariableSpan). x.start ≤ v) its le) (subst (λ (x : VariableSpan). v < x.end) its less)))
    ]

pub copied_all : (spans : List VariableSpan) (other s0 : List ℕ) (i : ℕ) (s : List ℕ) → i ≡ length spans → CopiedTo spans other s0 i s → CopiesSpans spans other s0 s
copied_all spans other s0 i s all to = grind arith

-- ---- where the derived variables get the values of a state in which they have their defaults

module _ (p : Parts) (spans : List VariableSpan) (other s s' : List ℕ) (are : AreDerivedSpans p spans) (copies : CopiesSpans spans other s s') where
  pub basic_kept : SameBasic p s s'
  basic_kept v basic = sym (copies.outside v (λ is. not_basic p v v (are.only v is) basic refl))

  module _ (default : (layer : ℕ) → AtDefault p layer other) where
    pub at_default : (layer : ℕ) → AtDefault p layer s'
    at_default layer v on = copies.inside v (are.each v (ap is_some on)) ∙ default layer v on

    pub state_reset : WellRanged p → IsState p.variables s → IsState p.variables s'
    state_reset ranged state = grind (arith, layer_cases, range_of, basic_kept, at_default)
