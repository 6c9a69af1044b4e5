-- Lines that are added to others, each line of a rule once.
use Rattle.std.proofs.Common.{rules}
use Rattle.sas_plan_reasons.proofs.Imports.{common_steps, get_or-map, length-map, ◌≡◌, ◌≢◌, ℕ, suc, Bool, true, false, not, List, [], ◌∷◌, ◌++◌, map, get_or, refl, sym, ◌∙◌, ap, inl, inr, arith, append_assoc, append-nil, ◌||◌, ◌&&◌, if◌then◌else◌, bytes_eq, filter, Contains, AllByRecursion, AllPairs, list_any, cases_Bool, same_from_decides, All-contains, contains_head, contains_tail, contains_cases, contains_none, Line, RuleDerives, rule_numbers, is_rule_line, is_same_rule_line, same_is, with_line, with_lines}
use Rattle.sas_plan_reasons.proofs.Repeats.{is_among, among_is, is_among_when, line_then, line_else}

-- one list behind another
pub lines_append : (lines a b : List Line) → with_lines lines (a ++ b) ≡ with_lines (with_lines lines a) b
lines_append lines [] b = refl
lines_append lines (next ∷ a) b = lines_append (with_line lines next) a b

-- ---- lines of no rule

abbrev pub IsPlain : Line → Type 0
IsPlain l = is_rule_line l ≡ false

never_same : (lines : List Line) (next : Line) → IsPlain next → is_among lines next ≡ false
never_same [] next plain = refl
never_same (l ∷ lines) next plain =
    ap (λ b. (b && bytes_eq (rule_numbers next) (rule_numbers l)) || is_among lines next) plain ∙ never_same lines next plain

pub plain_lines : (lines more : List Line) → AllByRecursion IsPlain more → with_lines lines more ≡ lines ++ more
plain_lines lines [] plain = sym (append-nil lines)
plain_lines lines (next ∷ more) plain = grind (arith, common_steps, plain_lines (lines ++ next ∷ []) more plain.1, line_else, never_same, append_assoc)

-- ---- lines that are among the others

pub none_new : (lines more : List Line) → ((z : Line) → Contains more z → (is_rule_line z ≡ true) × Contains lines z) → with_lines lines more ≡ lines
none_new lines [] all = refl
none_new lines (next ∷ more) all =
    let first = all next (contains_head next more) in
    ap (λ (l : List Line). with_lines l more) (line_then lines next (is_among_when lines next first.0 first.1))
    ∙ none_new lines more (λ z h. all z (contains_tail next more z h))

-- ---- lines of which each one is new among themselves

abbrev pub Apart : List Line → Type 0
Apart [] = Unit
Apart (next ∷ more) = ((z : Line) → Contains more z → is_same_rule_line z next ≡ false) × Apart more

-- those that aren't among the others
abbrev new_of : List Line → List Line → List Line
new_of lines more = filter (λ l. not (is_among lines l)) more

among_more : (test : Line → Bool) (lines : List Line) (next : Line) → test next ≡ false → list_any test (lines ++ next ∷ []) ≡ list_any test lines
among_more test [] next other = ap (λ b. b || false) other
among_more test (l ∷ lines) next other = ap (λ b. test l || b) (among_more test lines next other)

new_more : (lines : List Line) (next : Line) (more : List Line) → ((z : Line) → Contains more z → is_same_rule_line z next ≡ false)
    → new_of (lines ++ next ∷ []) more ≡ new_of lines more
new_more lines next [] others = refl
new_more lines next (z ∷ more) others =
    ap (λ b. if not b then z ∷ new_of (lines ++ next ∷ []) more else new_of (lines ++ next ∷ []) more)
    (among_more (is_same_rule_line z) lines next (others z (contains_head z more)))
    ∙ ap (λ (l : List Line). if not (is_among lines z) then z ∷ l else l) (new_more lines next more (λ y h. others y (contains_tail z more y h)))

new_lines : (lines more : List Line) → Apart more → with_lines lines more ≡ lines ++ new_of lines more
new_lines lines [] apart = sym (append-nil lines)
new_lines lines (next ∷ more) apart = grind (arith, common_steps, new_lines lines more apart.1, new_lines (lines ++ next ∷ []) more apart.1, cases_Bool, is_among, line_then, line_else, new_more, append_assoc)

all_kept : (lines more : List Line) → ((z : Line) → Contains more z → Contains lines z → ⊥) → new_of lines more ≡ more
all_kept lines [] new = refl
all_kept lines (next ∷ more) new = elim (cases_Bool (is_among lines next)) [
  | inl among ↦ absurd (new next (contains_head next more) (among_is lines next among))
  | inr other ↦ ap (λ b. if not b then next ∷ new_of lines more else new_of lines more) other
      ∙ ap (λ (l : List Line). next ∷ l) (all_kept lines more (λ z h. new z (contains_tail next more z h)))
]

pub all_new : (lines more : List Line) → Apart more → ((z : Line) → Contains more z → Contains lines z → ⊥) → with_lines lines more ≡ lines ++ more
all_new lines more apart new = new_lines lines more apart ∙ ap (λ (l : List Line). lines ++ l) (all_kept lines more new)

-- ---- lines of rules that derive values

-- the number of a line's rule
abbrev pub rule_of : Line → ℕ
rule_of l = get_or (rule_numbers l) 0 0

pub other_line : (z next : Line) → rule_of next ≢ rule_of z → is_same_rule_line z next ≡ false
other_line z next differ = grind (arith, common_steps, cases_Bool, same_is)

pub contains_map : {A B : Type 0} (f : A → B) (xs : List A) (x : A) → Contains xs x → Contains (map f xs) (f x)
contains_map f xs x h = grind (arith, common_steps, get_or-map, length-map)

pub map_contains : {A B : Type 0} (f : A → B) (xs : List A) (z : B) → Contains (map f xs) z → (x : A) × Contains xs x × (f x ≡ z)
map_contains f [] z h = absurd (contains_none z h)
map_contains f (y ∷ ys) z h = grind (arith, contains_cases (f y) (map f ys) z h, contains_head y ys, contains_tail y ys, map_contains f ys z)

derived_apart : (rules : List ℕ) → AllPairs (λ a b. a ≢ b) rules → Apart (map RuleDerives rules)
derived_apart [] pairs = tt
derived_apart (rule ∷ rules) pairs = (
  λ z h. let w = map_contains RuleDerives rules z h in
      other_line z (RuleDerives rule) (λ e. All-contains (λ x. rule ≢ x) rules w.0
      (λ k d lt. pairs 0 (suc k) d (omega arith) (omega arith)) w.1 (e ∙ sym (ap rule_of w.2))),
  derived_apart rules (λ i j d lt within. pairs (suc i) (suc j) d (omega arith) (omega arith)),
)

module _ (lines : List Line) (is_explained : ℕ → Bool) (reported : (rule : ℕ) → (is_explained rule ≡ true → Contains lines (RuleDerives rule)) × (Contains lines (RuleDerives rule) → is_explained rule ≡ true)) where
  reported_is : (rule : ℕ) → is_among lines (RuleDerives rule) ≡ is_explained rule
  reported_is rule = same_from_decides _ _ (among_is lines (RuleDerives rule), is_among_when lines (RuleDerives rule) refl) (reported rule)

  unexplained_lines : (rules : List ℕ) → new_of lines (map RuleDerives rules) ≡ map RuleDerives (filter (λ rule. not (is_explained rule)) rules)
  unexplained_lines [] = refl
  unexplained_lines (rule ∷ rules) = grind (arith, common_steps, unexplained_lines rules, cases_Bool, reported_is)

  pub derived_lines : (rules : List ℕ) → AllPairs (λ a b. a ≢ b) rules
      → with_lines lines (map RuleDerives rules) ≡ lines ++ map RuleDerives (filter (λ rule. not (is_explained rule)) rules)
  derived_lines rules pairs = new_lines lines (map RuleDerives rules) (derived_apart rules pairs) ∙ ap (λ (l : List Line). lines ++ l) (unexplained_lines rules)
