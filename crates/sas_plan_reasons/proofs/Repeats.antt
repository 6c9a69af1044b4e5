-- Removing repeated lines of rules: no line is lost, and no line of a rule remains twice.
use Rattle.std.proofs.lemmas.Grind.{common_steps}
use Rattle.sas_plan_reasons.proofs.Imports.{IsTrue, ◌↔◌, ◌≡◌, ◌≢◌, ◌<◌, ◌⊎◌, Bool, true, false, List, [], ◌∷◌, ◌++◌, sym, ◌∙◌, ap, subst, inl, inr, arith, if◌then◌else◌, Contains, AllPairs, list_any, cases_Bool, false≢true, Contains-append_left, Contains-get_or, Contains-push, Contains-push_cases, all_pairs_push, Any-from_list_any, list_any_at, contains_head, contains_tail, with_line, with_lines, contains_cases, contains_none, Line, is_rule_line, is_same_rule_line, same_is, is_same}

-- whether the next line is left out
abbrev pub is_among : List Line → Line → Bool
is_among lines next = list_any (is_same_rule_line next) lines

-- it is left out only if it is among the lines; a line of a rule that is among them is left out
pub among_is : (lines : List Line) (next : Line) → is_among lines next ≡ true → Contains lines next
among_is lines next is = grind (arith, common_steps, Any-from_list_any, same_is)

pub is_among_when : (lines : List Line) (next : Line) → is_rule_line next ≡ true → Contains lines next → is_among lines next ≡ true
is_among_when lines next rule h = grind (arith, common_steps, list_any_at, is_same)

pub line_then : (lines : List Line) (next : Line) → is_among lines next ≡ true → with_line lines next ≡ lines
line_then lines next is = ap (λ b. if b then lines else lines ++ next ∷ []) is

pub line_else : (lines : List Line) (next : Line) → is_among lines next ≡ false → with_line lines next ≡ lines ++ next ∷ []
line_else lines next is = ap (λ b. if b then lines else lines ++ next ∷ []) is

-- ---- which lines there are

-- adding the next line keeps the lines before, and has it
line_is : (lines : List Line) (next z : Line) → Contains (with_line lines next) z → Contains lines z ⊎ (next ≡ z)
line_is lines next z = grind (arith, common_steps, Contains-push_cases)

is_line : (lines : List Line) (next : Line) → Contains (with_line lines next) next
is_line lines next = elim (cases_Bool (is_among lines next)) [
  | inl among ↦ rw (line_then lines next among) (among_is lines next among)
  | inr new ↦ rw (line_else lines next new) (Contains-push lines next)
]

was_line : (lines : List Line) (next z : Line) → Contains lines z → Contains (with_line lines next) z
was_line lines next z h = grind (arith, common_steps, Contains-append_left)

lines_are : (lines more : List Line) (z : Line) → Contains (with_lines lines more) z → Contains lines z ⊎ Contains more z
lines_are lines [] z h = inl h
lines_are lines (next ∷ more) z h = elim (lines_are (with_line lines next) more z h) [
  | inr later ↦ inr (contains_tail next more z later)
  | inl before ↦ elim (line_is lines next z before) [
    | inl h ↦ inl h
    | inr e ↦ inr (subst (Contains (next ∷ more)) e (contains_head next more))
  ]
]

were_lines : (lines more : List Line) (z : Line) → Contains lines z → Contains (with_lines lines more) z
were_lines lines [] z h = h
were_lines lines (next ∷ more) z h = were_lines (with_line lines next) more z (was_line lines next z h)

are_lines : (lines more : List Line) (z : Line) → Contains more z → Contains (with_lines lines more) z
are_lines lines [] z h = absurd (contains_none z h)
are_lines lines (next ∷ more) z h = elim (contains_cases next more z h) [
  | inl e ↦ were_lines (with_line lines next) more z (subst (Contains (with_line lines next)) e (is_line lines next))
  | inr later ↦ are_lines (with_line lines next) more z later
]

pub none_is_lost : (lines : List Line) (line : Line) → Contains (with_lines [] lines) line ↔ Contains lines line
none_is_lost lines z = (
  (λ h. elim (lines_are [] lines z h) [ inl none ↦ absurd (contains_none z none) | inr there ↦ there ]),
  (λ h. are_lines [] lines z h),
)

-- ---- no line of a rule remains twice

abbrev Differ : Line → Line → Type 0
Differ a b = is_rule_line a ≡ true → a ≢ b

apart_line : (lines : List Line) (next : Line) → AllPairs Differ lines → AllPairs Differ (with_line lines next)
apart_line lines next pairs = elim (cases_Bool (is_among lines next)) [
  | inl among ↦ rw (line_then lines next among) pairs
  | inr new ↦ rw (line_else lines next new) (all_pairs_push Differ lines next pairs (λ k d lt rule same.
      false≢true (sym new ∙ is_among_when lines next (ap is_rule_line (sym same) ∙ rule) (subst (Contains lines) same (Contains-get_or lines k d lt)))))
]

apart_lines : (lines more : List Line) → AllPairs Differ lines → AllPairs Differ (with_lines lines more)
apart_lines lines [] pairs = pairs
apart_lines lines (next ∷ more) pairs = apart_lines (with_line lines next) more (apart_line lines next pairs)

pub rules_stand_once : (lines : List Line) → AllPairs (λ a b. IsTrue (is_rule_line a) → a ≢ b) (with_lines [] lines)
rules_stand_once lines = apart_lines [] lines (λ i j d lt within. absurd (let h : j < 0 = within in omega arith))
