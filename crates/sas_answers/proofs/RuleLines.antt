-- The bytes of a line of a rule are those of no other line.
use Rattle.sas_answers.proofs.Imports.{◌≡◌, ◌⊎◌, inl, inr, ℕ, ◌<◌, ◌^◌, true, false, List, [], ◌∷◌, ◌++◌, length, drop, get_or, refl, sym, ap, subst, ◌∙◌, arith, ◌==◌, not, bytes_eq, codes, AllByRecursion, list_all, and_parts, and_from, eq-eqb, false≢true, bytes_eq-Decides, unwrap_or, Fact, Parts, rule_at, value_name, segments, joined, NoSpace, words-first, same_first, NoSpace-decimal, own_decimal, line, Line, RuleDerives, RuleRequires, Metric, NamelessSteps, FailingGoalFacts, Bool, ◌&&◌, ne_eqb, change_of, fact_of, words_of, shown_name, line_bytes, rule_numbers, is_rule_line, is_same_rule_line}
use Rattle.std.specs.Prelude.{decimal}

-- ---- lines of rules

-- a line of a rule is one of two
pub data IsOfRule : Line → Type 0 where
  Deriving : (rule : ℕ) → IsOfRule (RuleDerives rule)
  Requiring : (rule : ℕ) (fact : Fact) → IsOfRule (RuleRequires rule fact)

-- it differs from all others by its four spaces, and in its second letter
abbrev seems_of_rule : List ℕ → Bool
seems_of_rule bytes = get_or bytes 2 0 == 32 && (get_or bytes 5 0 == 117)

record IsOther (l : Line) : Type 0 where
  no_rule : is_rule_line l ≡ false
  apart : (p : Parts) (steps : List (List ℕ)) → seems_of_rule (line_bytes p steps l) ≡ false

-- a line of a number is no such line, as no digit is a space
number_apart : (digits behind : List ℕ) → NoSpace digits → seems_of_rule (32 ∷ 32 ∷ (digits ++ 32 ∷ (codes "of " ++ behind))) ≡ false
number_apart [] behind no_space = refl
number_apart (d ∷ digits) behind no_space = ap (λ b. b && (get_or (digits ++ 32 ∷ (codes "of " ++ behind)) 2 0 == 117)) (ne_eqb d 32 no_space.0)

tells : (l : Line) → IsOfRule l ⊎ IsOther l
tells (RuleDerives r) = inl (Deriving r)
tells (RuleRequires r f) = inl (Requiring r f)
tells (NamelessSteps k n) = inr (record { no_rule = refl; apart = λ p steps. number_apart (decimal k) (decimal n ++ codes " steps name no operator") (NoSpace-decimal k) })
tells (FailingGoalFacts k n) = inr (record { no_rule = refl; apart = λ p steps. number_apart (decimal k) (decimal n ++ codes " goal facts fail") (NoSpace-decimal k) })
tells _ = inr (record { no_rule = refl; apart = λ p steps. refl })

pub rule_cases : (l : Line) → is_rule_line l ≡ true → IsOfRule l
rule_cases l e = elim (tells l) [ inl is ↦ is | inr other ↦ absurd (false≢true (sym other.no_rule ∙ e)) ]

by_bytes : (p : Parts) (steps : List (List ℕ)) (l : Line) → seems_of_rule (line_bytes p steps l) ≡ true → IsOfRule l
by_bytes p steps l e = elim (tells l) [ inl is ↦ is | inr other ↦ absurd (false≢true (sym (other.apart p steps) ∙ e)) ]

-- the line is given by its numbers
abbrev line_of : List ℕ → Line
line_of (rule ∷ []) = RuleDerives rule
line_of (rule ∷ var ∷ value ∷ []) = RuleRequires rule (record { var = var; value = value })
line_of other = Metric

given_by_numbers : (l : Line) → IsOfRule l → line_of (rule_numbers l) ≡ l
given_by_numbers l (Deriving r) = refl
given_by_numbers l (Requiring r f) = refl

pub same_is : (l other : Line) → is_same_rule_line l other ≡ true → l ≡ other
same_is l other e =
    let both = and_parts (is_rule_line l) (bytes_eq (rule_numbers l) (rule_numbers other)) e in
    let same : rule_numbers l ≡ rule_numbers other = (bytes_eq-Decides (rule_numbers l) (rule_numbers other)).0 both.1 in
    let its : is_rule_line other ≡ true = subst (λ (ns : List ℕ). not (length ns == 0) ≡ true) same both.0 in
    sym (given_by_numbers l (rule_cases l both.0)) ∙ ap line_of same ∙ given_by_numbers other (rule_cases other its)

pub is_same : (l : Line) → is_rule_line l ≡ true → is_same_rule_line l l ≡ true
is_same l is = and_from (is_rule_line l) (bytes_eq (rule_numbers l) (rule_numbers l)) is ((bytes_eq-Decides (rule_numbers l) (rule_numbers l)).1 refl)

-- ---- the numbers of such a line

abbrev behind_rule : ℕ → List (List ℕ) → List ℕ
behind_rule rule words = line 4 (codes "rule" ∷ decimal rule ∷ words)

behind_number : (r r' : ℕ) (w w' : List ℕ) (ws ws' : List (List ℕ)) → behind_rule r (w ∷ ws) ≡ behind_rule r' (w' ∷ ws')
    → (decimal r ≡ decimal r') × (segments 32 (joined (w ∷ ws)) ≡ segments 32 (joined (w' ∷ ws')))
behind_number r r' w w' ws ws' e =
    same_first (decimal r) (decimal r') (joined (w ∷ ws)) (joined (w' ∷ ws')) (NoSpace-decimal r) (NoSpace-decimal r') (ap (λ (l : List ℕ). drop 9 l) e)

no_space : (bytes : List ℕ) → list_all (λ b. not (b == 32)) bytes ≡ true → NoSpace bytes
no_space [] h = tt
no_space (b ∷ bytes) h =
    let both = and_parts (not (b == 32)) (list_all (λ c. not (c == 32)) bytes) h in
    (λ (e : b ≡ 32). let is : (b == 32) ≡ true = eq-eqb b 32 e in let not_so : not true ≡ true = ap not (sym is) ∙ both.0 in absurd cc, no_space bytes both.1)

first_word : (w v a b : List ℕ) → NoSpace w → NoSpace v → segments 32 (w ++ 32 ∷ a) ≡ segments 32 (v ++ 32 ∷ b) → (w ≡ v) × (segments 32 a ≡ segments 32 b)
first_word w v a b h i e = let l : w ∷ segments 32 a ≡ v ∷ segments 32 b = sym (words-first w a h) ∙ e ∙ words-first v b i in (cc, cc)

module _ (p : Parts) where
  abbrev rest_of : Fact → List ℕ
  rest_of f = decimal f.value ++ 32 ∷ shown_name (unwrap_or (value_name p.variables f.var f.value) [])

  same_fact : (f f' : Fact) → f.var < 2 ^ 64 → f.value < 2 ^ 64 → segments 32 (joined (words_of p f)) ≡ segments 32 (joined (words_of p f')) → f ≡ f'
  same_fact f f' var value e =
      let first = first_word (decimal f.var) (decimal f'.var) (rest_of f) (rest_of f') (NoSpace-decimal f.var) (NoSpace-decimal f'.var) e in
      let second = first_word (decimal f.value) (decimal f'.value) _ _ (NoSpace-decimal f.value) (NoSpace-decimal f'.value) first.1 in
      let vars : f.var ≡ f'.var = own_decimal f.var f'.var var first.0 in
      let values : f.value ≡ f'.value = own_decimal f.value f'.value value second.0 in
      ap (λ v. let x : Fact = record { var = v; value = f.value } in x) vars ∙ ap (λ v. let x : Fact = record { var = f'.var; value = v } in x) values

  verbs_apart : (r r' : ℕ) (f g : Fact) → behind_rule r (codes "derives" ∷ words_of p f) ≡ behind_rule r' (codes "requires" ∷ words_of p g) → ⊥
  verbs_apart r r' f g e =
      let behind = behind_number r r' (codes "derives") (codes "requires") (words_of p f) (words_of p g) e in
      let first = first_word (codes "derives") (codes "requires") (joined (words_of p f)) (joined (words_of p g)) (no_space (codes "derives") refl) (no_space (codes "requires") refl) behind.1 in
      let lengths : 7 ≡ 8 = ap (λ (l : List ℕ). length l) first.0 in omega (arith, lengths)

  both_rules : (steps : List (List ℕ)) (l other : Line) → IsOfRule l → IsOfRule other → AllByRecursion (λ n. n < 2 ^ 64) (rule_numbers l)
      → line_bytes p steps l ≡ line_bytes p steps other → l ≡ other
  both_rules steps l other (Deriving r) (Deriving r') small e =
      let words = words_of p (fact_of (change_of (rule_at p r))) in
      let words' = words_of p (fact_of (change_of (rule_at p r'))) in
      ap (λ n. RuleDerives n) (own_decimal r r' small.0 (behind_number r r' (codes "derives") (codes "derives") words words' e).0)
  both_rules steps l other (Deriving r) (Requiring r' f) small e = absurd (verbs_apart r r' (fact_of (change_of (rule_at p r))) f e)
  both_rules steps l other (Requiring r f) (Deriving r') small e = absurd (verbs_apart r' r (fact_of (change_of (rule_at p r'))) f (sym e))
  both_rules steps l other (Requiring r f) (Requiring r' f') small e =
      let behind = behind_number r r' (codes "requires") (codes "requires") (words_of p f) (words_of p f') e in
      let first = first_word (codes "requires") (codes "requires") (joined (words_of p f)) (joined (words_of p f')) (no_space (codes "requires") refl) (no_space (codes "requires") refl) behind.1 in
      let rules : r ≡ r' = own_decimal r r' small.0 behind.0 in
      ap (λ n. RuleRequires n f) rules ∙ ap (λ (g : Fact). RuleRequires r' g) (same_fact f f' small.1.0 small.1.1.0 first.1)

does_seem : (p : Parts) (steps : List (List ℕ)) (l : Line) → IsOfRule l → seems_of_rule (line_bytes p steps l) ≡ true
does_seem p steps l (Deriving r) = refl
does_seem p steps l (Requiring r f) = refl

pub rule_lines_differ : (p : Parts) (steps : List (List ℕ)) (l other : Line) → is_rule_line l ≡ true → AllByRecursion (λ n. n < 2 ^ 64) (rule_numbers l)
    → line_bytes p steps l ≡ line_bytes p steps other → l ≡ other
rule_lines_differ p steps l other is small e =
    let its = rule_cases l is in
    both_rules p steps l other its (by_bytes p steps other (sym (ap seems_of_rule e) ∙ does_seem p steps l its)) small e
