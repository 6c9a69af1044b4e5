-- The parts of a text, and what their bytes add up to.
use Rattle.std.proofs.Common.{◌≡◌, ℕ, ◌+◌, Bool, true, not, List, [], ◌∷◌, ◌++◌, length, map, filter, refl, sym, ◌∙◌, ap, inl, inr, arith, ◌==◌, sum, sum_by, if◌then◌else◌, IsTrue}
use Rattle.std.proofs.lemmas.Bool.{cases_Bool}
use Rattle.std.proofs.lemmas.Grind.{common_steps}
use Rattle.std.proofs.lemmas.List.{map-append}
use Rattle.std.proofs.lemmas.List.Elements.{filter-append}
use Rattle.std.proofs.lemmas.List.Splits.{slice_split-cons_yes, slice_split-cons_no}
use Rattle.std.proofs.lemmas.List.Sums.{sum_by-cons}
use Rattle.std.specs.Char.{to_ascii_lowercase}
use Rattle.std.specs.List.{slice_split, onto_first}
use Rattle.sas_plan_reasons.specs.Words.{separates, parts, words}

-- ---- cut at a separator

-- a text has a first part
first_part : (p : ℕ → Bool) (xs : List ℕ) → (part : List ℕ) × (others : List (List ℕ)) × (slice_split p xs ≡ part ∷ others)
first_part p [] = ([], [], refl)
first_part p (x ∷ xs) =
    let w = first_part p xs in
    elim (cases_Bool (p x)) [
      | inl t ↦ ([], slice_split p xs, slice_split-cons_yes p x xs t)
      | inr f ↦ (x ∷ w.0, w.1, slice_split-cons_no p x xs f ∙ ap (onto_first x) w.2)
    ]

cut : (p : ℕ → Bool) (xs : List ℕ) (y : ℕ) (ys : List ℕ) → p y ≡ true → slice_split p (xs ++ y ∷ ys) ≡ slice_split p xs ++ slice_split p ys
cut p [] y ys is = slice_split-cons_yes p y ys is
cut p (x ∷ xs) y ys is =
    let w = first_part p xs in
    elim (cases_Bool (p x)) [
      | inl t ↦ slice_split-cons_yes p x (xs ++ y ∷ ys) t ∙ (ap (λ (l : List (List ℕ)). [] ∷ l) (cut p xs y ys is)
          ∙ ap (λ (l : List (List ℕ)). l ++ slice_split p ys) (sym (slice_split-cons_yes p x xs t)))
      | inr f ↦ slice_split-cons_no p x (xs ++ y ∷ ys) f ∙ (ap (onto_first x) (cut p xs y ys is ∙ ap (λ (l : List (List ℕ)). l ++ slice_split p ys) w.2)
          ∙ (ap (λ (l : List (List ℕ)). onto_first x l ++ slice_split p ys) (sym w.2)
          ∙ ap (λ (l : List (List ℕ)). l ++ slice_split p ys) (sym (slice_split-cons_no p x xs f))))
    ]

abbrev has_bytes : List ℕ → Bool
has_bytes part = not (length part == 0)

parts_cut : (xs : List ℕ) (y : ℕ) (ys : List ℕ) → separates y ≡ true → parts (xs ++ y ∷ ys) ≡ parts xs ++ parts ys
parts_cut xs y ys is = ap (filter has_bytes) (cut separates xs y ys is) ∙ filter-append has_bytes (slice_split separates xs) (slice_split separates ys)

-- a byte separates words exactly if it does in lower case
pub small_separates : (b : ℕ) → separates (to_ascii_lowercase b) ≡ separates b
small_separates b = grind (arith, common_steps)

words_cut : (xs : List ℕ) (y : ℕ) (ys : List ℕ) → separates y ≡ true → words (xs ++ y ∷ ys) ≡ words xs ++ words ys
words_cut xs y ys is = ap parts (map-append to_ascii_lowercase xs (y ∷ ys)) ∙ parts_cut (map to_ascii_lowercase xs) (to_ascii_lowercase y) (map to_ascii_lowercase ys) (small_separates y ∙ is)

-- ---- the bytes of the parts

part_sum : (x : ℕ) (l : List (List ℕ)) → sum_by sum (onto_first x l) ≡ x + sum_by sum l
part_sum x [] = grind (arith, common_steps)
part_sum x (part ∷ others) = grind (arith, common_steps, sum_by-cons (λ y. y) x part, sum_by-cons sum part others, sum_by-cons sum (x ∷ part) others)

-- a byte that doesn't separate words counts
abbrev pub counted : ℕ → ℕ
counted b = if separates b then 0 else b

abbrev adding : ℕ → Bool → ℕ
adding x b = if b then 0 else x

split_sum : (xs : List ℕ) → sum_by sum (slice_split separates xs) ≡ sum_by counted xs
split_sum [] = refl
split_sum (x ∷ xs) =
    let its = sum_by-cons counted x xs in
    let rest = split_sum xs in
    elim (cases_Bool (separates x)) [
      | inl t ↦ ap (sum_by sum) (slice_split-cons_yes separates x xs t) ∙ (let front = sum_by-cons sum [] (slice_split separates xs) in let none : sum [] ≡ 0 = refl in let e : counted x ≡ 0 = ap (adding x) t in omega (arith, its, front, rest, none, e))
      | inr f ↦ ap (sum_by sum) (slice_split-cons_no separates x xs f) ∙ (let front = part_sum x (slice_split separates xs) in let e : counted x ≡ x = ap (adding x) f in omega (arith, its, front, rest, e))
    ]

-- parts without bytes add nothing
passes : (x : ℕ) (part : List ℕ) (l : List (List ℕ)) → filter has_bytes ((x ∷ part) ∷ l) ≡ (x ∷ part) ∷ filter has_bytes l
passes x part l = grind (arith, common_steps)

filter_sum : (l : List (List ℕ)) → sum_by sum (filter has_bytes l) ≡ sum_by sum l
filter_sum [] = refl
filter_sum ([] ∷ l) = omega (arith, filter_sum l, sum_by-cons sum [] l)
filter_sum ((x ∷ part) ∷ l) = ap (sum_by sum) (passes x part l) ∙ omega (arith, filter_sum l, sum_by-cons sum (x ∷ part) (filter has_bytes l), sum_by-cons sum (x ∷ part) l)

sum_small : (xs : List ℕ) → sum_by counted (map to_ascii_lowercase xs) ≡ sum_by (λ b. counted (to_ascii_lowercase b)) xs
sum_small [] = refl
sum_small (x ∷ xs) = sum_by-cons counted (to_ascii_lowercase x) (map to_ascii_lowercase xs) ∙ (ap (λ n. counted (to_ascii_lowercase x) + n) (sum_small xs) ∙ sym (sum_by-cons (λ b. counted (to_ascii_lowercase b)) x xs))

-- what a byte of a name adds
abbrev pub adds : ℕ → ℕ
adds b = counted (to_ascii_lowercase b)

pub words_sum : (name : List ℕ) → sum_by sum (words name) ≡ sum_by adds name
words_sum name = filter_sum (slice_split separates (map to_ascii_lowercase name)) ∙ (split_sum (map to_ascii_lowercase name) ∙ sum_small name)

-- ---- laws

small_twice : (name : List ℕ) → map to_ascii_lowercase (map to_ascii_lowercase name) ≡ map to_ascii_lowercase name
small_twice [] = refl
small_twice (b ∷ name) = ap (λ (l : List ℕ). to_ascii_lowercase (to_ascii_lowercase b) ∷ l) (small_twice name) ∙ ap (λ c. c ∷ map to_ascii_lowercase name) (small b)
  where
    small : (b : ℕ) → to_ascii_lowercase (to_ascii_lowercase b) ≡ to_ascii_lowercase b
    small b = grind (arith, common_steps)

pub no_case : (name : List ℕ) → words (map to_ascii_lowercase name) ≡ words name
no_case name = ap parts (small_twice name)

pub at_separator : (front behind : List ℕ) (b : ℕ) → IsTrue (separates b) → words (front ++ b ∷ behind) ≡ words front ++ words behind
at_separator front behind b is = words_cut front b behind is
