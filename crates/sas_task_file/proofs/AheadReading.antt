-- Reading the first line of some bytes up to its end.
use Rattle.sas_task_file.proofs.Imports.{ten_pos, subst, ◌≡◌, ℕ, zero, suc, ◌+◌, ◌*◌, ◌-◌, ◌<◌, ◌≤◌, ◌^◌, List, [], ◌∷◌, ◌++◌, length, take, drop, refl, sym, ap, ap₂, ◌∙◌, inl, inr, append_assoc, arith, Option, get_or, true, false, Bool, not, ◌&&◌, ◌==◌, IsTrue, decimal, list_all, list_all-append, decimal_digit, length-take-le, take_rest, take_more, get_or-take, take-append-drop, drop-drop, StandsBefore, ended_line, LineAhead, NumberAhead, SignedAhead, FactAhead, ChangeAhead, is_plain, IsName, Fact, TaskLine, word, name, number, signed, fact, effect, head, task_line_bytes, TaskLineFits, EffectNumbers, fact_words, effect_words, signed_decimal, joined, IsNumber, TakesFacts, fact_in_ranges, Change, plain_effect}
use Rattle.sas_task_file.proofs.TaskPlain.{Sayable, plain-line}
use Rattle.sas_flat.specs.Effects as flat
use Rattle.sas_reader.proofs.PlainBytes.{plain_name}
use Rattle.sas_task_file.proofs.TaskReading.{before_space, one_more_fact}
use Rattle.sas_task_file.proofs.Digits.{digit_is, digit_more}

-- ---- a line and its end

says_line : (i : TaskLine) (bytes rest : List ℕ) → TaskLineFits i → Sayable i → StandsBefore (task_line_bytes i) 10 rest bytes → LineAhead i bytes rest
says_line i bytes rest fits says e = record { fits = fits; plain = plain-line i says; before = ended_line (task_line_bytes i) rest bytes e }

-- ---- bytes in front

pub bytes_in_front : (bytes : List ℕ) (first second : ℕ) → 2 ≤ length bytes → get_or bytes 0 0 ≡ first → get_or bytes 1 0 ≡ second → bytes ≡ first ∷ second ∷ take (length bytes - 2) (drop 2 bytes)
bytes_in_front bytes first second l h g = rw (take_rest bytes 2) (in_front bytes l h g)
  where
    in_front : (bytes : List ℕ) → 2 ≤ length bytes → get_or bytes 0 0 ≡ first → get_or bytes 1 0 ≡ second → bytes ≡ first ∷ second ∷ drop 2 bytes
    in_front [] l h g = absurd (omega arith)
    in_front (a ∷ []) l h g = absurd (omega arith)
    in_front (a ∷ b ∷ bytes) l h g = cc

-- ---- a number, digit by digit

pub tens_grow : (i k : ℕ) → i ≤ k → 10 ^ i ≤ 10 ^ k
tens_grow zero k l = let h = ten_pos k in omega (arith, h)
tens_grow (suc i) zero l = absurd (omega arith)
tens_grow (suc i) (suc k) l = let h = tens_grow i k (omega arith) in omega (arith, h)

pub tens_more : (i : ℕ) → 10 ^ (i + 1) ≡ 10 * 10 ^ i
tens_more i =
    let next : i + 1 ≡ suc i = omega arith in
    let more : 10 ^ suc i ≡ 10 * 10 ^ i = omega arith in
    ap (λ (x : ℕ). 10 ^ x) next ∙ more

pub first_digit : (bytes : List ℕ) → 0 < length bytes → 48 ≤ get_or bytes 0 0 → get_or bytes 0 0 ≤ 57 → take 1 bytes ≡ decimal (get_or bytes 0 0 - 48)
first_digit bytes long low high = take_more bytes 0 0 long ∙ sym (digit_is (get_or bytes 0 0) low high)

-- the digits so far, then the byte at `i`: one more digit, or the end
module _ (bytes : List ℕ) (n i : ℕ) (so_far : take i bytes ≡ decimal n) where
  pub digit_goes_on : i < length bytes → 0 < n → n < 1000000000 → 48 ≤ get_or bytes i 0 → get_or bytes i 0 ≤ 57
      → take (i + 1) bytes ≡ decimal (n * 10 + (get_or bytes i 0 - 48))
  digit_goes_on long some few low high =
      let d = get_or bytes i 0 in
      take_more bytes i 0 long ∙ ap (λ (l : List ℕ). l ++ d ∷ []) so_far ∙ sym (digit_more n d some few low high)

  pub number_ends : (end : ℕ) (rest : List ℕ) → n < 2 ^ 31 → StandsBefore (take i bytes) end rest bytes → NumberAhead bytes n end rest
  number_ends end rest few ends = (few, subst (λ (l : List ℕ). StandsBefore l end rest bytes) so_far ends)

-- ---- numbers, one after another

-- a text, a space and a text before an end
then : (a b bytes more rest : List ℕ) (end : ℕ) → bytes ≡ a ++ 32 ∷ more → StandsBefore b end rest more → StandsBefore (a ++ 32 ∷ b) end rest bytes
then a b bytes more rest end e (inl f) = inl (e ∙ ap (λ (x : List ℕ). a ++ 32 ∷ x) f ∙ sym (append_assoc a (32 ∷ b) (end ∷ rest)))
then a b bytes more rest end e (inr f) = inr (f.0, e ∙ ap (λ (x : List ℕ). a ++ 32 ∷ x) f.1 ∙ sym (append_assoc a (32 ∷ b) (13 ∷ 10 ∷ rest)))

pub number_is_ahead : (bytes rest : List ℕ) (n : ℕ) → NumberAhead bytes n 10 rest → LineAhead (number n) bytes rest
number_is_ahead bytes rest n h = says_line (number n) bytes rest h.0 h.0 h.1

pub signed_is_ahead : (bytes rest : List ℕ) (n : Option ℕ) → SignedAhead bytes n 10 rest → LineAhead (signed n) bytes rest
signed_is_ahead bytes rest n h = says_line (signed n) bytes rest h.0 h.0 h.1

pub two_numbers_ahead : (bytes more rest : List ℕ) (f : Fact) (end : ℕ) → NumberAhead bytes f.var 32 more → NumberAhead more f.value end rest → FactAhead bytes f end rest
two_numbers_ahead bytes more rest f end h g = ((h.0, g.0), then _ _ bytes more rest end (before_space _ bytes more h.1) g.1)

pub fact_is_ahead : (bytes rest : List ℕ) (f : Fact) → FactAhead bytes f 10 rest → LineAhead (fact f) bytes rest
fact_is_ahead bytes rest f h = says_line (fact f) bytes rest h.0 h.0 h.1

pub head_is_ahead : (bytes rest : List ℕ) (c : Change) → ChangeAhead bytes c rest → LineAhead (head c.var c.old c.new) bytes rest
head_is_ahead bytes rest c h = says_line (head c.var c.old c.new) bytes rest h.0 h.0 h.1

-- ---- an effect

-- The bytes are a count and the first conditions of an effect, which exist, and the rest: if the
-- rest begins with words, then the bytes begin with all these words.
pub record ConditionsBefore (ranges : List ℕ) (count done : ℕ) (conditions : List Fact) (bytes rest : List ℕ) : Type 0 where
  pub exist : IsTrue (list_all (fact_in_ranges ranges) conditions)
  pub before : (w : List ℕ) (ws : List (List ℕ)) (tail : List ℕ) → StandsBefore (joined (w ∷ ws)) 10 tail rest
      → (words : List (List ℕ)) × TakesFacts words done conditions (w ∷ ws) × StandsBefore (joined (decimal count ∷ words)) 10 tail bytes

module _ (ranges : List ℕ) (count : ℕ) (bytes : List ℕ) where
  pub no_condition : (rest : List ℕ) → NumberAhead bytes count 32 rest → ConditionsBefore ranges count 0 [] bytes rest
  no_condition rest h = record {
    exist = refl;
    before = λ w ws tail e. (w ∷ ws, record { many = refl; numbers = tt; before = refl }, then (decimal count) (joined (w ∷ ws)) bytes rest tail 10 (before_space _ bytes rest h.1) e);
  }

  pub one_more_condition : (done : ℕ) (fs : List Fact) (f : Fact) (more rest : List ℕ) → ConditionsBefore ranges count done fs bytes more → FactAhead more f 32 rest → IsTrue (fact_in_ranges ranges f) → ConditionsBefore ranges count (done + 1) (fs ++ f ∷ []) bytes rest
  one_more_condition done fs f more rest h g there = record {
    exist = list_all-append (fact_in_ranges ranges) fs (f ∷ []) ∙ ap₂ (λ x y. x && (y && true)) h.exist there;
    before = λ w ws tail e.
        let joins = append_assoc (decimal f.var) (32 ∷ decimal f.value) (32 ∷ joined (w ∷ ws)) in
        let here = subst (λ (l : List ℕ). StandsBefore l 10 tail more) joins (then (joined (fact_words f)) (joined (w ∷ ws)) more rest tail 10 (before_space _ more rest g.1) e) in
        let so_far = h.before (decimal f.var) (decimal f.value ∷ w ∷ ws) tail here in
        (so_far.0, one_more_fact so_far.0 _ (w ∷ ws) done fs f so_far.1 (g.0, refl), so_far.2);
  }

  pub effect_is_ahead : (fs : List Fact) (more rest : List ℕ) (c : Change) → IsNumber count → ConditionsBefore ranges count count fs bytes more → ChangeAhead more c rest → LineAhead (effect (flat.effect_with c fs)) bytes rest
  effect_is_ahead fs more rest c few h g =
      let all = h.before (decimal c.var) (signed_decimal c.old ∷ decimal c.new ∷ []) rest g.1 in
      let numbers : EffectNumbers (flat.effect_with c fs) = record { count = omega (arith, few, all.1.many); conditions = all.1.numbers; head = g.0 } in
      let words : decimal count ∷ all.0 ≡ effect_words (flat.effect_with c fs) = ap₂ (λ n ws. decimal n ∷ ws) (sym all.1.many) all.1.before in
      says_line (effect (flat.effect_with c fs)) bytes rest numbers numbers (subst (λ (ws : List (List ℕ)). StandsBefore (joined ws) 10 rest bytes) words all.2)

pub plain_effect_is_ahead : (bytes more rest : List ℕ) (c : Change) → bytes ≡ 48 ∷ 32 ∷ more → ChangeAhead more c rest → LineAhead (effect (plain_effect c)) bytes rest
plain_effect_is_ahead bytes more rest c e h =
    let zero_is : decimal 0 ≡ 48 ∷ [] = decimal_digit 0 (omega arith) in
    effect_is_ahead [] 0 bytes [] more rest c (omega arith) (no_condition [] 0 bytes more (omega arith, inl (e ∙ ap (λ (x : List ℕ). x ++ 32 ∷ more) (sym zero_is)))) h

-- ---- a word, a name

-- lists of eight to sixteen elements with the same first eight and the same last eight
pub by_ends : (n : ℕ) (a b : List ℕ) → 8 ≤ n → n ≤ 16 → take 8 a ≡ take 8 b → drop (n - 8) a ≡ drop (n - 8) b → a ≡ b
by_ends n a b low high first last =
    let place : (n - 8) + (16 - n) ≡ 8 = omega arith in
    let behind : (l : List ℕ) → drop (16 - n) (drop (n - 8) l) ≡ drop 8 l = λ l. drop-drop (16 - n) (n - 8) l ∙ ap (λ k. drop k l) place in
    sym (take-append-drop 8 a) ∙ ap₂ (λ (x y : List ℕ). x ++ y) first (sym (behind a) ∙ ap (drop (16 - n)) last ∙ behind b) ∙ take-append-drop 8 b

both : (a b : Bool) → IsTrue (a && b) → IsTrue b
both true b h = h
both false b h = absurd cc

Name_all : (w : List ℕ) → IsName w → IsTrue (list_all is_plain w)
Name_all w h = both (not (length w == 0)) (list_all is_plain w) h

pub word_is_ahead : (bytes w rest : List ℕ) → IsName w → StandsBefore w 10 rest bytes → LineAhead (word w) bytes rest
word_is_ahead bytes w rest h e = says_line (word w) bytes rest tt (Name_all w h) e

pub name_is_ahead : (bytes rest : List ℕ) (end : ℕ) → 0 < end → end < length bytes → ((k : ℕ) → k < end → 13 < get_or bytes k 0) → StandsBefore (take end bytes) 10 rest bytes
    → IsName (take end bytes) × LineAhead (name (take end bytes)) bytes rest
name_is_ahead bytes rest end some high before ends =
    let w = take end bytes in
    let l : length w ≡ end = length-take-le end bytes (omega (arith, high)) in
    let h : IsName w = plain_name w (omega (arith, l, some)) (λ k below. subst (λ (b : ℕ). 13 < b) (sym (get_or-take end bytes k 0 (omega (arith, l, below)))) (before k (omega (arith, l, below)))) in
    (h, says_line (name w) bytes rest tt h ends)
