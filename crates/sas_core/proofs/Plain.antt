-- Bytes without LF and CR.
use Rattle.std.proofs.lemmas.Grind.{common_steps}
use Rattle.sas_core.proofs.Imports.{◌≡◌, ◌≢◌, ℕ, Bool, true, false, not, ◌==◌, List, [], ◌∷◌, ◌++◌, length, ap, ◌∙◌, refl, arith, AllByRecursion, IsTrue, and_parts, and_from, eq-eqb, ne_eqb, list_all, list_all-append, is_plain, IsPlain, IsName}

is_not : (a : Bool) → IsTrue (not a) → a ≡ true → ⊥
is_not true h e = absurd cc
is_not false h e = absurd cc

byte_without : (b : ℕ) → IsTrue (is_plain b) → (b ≢ 10) × (b ≢ 13)
byte_without b h = grind (arith, common_steps, and_parts, is_not, eq-eqb)

-- the first byte and those after it
pub plain_parts : (b : ℕ) (bytes : List ℕ) → IsPlain (b ∷ bytes) → (b ≢ 10) × (b ≢ 13) × IsPlain bytes
plain_parts b bytes h =
    let both = and_parts (is_plain b) (list_all is_plain bytes) h in
    let first = byte_without b both.0 in
    (first.0, first.1, both.1)

pub plain_without : (bytes : List ℕ) → AllByRecursion (λ b. b ≢ 10) bytes → AllByRecursion (λ b. b ≢ 13) bytes → IsPlain bytes
plain_without [] h g = refl
plain_without (b ∷ bytes) h g =
    and_from (is_plain b) (list_all is_plain bytes)
    (and_from (not (b == 10)) (not (b == 13)) (ap not (ne_eqb b 10 h.0)) (ap not (ne_eqb b 13 g.0)))
    (plain_without bytes h.1 g.1)

pub plain-append : (a b : List ℕ) → IsPlain a → IsPlain b → IsPlain (a ++ b)
plain-append a b h g = list_all-append is_plain a b ∙ and_from (list_all is_plain a) (list_all is_plain b) h g

pub plain-name : (bytes : List ℕ) → IsName bytes → IsPlain bytes
plain-name bytes h = (and_parts (not (length bytes == 0)) (list_all is_plain bytes) h).1
