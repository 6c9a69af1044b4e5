-- Bytes that are placed behind others, call after call.
use Rattle.sas_answers.proofs.Imports.{◌≡◌, ℕ, ◌+◌, ◌/◌, ◌%◌, ◌≤◌, ◌<◌, List, [], ◌∷◌, ◌++◌, length, take, set, append_assoc, length-append, arith, refl, sym, ap, subst, ◌∙◌, Option, Some, None, decimal, decimal_digit, decimal_step, take-set_at, length-take-le, take-take, take-append-le, length-set, Places, PlacesOrLeaves}

module _ (old mid new : List ℕ) (a at : ℕ) (x : List ℕ) where
  -- behind bytes that were placed, others were placed, or there was no room for them
  pub places_then : (y : List ℕ) (end : ℕ) → Places old mid a x at → Places mid new at y end → Places old new a (x ++ y) end
  places_then y end first second = record {
    front = second.front ∙ ap (λ (l : List ℕ). l ++ y) first.front ∙ append_assoc (take a old) x y;
    within = second.within;
  }

  leaves_then : a ≤ length old → Places old mid a x at → take at new ≡ take at mid → take a new ≡ take a old
  leaves_then room first second =
      let front : take at new ≡ take a old ++ x = second ∙ first.front in
      let long_mid : length (take at mid) ≡ at = length-take-le at mid first.within in
      let long_old : length (take a old) ≡ a = length-take-le a old room in
      let long : length (take at mid) ≡ length (take a old) + length x = ap length first.front ∙ length-append (take a old) x in
      let further : a ≤ at = omega (arith, long_mid, long_old, long) in
      let stays : a ≤ length (take a old) = omega (arith, long_old) in
      sym (take-take a at new further) ∙ ap (take a) front ∙ take-append-le a (take a old) x stays ∙ take-take a a old (omega arith)

  pub placed_then : (y : List ℕ) (result : Option ℕ) → a ≤ length old → PlacesOrLeaves old mid a x (Some at) → PlacesOrLeaves mid new at y result
      → PlacesOrLeaves old new a (x ++ y) result
  placed_then y (Some end) room first second = record { as_long = second.as_long ∙ first.as_long; places = places_then y end first.places second.places }
  placed_then y None room first second = record { as_long = second.as_long ∙ first.as_long; places = leaves_then room first.places second.places }

  -- without room for what follows the first bytes stay
  pub placed_then_none : (y whole : List ℕ) (result : Option ℕ) → a ≤ length old → PlacesOrLeaves old mid a x (Some at)
      → PlacesOrLeaves mid new at y None → result ≡ None → PlacesOrLeaves old new a whole result
  placed_then_none y whole result room first second none =
      rw none record { as_long = second.as_long ∙ first.as_long; places = leaves_then room first.places second.places }

-- the same bytes in other words
pub places_as : (old new : List ℕ) (at : ℕ) (x whole : List ℕ) (result : Option ℕ) → x ≡ whole → PlacesOrLeaves old new at x result → PlacesOrLeaves old new at whole result
places_as old new at x whole result e places = subst (λ (l : List ℕ). PlacesOrLeaves old new at l result) e places

-- bytes that were written one by one
byte_placed : (p : List ℕ) (at end x : ℕ) → end ≡ at + 1 → end ≤ length p → Places p (set p at x) at (x ∷ []) end
byte_placed p at end x e fits = record { front = take-set_at p at end x (omega (arith, e)) (omega (arith, e, fits)); within = omega (arith, length-set p at x, fits) }

pub two_placed : (p : List ℕ) (at x y : ℕ) → at + 2 ≤ length p → Places p (set (set p at x) (at + 1) y) at (x ∷ y ∷ []) (at + 2)
two_placed p at x y fits =
    places_then _ _ _ _ _ _ _ _ (byte_placed p at (at + 1) x refl (omega arith))
    (byte_placed (set p at x) (at + 1) (at + 2) y (omega arith) (omega (arith, length-set p at x, fits)))

three_placed : (p : List ℕ) (at x y z : ℕ) → at + 3 ≤ length p → Places p (set (set (set p at x) (at + 1) y) (at + 2) z) at (x ∷ y ∷ z ∷ []) (at + 3)
three_placed p at x y z fits =
    places_then _ _ _ _ _ _ _ _ (two_placed p at x y (omega arith))
    (byte_placed (set (set p at x) (at + 1) y) (at + 2) (at + 3) z (omega arith) (omega (arith, length-set p at x, length-set (set p at x) (at + 1) y, fits)))

-- a space and a number of one digit or of two
pub one_digit_placed : (p : List ℕ) (at n : ℕ) → at + 3 ≤ length p → n < 10 → Places p (set (set p at 32) (at + 1) (48 + n)) at (32 ∷ decimal n) (at + 2)
one_digit_placed p at n fits small =
    subst (λ (l : List ℕ). Places p (set (set p at 32) (at + 1) (48 + n)) at (32 ∷ l) (at + 2)) (sym (decimal_digit n small)) (two_placed p at 32 (48 + n) (omega arith))

pub two_digits_placed : (p : List ℕ) (at n : ℕ) → at + 3 ≤ length p → 10 ≤ n → n < 100 → Places p (set (set (set p at 32) (at + 1) (48 + n / 10)) (at + 2) (48 + n % 10)) at (32 ∷ decimal n) (at + 3)
two_digits_placed p at n fits large small =
    let tens : decimal (n / 10) ≡ (48 + n / 10) ∷ [] = decimal_digit (n / 10) (omega arith) in
    let digits : decimal n ≡ (48 + n / 10) ∷ (48 + n % 10) ∷ [] = decimal_step n large (omega arith) ∙ ap (λ (l : List ℕ). l ++ (48 + n % 10) ∷ []) tens in
    subst (λ (l : List ℕ). Places p (set (set (set p at 32) (at + 1) (48 + n / 10)) (at + 2) (48 + n % 10)) at (32 ∷ l) (at + 3)) (sym digits)
    (three_placed p at 32 (48 + n / 10) (48 + n % 10) fits)
