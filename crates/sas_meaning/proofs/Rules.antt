-- The new value of the rules of a variable.
use Rattle.sas_meaning.proofs.Imports.{common_steps, ◌≡◌, ℕ, zero, suc, ◌<◌, ◌==◌, ◌&&◌, Bool, true, false, List, [], ◌∷◌, length, get_or, Some, refl, inl, inr, arith, cases_Bool, eqb_tells, find, option_map_or, Effect, Parts, CanFire, can_fire, IsLayered, new_value_of}

-- what `find` finds, where an element passes
pub record Found {X : Type 0} (p : X → Bool) (xs : List X) (d : X) : Type 0 where
  pub it : X
  pub found : find p xs ≡ Some it
  pub passes : p it ≡ true
  pub place : ℕ
  pub within : place < length xs
  pub there : get_or xs place d ≡ it

pub find_passing : {X : Type 0} (p : X → Bool) (xs : List X) (k : ℕ) (d : X) → k < length xs → p (get_or xs k d) ≡ true → Found p xs d
find_passing p [] k d lt e = absurd (omega arith)
find_passing {X} p (x ∷ xs) zero d lt e = record { it = x; found = rw e refl; passes = e; place = 0; within = omega arith; there = refl }
find_passing {X} p (x ∷ xs) (suc k) d lt e = elim (cases_Bool (p x)) [
  | inl y ↦ record { it = x; found = rw y refl; passes = y; place = 0; within = omega arith; there = refl }
  | inr n ↦ later n (find_passing p xs k d (omega arith) e)
]
  where
    later : p x ≡ false → Found p xs d → Found p (x ∷ xs) d
    later n f = record { it = f.it; found = rw n f.found; passes = f.passes; place = suc f.place; within = let w = f.within in omega arith; there = f.there }

-- in a layered task each rule that can fire has the new value of its variable's rules
pub new_value_is : (t : Parts) (k : ℕ) (d : Effect) → IsLayered t → k < length t.rules → CanFire t (get_or t.rules k d)
    → new_value_of t (get_or t.rules k d).var ≡ (get_or t.rules k d).new
new_value_is t k d layered lt fire = from (find_passing test t.rules k d lt (passes (get_or t.rules k d) refl fire))
  where
    v : ℕ
    v = (get_or t.rules k d).var

    test : Effect → Bool
    test = λ rule. (rule.var == (get_or t.rules k d).var) && can_fire t rule

    passes : (rule : Effect) → rule.var ≡ (get_or t.rules k d).var → CanFire t rule → test rule ≡ true
    passes rule e f = grind (arith, common_steps, eqb_tells)

    covered : (rule : Effect) → test rule ≡ true → (rule.var ≡ (get_or t.rules k d).var) × CanFire t rule
    covered rule e = grind (arith, common_steps, eqb_tells)

    from : Found test t.rules d → new_value_of t (get_or t.rules k d).var ≡ (get_or t.rules k d).new
    from f = grind (arith, common_steps, covered, option_map_or)
