-- One more step succeeds or fails.
use Rattle.sas_run.proofs.Imports.{◌≡◌, ℕ, Result, Err, ◌+◌, ◌<◌, List, [], ◌∷◌, ◌++◌, length, take, drop, get_or, sym, ap, ◌∙◌, arith, take-append-drop, drop_more, common_steps, Parts, operator_at, Step, IsChosen, LeadFrom, LeadsTo}

-- the name means this operator in the state s, and its step leads to s'
pub record MakesStep (p : Parts) (s name : List ℕ) (operator : ℕ) (s' : List ℕ) : Type 0 where
  pub chosen : IsChosen p s name operator
  pub step : Step p s (operator_at p operator) s'

pub goes_one_more : (p : Parts) (s : List ℕ) (names : List (List ℕ)) (operators mid : List ℕ) (name : List ℕ) (operator : ℕ) (next : List ℕ)
    → LeadFrom p s names operators mid → MakesStep p mid name operator next → LeadFrom p s (names ++ name ∷ []) (operators ++ operator ∷ []) next
goes_one_more p s [] [] mid name operator next goes on = grind (arith, common_steps)
goes_one_more p s [] (o ∷ operators) mid name operator next goes on = absurd goes
goes_one_more p s (n ∷ names) [] mid name operator next goes on = absurd goes
goes_one_more p s (n ∷ names) (o ∷ operators) mid name operator next (there, chosen, step, rest) on =
    (there, chosen, step, goes_one_more p there names operators mid name operator next rest on)

-- so there is one more executable step
pub leads_one_more : (p : Parts) (names : List (List ℕ)) (operators s name : List ℕ) (operator : ℕ) (next : List ℕ)
    → LeadsTo p names operators s → MakesStep p s name operator next → LeadsTo p (names ++ name ∷ []) (operators ++ operator ∷ []) next
leads_one_more p names operators s name operator next leads on = grind (arith, common_steps, goes_one_more)

-- a list around the item at a place
pub around : {X : Type 0} (xs : List X) (i : ℕ) (d : X) → i < length xs → xs ≡ take i xs ++ get_or xs i d ∷ drop (i + 1) xs
around xs i d lt = sym (take-append-drop i xs) ∙ ap (λ ys. take i xs ++ ys) (drop_more xs i d lt)

pub length_of_take : {X : Type 0} (xs : List X) (i : ℕ) → i < length xs → length (take i xs) ≡ i
length_of_take xs i lt = grind (arith, common_steps)

-- `?` passes on the fault
pub passed_on : {A E : Type 0} (result : Result A E) (fault : E) → (f : E) × (result ≡ Err f) × (f ≡ fault) → result ≡ Err fault
passed_on {E = E} result fault (f, is, same) = is ∙ ap (λ (x : E). Err x) same
