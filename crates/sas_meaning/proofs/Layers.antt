-- Which variables the conditions of a layer's rules may mention.
use Rattle.sas_meaning.proofs.Imports.{rules, ◌≡◌, ◌≢◌, ℕ, zero, suc, ◌<◌, ◌≤◌, ◌==◌, ◌⊎◌, Bool, true, false, cond, List, [], ◌∷◌, length, get_or, Option, None, Some, refl, sym, ◌∙◌, inl, inr, arith, eqb_tells, slice_get, option_map_or, option_and_then, Variable, Fact, Effect, Parts, layer_of, IsBasic, IsOnLayer, default_of, LooksDown, IsLayered, is_on_layer, new_value_of, value_with, IsClosed, SameBasic}

-- a variable is on the layer or off it, and the test shows which
option_shows : (o : Option ℕ) (layer : ℕ) → ((o ≡ Some layer) × (option_map_or (λ m. m == layer) o false ≡ true)) ⊎ ((o ≢ Some layer) × (option_map_or (λ m. m == layer) o false ≡ false))
option_shows h1 layer = grind (arith, eqb_tells)

pub layer_decides : (t : Parts) (layer v : ℕ) → (IsOnLayer t layer v × (is_on_layer t layer v ≡ true)) ⊎ ((IsOnLayer t layer v → ⊥) × (is_on_layer t layer v ≡ false))
layer_decides t layer v = option_shows (layer_of t.variables v) layer

pub given_on : (t : Parts) (layer : ℕ) (s : List ℕ) (set : ℕ → Bool) (v : ℕ) → IsOnLayer t layer v → value_with t layer s set v ≡ cond (set v) (new_value_of t v) (default_of t v)
given_on t layer s set v on = elim (layer_decides t layer v) [ inl w ↦ rw w.1 | inr w ↦ absurd (w.0 on) ]

pub given_off : (t : Parts) (layer : ℕ) (s : List ℕ) (set : ℕ → Bool) (v : ℕ) → (IsOnLayer t layer v → ⊥) → value_with t layer s set v ≡ get_or s v 0
given_off t layer s set v off = elim (layer_decides t layer v) [ inl w ↦ absurd (off w.0) | inr w ↦ rw w.1 ]

-- a variable is basic or on some layer
option_cases : (o : Option ℕ) → (o ≡ None) ⊎ ((m : ℕ) × (o ≡ Some m))
option_cases None = inl refl
option_cases (Some m) = inr (m, refl)

pub layer_cases : (t : Parts) (v : ℕ) → IsBasic t v ⊎ ((m : ℕ) × IsOnLayer t m v)
layer_cases t v = option_cases (layer_of t.variables v)

-- a variable is on one layer
pub one_layer : (t : Parts) (v a b : ℕ) → IsOnLayer t a v → IsOnLayer t b v → a ≡ b
one_layer t v a b x y = let e : Some a ≡ Some b = sym x ∙ y in cc

-- two states that have the same values in the basic variables and on the layers below n
pub record AgreeBelow (t : Parts) (n : ℕ) (s s' : List ℕ) : Type 0 where
  pub basic : SameBasic t s s'
  pub derived : (v m : ℕ) → m < n → IsOnLayer t m v → get_or s v 0 ≡ get_or s' v 0

-- a condition of a rule on the layer is not above it
pub looks_down : (t : Parts) (rule : Effect) (c : Fact) (below here : ℕ) → LooksDown t rule.var c → IsOnLayer t below c.var → IsOnLayer t here rule.var → below ≤ here
looks_down t rule c below here h b r = (h here below r b).0

-- what a set gives to the conditions of a rule on the layer depends on the basic variables and the
-- layers below alone
given_agrees : (t : Parts) (layer : ℕ) (s s' : List ℕ) (set : ℕ → Bool) (rule : Effect) (c : Fact) → AgreeBelow t layer s s' → IsOnLayer t layer rule.var → LooksDown t rule.var c
    → value_with t layer s set c.var ≡ value_with t layer s' set c.var
given_agrees t layer s s' set rule c agree on down = search (rules, arith, layer_decides, given_on, given_off, layer_cases)

pub closed_agrees : (t : Parts) (layer : ℕ) (s s' : List ℕ) (set : ℕ → Bool) → IsLayered t → AgreeBelow t layer s s' → IsClosed t layer s set → IsClosed t layer s' set
closed_agrees t layer s s' set layered agree closed k d lt on fire hold =
    closed k d lt on fire (λ j e lt'. given_agrees t layer s s' set (get_or t.rules k d) (get_or (get_or t.rules k d).conditions j e) agree on ((layered.rules k d lt fire).order j e lt') ∙ hold j e lt')

pub agree_sym : (t : Parts) (n : ℕ) (s s' : List ℕ) → AgreeBelow t n s s' → AgreeBelow t n s' s
agree_sym t n s s' a = record { basic = λ v b. sym (a.basic v b); derived = λ v m lt on. sym (a.derived v m lt on) }

-- a derived variable exists
pub on_layer_within : (t : Parts) (layer v : ℕ) → IsOnLayer t layer v → v < length t.variables
on_layer_within t layer v on = within t.variables v on
  where
    within : (vs : List Variable) (v : ℕ) → option_and_then (λ (x : Variable). x.layer) (slice_get vs v) ≡ Some layer → v < length vs
    within [] v e = absurd cc
    within (x ∷ xs) zero e = omega arith
    within (x ∷ xs) (suc v) e = let ih = within xs v e in omega arith
