-- From a layer to all layers.
use Rattle.sas_meaning.proofs.Imports.{common_steps, ◌≡◌, ◌≢◌, ℕ, suc, ◌<◌, ◌≤◌, ◌==◌, Bool, true, not, cond, List, length, get_or, sym, ◌∙◌, ap, inl, inr, arith, cases_lt, Effect, Parts, IsOnLayer, default_of, IsLayered, IsClosed, differs, IsSettledAt, IsSettled, SameBasic, OnlyForced, HasFired, SameOff, AtDefault, Occurs}
use Rattle.sas_meaning.proofs.Layers.{AgreeBelow, agree_sym, closed_agrees, layer_decides, given_on, given_off}
use Rattle.sas_meaning.proofs.Forced.{closed_when_fired, differs_not}

-- where all is at its default, nothing is forced yet
pub forced_at_default : (t : Parts) (layer : ℕ) (s : List ℕ) → AtDefault t layer s → OnlyForced t layer s
forced_at_default t layer s at = grind (arith, common_steps, differs_not)

pub settled_when_fired : (t : Parts) (layer : ℕ) (s : List ℕ) → OnlyForced t layer s → ((k : ℕ) (d : Effect) → k < length t.rules → HasFired t layer s (get_or t.rules k d)) → IsSettledAt t layer s
settled_when_fired t layer s forced done = record { new = forced.new; closed = closed_when_fired t layer s forced done; least = forced.least }

-- a layer without a variable is settled in every state
pub settled_where_empty : (t : Parts) (layer : ℕ) (s : List ℕ) → (Occurs t layer → ⊥) → IsSettledAt t layer s
settled_where_empty t layer s none = grind (arith, common_steps)

-- of a set only the variables on the layer count
closed_same_set : (t : Parts) (layer : ℕ) (s : List ℕ) (a b : ℕ → Bool) → ((v : ℕ) → IsOnLayer t layer v → a v ≡ b v) → IsClosed t layer s a → IsClosed t layer s b
closed_same_set t layer s a b same closed k d lt on fire hold = grind (arith, common_steps, layer_decides, given_off, given_on, cond)

-- whether a layer is settled depends on the basic variables and on the layers up to it
pub settled_agrees : (t : Parts) (layer : ℕ) (s s' : List ℕ) → IsLayered t → AgreeBelow t (suc layer) s s' → IsSettledAt t layer s → IsSettledAt t layer s'
settled_agrees t layer s s' layered agree a = record {
  new = λ v on d. sym (here v on) ∙ a.new v on (back v on d);
  closed = closed_same_set t layer s' (differs t s) (differs t s') same (closed_agrees t layer s s' (differs t s) layered below a.closed);
  least = λ set closed v on d. a.least set (closed_agrees t layer s' s set layered (agree_sym t layer s s' below) closed) v on (back v on d);
}
  where
    here : (v : ℕ) → IsOnLayer t layer v → get_or s v 0 ≡ get_or s' v 0
    here v on = agree.derived v layer (omega arith) on

    below : AgreeBelow t layer s s'
    below = record { basic = agree.basic; derived = λ v m lt on. agree.derived v m (omega arith) on }

    same : (v : ℕ) → IsOnLayer t layer v → differs t s v ≡ differs t s' v
    same v on = ap (λ x. not (x == default_of t v)) (here v on)

    back : (v : ℕ) → IsOnLayer t layer v → differs t s' v ≡ true → differs t s v ≡ true
    back v on d = same v on ∙ d

-- how a layer that was just settled leaves the others
module _ (t : Parts) (layer : ℕ) (s s' : List ℕ) (layered : IsLayered t) (off : SameOff t layer s s') where
  other_layer : (m v : ℕ) → m ≢ layer → IsOnLayer t m v → get_or s v 0 ≡ get_or s' v 0
  other_layer m v ne on = off v (λ on'. let e = on in let f = on' in let g : m ≡ layer = cc in ne g)

  pub basic_off : SameBasic t s s'
  basic_off v b = off v (λ on. let e = b in let f = on in cc)

  pub default_off : (m : ℕ) → m ≢ layer → AtDefault t m s → AtDefault t m s'
  default_off m ne at v on = sym (other_layer m v ne on) ∙ at v on

  pub settled_off : (m : ℕ) → m < layer → IsSettledAt t m s → IsSettledAt t m s'
  settled_off m lt a = settled_agrees t m s s' layered
      (record { basic = basic_off; derived = λ v n lt' on. other_layer n v (omega arith) on }) a

pub all_settled : (t : Parts) (from : ℕ) (s : List ℕ) → ((m : ℕ) → m < from → IsSettledAt t m s) → ((m : ℕ) → from ≤ m → Occurs t m → ⊥) → IsSettled t s
all_settled t from s below none m = elim (cases_lt m from) [ inl lt ↦ below m lt | inr ge ↦ settled_where_empty t m s (none m ge) ]
