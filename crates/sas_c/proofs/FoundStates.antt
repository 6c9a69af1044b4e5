-- What is returned of a state that was found.
use Rattle.sas_c.proofs.Imports.{◌≡◌, ℕ, ◌<◌, Bool, true, false, List, length, refl, ap, arith, inl, inr, Option, Some, None, ReturnsState}

-- more values than the room has
pub state_longer : (values : List ℕ) (all : Bool) (before room : List ℕ) (size : ℕ) → length before < length values → room ≡ before → size ≡ length values
    → ReturnsState (λ (found : Option (List ℕ × Bool)). found ≡ Some (values, all)) before room size 2
state_longer values all before room size longer same long =
    let as_long : length room ≡ length before = ap (λ (xs : List ℕ). length xs) same in record {
      all = λ e. absurd (omega arith);
      stuck = λ e. absurd (omega arith);
      longer = λ e. (values, all, refl, long, omega arith);
      known = omega arith;
      behind = λ e. absurd (omega arith);
      same = λ e. same;
      as_long = as_long;
    }

-- what is returned of one is returned of another that follows from it
pub state_by : (A B : Option (List ℕ × Bool) → Type 0) → ((found : Option (List ℕ × Bool)) → A found → B found) → (before room : List ℕ) (size number : ℕ) → ReturnsState A before room size number → ReturnsState B before room size number
state_by A B to before room size number t = record {
  all = λ e. let x = t.all e in (x.0, to (Some (x.0, true)) x.1, x.2, x.3);
  stuck = λ e. elim (t.stuck e) [
    | inl x ↦ inl (x.0, to (Some (x.0, false)) x.1, x.2, x.3)
    | inr x ↦ inr (to None x.0, x.1)
  ];
  longer = λ e. let x = t.longer e in (x.0, x.1, to (Some (x.0, x.1)) x.2, x.3, x.4);
  known = t.known;
  behind = t.behind;
  same = t.same;
  as_long = t.as_long;
}
