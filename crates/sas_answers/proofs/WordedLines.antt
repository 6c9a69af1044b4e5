-- Outputs that are one line with its own words and the answer no.
use Rattle.sas_answers.proofs.Imports.{◌≡◌, ℕ, List, refl, sym, ap, Some, None, Option, option_map, none-some, No, Output}

-- the output is a line with these words, and the answer is no
pub record IsWorded (words : Option (List ℕ)) (line_of : List ℕ → List ℕ) (o : Output) : Type 0 where
  pub said : List ℕ
  pub among : words ≡ Some said
  pub status : o.status ≡ No
  pub text : o.text ≡ line_of said

pub worded : (words : Option (List ℕ)) (line_of : List ℕ → List ℕ) (o : Output) → option_map (λ w. record { text = line_of w; status = No }) words ≡ Some o → IsWorded words line_of o
worded None line_of o is = absurd (none-some o is)
worded (Some w) line_of o is =
    let same : (record { text = line_of w; status = No }) ≡ o = cc in
    record { said = w; among = refl; status = sym (ap (λ (x : Output). x.status) same); text = sym (ap (λ (x : Output). x.text) same) }
