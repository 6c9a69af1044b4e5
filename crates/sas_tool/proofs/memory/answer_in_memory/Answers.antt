-- What is known of the two files.
use Rattle.std.proofs.Common.{◌≡◌, ℕ, Bool, true, false, List, cond, refl, bytes_eq, codes}
use Rattle.std.proofs.lemmas.Slice.Eq.{bytes_eq-Decides}
use Rattle.sas_tool.specs.Held.{Held, absent, holds}
use Rattle.sas_tool.proofs.memory.answer_in_memory.Goals as goal

abbrev held : (List ℕ) → (List ℕ) → (List ℕ) → (List ℕ) → List ℕ → Held
held first b second c name = cond (bytes_eq name first) (holds b) (cond (bytes_eq name second) (holds c) absent)

differs : (a b : List ℕ) → (a ≡ b → ⊥) → bytes_eq a b ≡ false
differs a b other = go (bytes_eq a b) refl
  where
    go : (x : Bool) → bytes_eq a b ≡ x → x ≡ false
    go true e = absurd (other ((bytes_eq-Decides a b).0 e))
    go false e = refl

same : (a : List ℕ) → bytes_eq a a ≡ true
same a = (bytes_eq-Decides a a).1 refl

pub returns : goal.returns
returns g c = λ before not_input not_input' other call ew.
    let first = c.args.files.first.0.now in
    let second = c.args.files.second.0.now in
    c.answer_words.ensures.headline false first second c.args.files.first.1.now c.args.files.second.1.now before call
    (rw (differs first (codes "-") not_input, same first) refl)
    (rw (differs second (codes "-") not_input', differs second first other, same second) refl) ew
