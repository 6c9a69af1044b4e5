-- Prefixes and suffixes of lists.
use Rattle.sas_reader.proofs.Imports.{◌≡◌, ℕ, ◌-◌, true, false, List, ◌++◌, length, take, drop, sym, ap, ◌∙◌, arith, length-append, Option, None, Some, nat_eq, MatchOption, pointwise, same_text, other_text, take-append-drop, drop-append_seam}

pub match_option : {X : Type 0} (o : Option X) (P P' : Type 0) (Q Q' : X → Type 0) → MatchOption o P Q → (P → P') → ((x : X) → Q x → Q' x) → MatchOption o P' Q'
match_option None P P' Q Q' h f g = f h
match_option (Some x) P P' Q Q' h f g = g x h

pub begins : (line front rest : List ℕ) → pointwise nat_eq (take (length front) line) front ≡ true → rest ≡ drop (length front) line → line ≡ front ++ rest
begins line front rest h e = sym (take-append-drop (length front) line) ∙ ap (λ (x : List ℕ). x ++ drop (length front) line) (same_text _ _ (sym h)) ∙ ap (λ (x : List ℕ). front ++ x) (sym e)

pub begins_not : (line front : List ℕ) → pointwise nat_eq (take (length front) line) front ≡ false → take (length front) line ≡ front → ⊥
begins_not line front h e = other_text _ _ (sym h) e

pub ends : (line back rest : List ℕ) → pointwise nat_eq (drop (length line - length back) line) back ≡ true → rest ≡ take (length line - length back) line → line ≡ rest ++ back
ends line back rest h e = sym (take-append-drop (length line - length back) line) ∙ ap (λ (x : List ℕ). take (length line - length back) line ++ x) (same_text _ _ (sym h)) ∙ ap (λ (x : List ℕ). x ++ back) (sym e)

pub ends_not : (line back : List ℕ) → pointwise nat_eq (drop (length line - length back) line) back ≡ false → (rest : List ℕ) → line ≡ rest ++ back → ⊥
ends_not line back h rest e =
    let n : length line - length back ≡ length rest = omega (arith, ap length e, length-append rest back) in
    other_text _ _ (sym h) (ap (λ (k : ℕ). drop k line) n ∙ ap (drop (length rest)) e ∙ drop-append_seam rest back)

pub ruleset fronts = (match_option, begins, begins_not, ends, ends_not)
