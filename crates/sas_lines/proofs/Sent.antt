-- The bytes that two writes sent.
use Rattle.sas_lines.proofs.Imports.{◌+◌, ◌-◌, ℕ, List, ◌++◌, length, take, drop, Option, sym, ap, subst, ◌∙◌, take-add, take_rest, Appends, Appends-trans}

pub sent_more : (before between after : Option (List ℕ)) (bytes : List ℕ) (written n : ℕ) → Appends before between (take written bytes) → Appends between after (take n (take (length bytes - written) (drop written bytes))) → Appends before after (take (written + n) bytes)
sent_more before between after bytes written n first second =
    let joined = take-add written n bytes ∙ ap (λ (l : List ℕ). take written bytes ++ take n l) (sym (take_rest bytes written)) in
    subst (Appends before after) (sym joined) (Appends-trans _ _ _ _ _ first second)
