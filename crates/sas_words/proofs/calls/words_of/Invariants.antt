-- The words so far are the first of the names.
use Rattle.std.proofs.Common.{◌≡◌, ℕ, List, Bor, map, take}
use Rattle.sas_words.specs.Calls.{bytes_of_words}
use Rattle.sas_words.proofs.calls.words_of.Given as goal

abbrev pub invariant-loop-name : goal.invariant-loop-name
invariant-loop-name l = bytes_of_words l.words.items ≡ map (λ (name : Bor (List ℕ)). name.now) (take l.name-index l.names)
