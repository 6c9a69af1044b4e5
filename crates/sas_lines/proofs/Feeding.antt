-- How a feed combines the pending bytes with those that it takes.
use Rattle.sas_lines.proofs.Imports.{◌≡◌, ℕ, ◌+◌, ◌≤◌, Bool, true, false, List, [], ◌∷◌, ◌++◌, length, take, drop, sym, arith, ap, subst, ◌∙◌, append_assoc, if◌then◌else◌, take_all, length-take, StandsFirst, without_return, lines, unfinished, NoEnd, TakesLine, Progress}
use Rattle.sas_lines.proofs.Separated.{Without-append}
use Rattle.sas_lines.proofs.Found.{up_to, in_two_at, Without-return}
use Rattle.sas_lines.proofs.Splitting.{lines-without, unfinished-without, lines-one, unfinished-one}

-- a line is begun with what was pending
pub record Begun (complete : Bool) (held : List ℕ) (seen : Progress) : Type 0 where
  pub same : (if complete then [] else held) ≡ seen.pending
  pub plain : NoEnd seen.pending

pub begun : (complete : Bool) (held : List ℕ) (seen : Progress) → NoEnd held → (let p : Progress = record { line = if complete then held else []; pending = if complete then [] else held } in p) ≡ seen → Begun complete held seen
begun true held seen h e = let same = ap (λ (p : Progress). p.pending) e in record { same = same; plain = subst NoEnd same tt }
begun false held seen h e = let same = ap (λ (p : Progress). p.pending) e in record { same = same; plain = subst NoEnd same h }

-- up to and with the first LF
pub takes_line : (piece : List ℕ) (place : ℕ) → StandsFirst 10 piece place → TakesLine piece (place + 1) true
takes_line piece place f = (take place piece, drop (place + 1) piece, f.before, in_two_at 10 piece place f, let w = f.within in omega (arith, w, length-take place piece))

pub lines_of_part : (pending piece : List ℕ) (n : ℕ) → NoEnd pending → NoEnd piece → length piece ≤ n → lines (pending ++ take n piece) ≡ []
lines_of_part pending piece n h g all = rw (take_all n piece all) (lines-without (pending ++ piece) (Without-append 10 pending piece h g))

pub unfinished_of_part : (pending piece : List ℕ) (n : ℕ) → NoEnd pending → NoEnd piece → length piece ≤ n → unfinished (pending ++ take n piece) ≡ pending ++ piece
unfinished_of_part pending piece n h g all = rw (take_all n piece all) (unfinished-without (pending ++ piece) (Without-append 10 pending piece h g))

up_to_end : (pending piece : List ℕ) (place : ℕ) → StandsFirst 10 piece place → pending ++ take (place + 1) piece ≡ (pending ++ take place piece) ++ 10 ∷ []
up_to_end pending piece place f = ap (λ (l : List ℕ). pending ++ l) (up_to 10 piece place f) ∙ sym (append_assoc pending (take place piece) (10 ∷ []))

pub lines_of_end : (pending piece : List ℕ) (place : ℕ) → NoEnd pending → StandsFirst 10 piece place → lines (pending ++ take (place + 1) piece) ≡ without_return (pending ++ take place piece) ∷ []
lines_of_end pending piece place h f = ap lines (up_to_end pending piece place f) ∙ lines-one (pending ++ take place piece) (Without-append 10 pending (take place piece) h f.before)

pub unfinished_of_end : (pending piece : List ℕ) (place : ℕ) → NoEnd pending → StandsFirst 10 piece place → unfinished (pending ++ take (place + 1) piece) ≡ []
unfinished_of_end pending piece place h f = ap unfinished (up_to_end pending piece place f) ∙ unfinished-one (pending ++ take place piece) (Without-append 10 pending (take place piece) h f.before)

-- the line that is held then is plain
pub plain_line : (pending piece : List ℕ) (place : ℕ) → NoEnd pending → StandsFirst 10 piece place → NoEnd (without_return (pending ++ take place piece))
plain_line pending piece place h f = Without-return 10 (pending ++ take place piece) (Without-append 10 pending (take place piece) h f.before)

pub ruleset feeding = (begun, takes_line, lines_of_part, unfinished_of_part, lines_of_end, unfinished_of_end, plain_line, Without-append)
