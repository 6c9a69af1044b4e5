-- The first lines of some bytes.
use Rattle.sas_lines.proofs.Imports.{◌≡◌, ℕ, ◌-◌, ◌⊎◌, inl, inr, List, [], ◌∷◌, ◌++◌, length, length-append, append_assoc, take, refl, sym, ap, ap₂, subst, ◌∙◌, arith, take_at, AllByRecursion, without_return, lines, unfinished, EndedLines, LinesStandFirst}
use Rattle.sas_lines.proofs.Separated.{Without-append}
use Rattle.sas_lines.proofs.Splitting.{Plain, lines-append, unfinished-append, lines-none, unfinished-none, lines-one, unfinished-one}

-- the bytes are a front, whose lines are these, and the rest
pub record FrontOf (ls : List (List ℕ)) (rest bytes : List ℕ) : Type 0 where
  pub front : List ℕ
  pub are : bytes ≡ front ++ rest
  pub lines : lines front ≡ ls
  pub whole : unfinished front ≡ []

pub return_dropped : (line : List ℕ) → without_return (line ++ 13 ∷ []) ≡ line
return_dropped [] = refl
return_dropped (b ∷ []) = refl
return_dropped (b ∷ c ∷ line) = ap (λ (x : List ℕ). b ∷ x) (return_dropped (c ∷ line))

-- one line with its end
pub front_of_line : (line rest bytes : List ℕ) → Plain line → (bytes ≡ line ++ 10 ∷ rest) ⊎ (bytes ≡ line ++ 13 ∷ 10 ∷ rest) → FrontOf (line ∷ []) rest bytes
front_of_line line rest bytes h (inl e) = record {
  front = line ++ 10 ∷ [];
  are = e ∙ sym (append_assoc line (10 ∷ []) rest);
  lines = lines-one line h.no_end ∙ ap (λ (l : List ℕ). l ∷ []) h.no_return;
  whole = unfinished-one line h.no_end;
}
front_of_line line rest bytes h (inr e) =
    let none = Without-append 10 line (13 ∷ []) h.no_end ((λ e. omega (arith, e)), tt) in
    record {
      front = (line ++ 13 ∷ []) ++ 10 ∷ [];
      are = e ∙ sym (append_assoc line (13 ∷ []) (10 ∷ rest)) ∙ sym (append_assoc (line ++ 13 ∷ []) (10 ∷ []) rest);
      lines = lines-one (line ++ 13 ∷ []) none ∙ ap (λ (l : List ℕ). l ∷ []) (return_dropped line);
      whole = unfinished-one (line ++ 13 ∷ []) none;
    }

-- lines, each with its end
pub front_of_lines : (ls : List (List ℕ)) (rest bytes : List ℕ) → AllByRecursion Plain ls → EndedLines ls rest bytes → FrontOf ls rest bytes
front_of_lines [] rest bytes h e = record { front = []; are = e; lines = lines-none; whole = unfinished-none }
front_of_lines (l ∷ ls) rest bytes h e =
    let first = front_of_line l e.0 bytes h.0 e.1 in
    let more = front_of_lines ls rest e.0 h.1 e.2 in
    record {
      front = first.front ++ more.front;
      are = first.are ∙ ap (λ (x : List ℕ). first.front ++ x) more.are ∙ sym (append_assoc first.front more.front rest);
      lines = lines-append first.front more.front ∙ ap (λ (u : List ℕ). lines first.front ++ lines (u ++ more.front)) first.whole ∙ ap₂ (λ (x y : List (List ℕ)). x ++ y) first.lines more.lines;
      whole = unfinished-append first.front more.front ∙ ap (λ (u : List ℕ). unfinished (u ++ more.front)) first.whole ∙ more.whole;
    }

pub lines_stand_first : (bytes rest : List ℕ) (ls : List (List ℕ)) → AllByRecursion Plain ls → EndedLines ls rest bytes → LinesStandFirst bytes ls (length bytes - length rest)
lines_stand_first bytes rest ls plain e =
    let f = front_of_lines ls rest bytes plain e in
    let n = length bytes - length rest in
    let up_to : take n bytes ≡ f.front = ap (take n) f.are ∙ take_at f.front rest n (omega (arith, ap length f.are, length-append f.front rest)) in
    record { within = omega arith; lines = ap lines up_to ∙ f.lines; rest = ap unfinished up_to ∙ f.whole }

-- lines, then more
pub ended_lines_then : (a b : List (List ℕ)) (bytes more rest : List ℕ) → EndedLines a more bytes → EndedLines b rest more → EndedLines (a ++ b) rest bytes
ended_lines_then [] b bytes more rest h g = subst (EndedLines b rest) (sym h) g
ended_lines_then (l ∷ a) b bytes more rest h g = (h.0, h.1, ended_lines_then a b h.0 more rest h.2 g)

-- the first line is the bytes before the LF, without a CR at their end
pub line_before_end : (line rest bytes : List ℕ) → Plain line → EndedLines (line ∷ []) rest bytes → line ≡ without_return (take (length bytes - length rest - 1) bytes)
line_before_end line rest bytes h e = before line rest bytes h (subst (λ (l : List ℕ). (bytes ≡ line ++ 10 ∷ l) ⊎ (bytes ≡ line ++ 13 ∷ 10 ∷ l)) e.2 e.1)
  where
    up_to : (front rest bytes : List ℕ) → bytes ≡ front ++ 10 ∷ rest → take (length bytes - length rest - 1) bytes ≡ front
    up_to front rest bytes e =
        let n = length bytes - length rest - 1 in
        ap (take n) e ∙ take_at front (10 ∷ rest) n (omega (arith, ap length e, length-append front (10 ∷ rest)))

    before : (line rest bytes : List ℕ) → Plain line → (bytes ≡ line ++ 10 ∷ rest) ⊎ (bytes ≡ line ++ 13 ∷ 10 ∷ rest) → line ≡ without_return (take (length bytes - length rest - 1) bytes)
    before line rest bytes h (inl e) = sym (ap without_return (up_to line rest bytes e) ∙ h.no_return)
    before line rest bytes h (inr e) = sym (ap without_return (up_to (line ++ 13 ∷ []) rest bytes (e ∙ sym (append_assoc line (13 ∷ []) (10 ∷ rest)))) ∙ return_dropped line)
