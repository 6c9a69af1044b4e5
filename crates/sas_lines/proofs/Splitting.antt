-- The lines of concatenated bytes.
use Rattle.sas_lines.proofs.Imports.{◌≡◌, ℕ, suc, ◌+◌, ◌≤◌, ◌≢◌, Bool, true, false, ◌==◌, if◌then◌else◌, length, List, [], ◌∷◌, ◌++◌, refl, sym, ap, ◌∙◌, arith, AllByRecursion, append-nil, segments, onto_first, without_return, lines_among, rest_among, lines, unfinished, text, NoEnd}
use Rattle.sas_lines.proofs.Separated.{Without-append, segments-first, segments-only, segments-some, front, segments-append, last-without}

-- ---- segments in a row

lines-front : (ps : List (List ℕ)) (q : List ℕ) (qs : List (List ℕ)) → lines_among (front ps ++ q ∷ qs) ≡ lines_among ps ++ lines_among (q ∷ qs)
lines-front [] q qs = refl
lines-front (p ∷ []) q qs = refl
lines-front (p ∷ r ∷ []) q qs = refl
lines-front (p ∷ r ∷ t ∷ ps) q qs = ap (λ (l : List (List ℕ)). without_return p ∷ l) (lines-front (r ∷ t ∷ ps) q qs)

rest-front : (ps : List (List ℕ)) (q : List ℕ) (qs : List (List ℕ)) → rest_among (front ps ++ q ∷ qs) ≡ rest_among (q ∷ qs)
rest-front [] q qs = refl
rest-front (p ∷ []) q qs = refl
rest-front (p ∷ r ∷ []) q qs = refl
rest-front (p ∷ r ∷ t ∷ ps) q qs = rest-front (r ∷ t ∷ ps) q qs

-- ---- any two byte lists

pub lines-append : (a b : List ℕ) → lines (a ++ b) ≡ lines a ++ lines (unfinished a ++ b)
unfolding lines unfinished
lines-append a b =
    let s = segments-some 10 (rest_among (segments 10 a) ++ b) in
    ap lines_among (segments-append 10 a b ∙ ap (λ (l : List (List ℕ)). front (segments 10 a) ++ l) s.are) ∙ lines-front (segments 10 a) s.first s.others ∙ ap (λ (l : List (List ℕ)). lines_among (segments 10 a) ++ lines_among l) (sym s.are)

pub unfinished-append : (a b : List ℕ) → unfinished (a ++ b) ≡ unfinished (unfinished a ++ b)
unfolding unfinished
unfinished-append a b =
    let s = segments-some 10 (rest_among (segments 10 a) ++ b) in
    ap rest_among (segments-append 10 a b ∙ ap (λ (l : List (List ℕ)). front (segments 10 a) ++ l) s.are) ∙ rest-front (segments 10 a) s.first s.others ∙ ap rest_among (sym s.are)

pub lines-none : lines [] ≡ []
unfolding lines segments
lines-none = refl

pub unfinished-none : unfinished [] ≡ []
unfolding unfinished segments
unfinished-none = refl

pub unfinished-plain_all : (bytes : List ℕ) → NoEnd (unfinished bytes)
unfolding unfinished
unfinished-plain_all bytes = last-without 10 bytes

-- ---- without a line end

pub lines-without : (w : List ℕ) → NoEnd w → lines w ≡ []
unfolding lines
lines-without w h = ap lines_among (segments-only 10 w h)

pub unfinished-without : (w : List ℕ) → NoEnd w → unfinished w ≡ w
unfolding unfinished
unfinished-without w h = ap rest_among (segments-only 10 w h)

pub lines-part : (bytes w : List ℕ) → NoEnd w → lines (bytes ++ w) ≡ lines bytes
lines-part bytes w h =
    let n = Without-append 10 (unfinished bytes) w (unfinished-plain_all bytes) h in
    lines-append bytes w ∙ ap (λ (l : List (List ℕ)). lines bytes ++ l) (lines-without (unfinished bytes ++ w) n) ∙ append-nil (lines bytes)

pub lines-plain : (bytes : List ℕ) (byte : ℕ) → byte ≢ 10 → lines (bytes ++ byte ∷ []) ≡ lines bytes
lines-plain bytes byte h = lines-part bytes (byte ∷ []) (h, tt)

pub unfinished-plain : (bytes : List ℕ) (byte : ℕ) → byte ≢ 10 → unfinished (bytes ++ byte ∷ []) ≡ unfinished bytes ++ byte ∷ []
unfinished-plain bytes byte h = unfinished-append bytes (byte ∷ []) ∙ unfinished-without (unfinished bytes ++ byte ∷ []) (Without-append 10 (unfinished bytes) (byte ∷ []) (unfinished-plain_all bytes) (h, tt))

-- ---- up to a line end

-- one line
pub return_length : (line : List ℕ) → length line ≤ length (without_return line) + 1
return_length [] = omega arith
return_length (b ∷ []) = omega arith
return_length (b ∷ c ∷ line) = let more = return_length (c ∷ line) in omega (arith, more)

pub lines-one : (w : List ℕ) → NoEnd w → lines (w ++ 10 ∷ []) ≡ without_return w ∷ []
unfolding lines segments
lines-one w h = ap lines_among (segments-first 10 w [] h)

pub unfinished-one : (w : List ℕ) → NoEnd w → unfinished (w ++ 10 ∷ []) ≡ []
unfolding unfinished segments
unfinished-one w h = ap rest_among (segments-first 10 w [] h)

pub lines-end : (bytes : List ℕ) → lines (bytes ++ 10 ∷ []) ≡ lines bytes ++ without_return (unfinished bytes) ∷ []
lines-end bytes = lines-append bytes (10 ∷ []) ∙ ap (λ (l : List (List ℕ)). lines bytes ++ l) (lines-one (unfinished bytes) (unfinished-plain_all bytes))

pub unfinished-end : (bytes : List ℕ) → unfinished (bytes ++ 10 ∷ []) ≡ []
unfinished-end bytes = unfinished-append bytes (10 ∷ []) ∙ unfinished-one (unfinished bytes) (unfinished-plain_all bytes)

-- ---- a text that is written line by line

-- a line that is read as it is written
pub record Plain (line : List ℕ) : Type 0 where
  pub no_end : NoEnd line
  pub no_return : without_return line ≡ line

pub lines-text : (ls : List (List ℕ)) → AllByRecursion Plain ls → lines (text ls) ≡ ls
lines-text [] h = lines-none
lines-text (l ∷ ls) h =
    let p : Plain l = h.0 in
    lines-append (l ++ 10 ∷ []) (text ls)
    ∙ ap (λ (u : List ℕ). lines (l ++ 10 ∷ []) ++ lines (u ++ text ls)) (unfinished-end l)
    ∙ ap (λ (x : List (List ℕ)). x ++ lines (text ls)) (lines-one l p.no_end ∙ ap (λ (x : List ℕ). x ∷ []) p.no_return)
    ∙ ap (λ (x : List (List ℕ)). l ∷ x) (lines-text ls h.1)

pub unfinished-text : (ls : List (List ℕ)) → unfinished (text ls) ≡ []
unfinished-text [] = unfinished-none
unfinished-text (l ∷ ls) = unfinished-append (l ++ 10 ∷ []) (text ls) ∙ ap (λ (u : List ℕ). unfinished (u ++ text ls)) (unfinished-end l) ∙ unfinished-text ls

-- ---- how many lines there are

onto_first_few : (byte : ℕ) (ps : List (List ℕ)) (n : ℕ) → length ps ≤ n → length (onto_first byte ps) ≤ suc n
onto_first_few byte [] n h = omega arith
onto_first_few byte (p ∷ ps) n h = omega (arith, h)

split_few : (ends : Bool) (byte : ℕ) (ps : List (List ℕ)) (n : ℕ) → length ps ≤ n → length (if ends then [] ∷ ps else onto_first byte ps) ≤ suc n
split_few true byte ps n h = omega (arith, h)
split_few false byte ps n h = onto_first_few byte ps n h

segments_few : (bytes : List ℕ) → length (segments 10 bytes) ≤ suc (length bytes)
unfolding segments
segments_few [] = omega arith
segments_few (b ∷ bytes) = split_few (b == 10) b (segments 10 bytes) (suc (length bytes)) (segments_few bytes)

among_few : (part : List ℕ) (ps : List (List ℕ)) → length (lines_among (part ∷ ps)) ≡ length ps
among_few part [] = refl
among_few part (p ∷ ps) = ap suc (among_few p ps)

among_fewer : (ps : List (List ℕ)) (n : ℕ) → length ps ≤ suc n → length (lines_among ps) ≤ n
among_fewer [] n h = omega arith
among_fewer (p ∷ ps) n h = omega (arith, among_few p ps, h)

-- no more than there are bytes
pub lines-few : (bytes : List ℕ) → length (lines bytes) ≤ length bytes
unfolding lines
lines-few bytes = among_fewer (segments 10 bytes) (length bytes) (segments_few bytes)
