-- Bytes without CRs, and a text that is packed in place.
use Rattle.sas_lines.proofs.Imports.{◌≡◌, ℕ, suc, ◌+◌, ◌-◌, ◌*◌, ◌<◌, ◌≤◌, Bool, true, false, cond, not, eqb, ◌==◌, List, [], ◌∷◌, ◌++◌, length, map, take, drop, get_or, refl, sym, ap, ap₂, subst, ◌∙◌, arith, append_assoc, append-nil, ne_eqb, eqb-false, without_returns, Without, filter-append, take-append-add, take-take, take-append-drop, length-take-le, length-drop, drop-drop, drop_all, drop_more, get_or-drop, take-paste, drop-paste, length-paste, paste, chunk, put_chunk, mask_l, prefix_len, length-chunk, put_chunk_is, packed, Packs}
use Rattle.sas_lines.specs.declared.packing.Places.{Places}
use Rattle.sas_lines.proofs.Found.{Without-take}

pub returns_gone : (bytes : List ℕ) → Without 13 bytes → without_returns bytes ≡ bytes
returns_gone [] h = refl
returns_gone (b ∷ bytes) h = rw (ne_eqb b 13 h.0) (ap (λ (l : List ℕ). b ∷ l) (returns_gone bytes h.1))

-- bytes up to a place where no CR stands before it
without_returns_from : (bytes : List ℕ) (run : ℕ) → Without 13 (take run bytes) → without_returns bytes ≡ take run bytes ++ without_returns (drop run bytes)
without_returns_from bytes run none =
    ap without_returns (sym (take-append-drop run bytes)) ∙ filter-append (λ b. not (b == 13)) (take run bytes) (drop run bytes) ∙ ap (λ (x : List ℕ). x ++ without_returns (drop run bytes)) (returns_gone (take run bytes) none)

-- ---- packed in place

-- a text is packed up to its first CR
pub packed_at_first : (text : List ℕ) (first : ℕ) → Without 13 (take first text) → take first text ++ without_returns (drop first text) ≡ without_returns text
packed_at_first text first none = sym (without_returns_from text first none)

-- and at its end
pub packed_at_end : (text : List ℕ) (at : Places) → length text ≤ at.read → packed text at ≡ take at.kept text
packed_at_end text at all = ap (λ (x : List ℕ). take at.kept text ++ without_returns x) (drop_all at.read text all) ∙ append-nil (take at.kept text)

-- n bytes are moved, of which the first `run` are those before the next CR
module _ (text : List ℕ) (at : Places) (run n : ℕ) (order : at.kept ≤ at.read) (room : at.read + n ≤ length text) (few : run ≤ n) (apart : at.kept + n ≤ at.read + run) (none : Without 13 (take run (drop at.read text))) where
  abbrev left : List ℕ
  left = drop at.read text

  abbrev moved : List ℕ
  moved = paste text at.kept left n

  many : n ≤ length left
  many = omega (arith, length-drop at.read text, room)

  low : at.kept ≤ length text
  low = omega (arith, order, room)

  front_moved : take (at.kept + run) moved ≡ take at.kept text ++ take run left
  front_moved =
      sym (take-take (at.kept + run) (at.kept + n) moved (omega (arith, few))) ∙ ap (take (at.kept + run)) (take-paste text at.kept left n low many)
      ∙ ap (λ (k : ℕ). take (k + run) (take at.kept text ++ take n left)) (sym (length-take-le at.kept text low)) ∙ take-append-add (take at.kept text) (take n left) run
      ∙ ap (λ (x : List ℕ). take at.kept text ++ x) (take-take run n left few)

  rest_moved : (k : ℕ) → at.read + run ≤ k → drop k moved ≡ drop k text
  rest_moved k behind =
      let more = k - (at.kept + n) in
      let is : k ≡ at.kept + n + more = omega (arith, apart, behind) in
      ap (λ (i : ℕ). drop i moved) is ∙ sym (drop-drop more (at.kept + n) moved) ∙ ap (drop more) (drop-paste text at.kept left n low many) ∙ drop-drop more (at.kept + n) text ∙ ap (λ (i : ℕ). drop i text) (sym is)

  -- up to a place behind which the text has the same bytes without CRs
  packs_to : (k : ℕ) → at.read + run ≤ k → k ≤ length text → without_returns (drop k text) ≡ without_returns (drop (at.read + run) text) → Packs text at moved (record { kept = at.kept + run; read = k })
  packs_to k behind within same =
      let bytes = take run left in
      record {
        same =
            ap₂ (λ (x y : List ℕ). x ++ without_returns y) front_moved (rest_moved k behind) ∙ append_assoc (take at.kept text) bytes (without_returns (drop k text))
            ∙ ap (λ (x : List ℕ). take at.kept text ++ x) (ap (λ (x : List ℕ). bytes ++ x) (same ∙ ap without_returns (sym (drop-drop run at.read text))) ∙ sym (without_returns_from left run none));
        long = length-paste text at.kept left n (omega (arith, order, room)) many;
        places = record { order = omega (arith, order, behind); within = omega (arith, within, length-paste text at.kept left n (omega (arith, order, room)) many) };
      }

  pub packs_run : (new : List ℕ) → new ≡ moved → Packs text at new (record { kept = at.kept + run; read = at.read + run })
  packs_run new is = subst (λ (x : List ℕ). Packs text at x (record { kept = at.kept + run; read = at.read + run })) (sym is) (packs_to (at.read + run) (omega arith) (omega (arith, room, few)) refl)

  -- and the CR is passed
  pub packs_return : (new : List ℕ) → new ≡ moved → at.read + run < length text → get_or text (at.read + run) 0 ≡ 13 → Packs text at new (record { kept = at.kept + run; read = at.read + run + 1 })
  packs_return new is within here =
      let behind = drop (at.read + run + 1) text in
      subst (λ (x : List ℕ). Packs text at x (record { kept = at.kept + run; read = at.read + run + 1 })) (sym is)
      (packs_to (at.read + run + 1) (omega arith) (omega (arith, within)) (sym (ap without_returns (drop_more text (at.read + run) 0 within) ∙ ap (λ (b : ℕ). without_returns (b ∷ behind)) here)))

-- ---- sixteen bytes at a time

pub lanes_moved : (text : List ℕ) (kept read : ℕ) → kept + 16 ≤ length text → read + 16 ≤ length text → put_chunk kept text (chunk read 16 text) ≡ paste text kept (drop read text) 16
lanes_moved text kept read low high =
    let long = length-chunk read 16 text high in
    put_chunk_is kept text (chunk read 16 text) (omega (arith, long, low)) ∙ sym (append_assoc (take kept text) (chunk read 16 text) (drop (length (chunk read 16 text)) (drop kept text)))
    ∙ ap (λ (x : List ℕ). (take kept text ++ chunk read 16 text) ++ x) (drop-drop (length (chunk read 16 text)) kept text ∙ ap (λ (k : ℕ). drop (kept + k) text) long)

abbrev pub is_return : ℕ → Bool
is_return b = eqb b 13

pub lanes_without : (text : List ℕ) (read run : ℕ) → ((k : ℕ) → read ≤ k → k < read + run → is_return (get_or text k 0) ≡ false) → Without 13 (take run (drop read text))
lanes_without text read run none = Without-take 13 (drop read text) run (λ k l e. eqb-false _ 13 (none (read + k) (omega arith) (omega (arith, l))) (sym (get_or-drop read text k 0) ∙ e))

first_clear : (t : Bool) (k l m : ℕ) → cond (not t) (1 + k) 0 ≡ suc l → (k ≡ l → m ≡ 0) → cond t 1 0 + 2 * m ≡ 0
first_clear true k l m e h = absurd (omega (arith, e))
first_clear false k l m e h = let none = h (omega (arith, e)) in omega (arith, none)

-- where no lane passes, no bit is set
pub all_clear : (p : ℕ → Bool) (xs : List ℕ) → prefix_len (λ x. not (p x)) xs ≡ length xs → mask_l (map p xs) ≡ 0
all_clear p [] e = refl
all_clear p (x ∷ xs) e = first_clear (p x) _ _ _ e (all_clear p xs)
