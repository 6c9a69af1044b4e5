-- The first noted rule is on the lowest layer, and what changes of the agenda preserve.
use Rattle.sas_axioms.proofs.Imports.{◌≡◌, ℕ, suc, ◌+◌, ◌≤◌, false, List, [], ◌∷◌, length, get_or, sym, ap, subst, inl, inr, arith, All, Contains, IsPermutation, is_lt, heap_items, IsUpperBound, leb_tells, All-nil, All-cons, Contains-get_or, Contains-permutation, contains_head, contains_tail, contains_cases, IsPermutation-sym, length_permutation, Reverse, Agenda, LayerRule, layer_cmp, entry_for, IsOnAgenda, AddsToAgenda, work_left, NotesMore, IsRuleOn, Parts}

not_before : (a b : LayerRule) → is_lt (layer_cmp b a) ≡ false → a.layer ≤ b.layer
not_before a b h = grind (arith, leb_tells, suc)

-- what comes first is of the lowest layer
pub lowest_first : (x : Reverse LayerRule) (items : List (Reverse LayerRule)) → IsUpperBound (λ x y. layer_cmp y.0 x.0) x items → All (λ (e : Reverse LayerRule). x.0.layer ≤ e.0.layer) items
lowest_first x [] up = All-nil (λ (e : Reverse LayerRule). x.0.layer ≤ e.0.layer)
lowest_first x (e ∷ es) up = All-cons (λ (e : Reverse LayerRule). x.0.layer ≤ e.0.layer) e es (not_before x.0 e.0 up.0) (lowest_first x es up.1)

-- what stays where an element is taken out of a list in some order
pub rest_still : {X : Type 0} (xs rest : List X) (x : X) → IsPermutation xs (x ∷ rest) → All (Contains xs) rest
rest_still xs rest x same k d lt = Contains-permutation (x ∷ rest) xs (get_or rest k d) (IsPermutation-sym xs (x ∷ rest) same) (contains_tail x rest (get_or rest k d) (Contains-get_or rest k d lt))

pub head_there : {X : Type 0} (xs rest : List X) (x : X) → IsPermutation xs (x ∷ rest) → Contains xs x
head_there xs rest x same = Contains-permutation (x ∷ rest) xs x (IsPermutation-sym xs (x ∷ rest) same) (contains_head x rest)

-- ---- a rule is noted

pub noted_there : (layer rule : ℕ) (a a' : Agenda) → AddsToAgenda layer rule a a' → IsOnAgenda a' layer rule
noted_there layer rule a a' notes = Contains-permutation (entry_for layer rule ∷ heap_items a.noted) (heap_items a'.noted) (entry_for layer rule) notes.noted (contains_head (entry_for layer rule) (heap_items a.noted))

pub notes_more : (p : Parts) (layer rule : ℕ) (a a' : Agenda) → IsRuleOn p layer rule → AddsToAgenda layer rule a a' → NotesMore p (λ r. r ≡ rule) a a'
notes_more p layer rule a a' is notes = record {
  keeps = λ m other there. Contains-permutation (entry_for layer rule ∷ heap_items a.noted) (heap_items a'.noted) (entry_for m other) notes.noted
      (contains_tail (entry_for layer rule) (heap_items a.noted) (entry_for m other) there);
  only = λ k d lt. elim (contains_cases (entry_for layer rule) (heap_items a.noted) (get_or (heap_items a'.noted) k d)
      (Contains-permutation (heap_items a'.noted) (entry_for layer rule ∷ heap_items a.noted) (get_or (heap_items a'.noted) k d)
      (IsPermutation-sym (entry_for layer rule ∷ heap_items a.noted) (heap_items a'.noted) notes.noted) (Contains-get_or (heap_items a'.noted) k d lt))) [
        | inr there ↦ inl there
        | inl e ↦ inr (subst (λ (r : Reverse LayerRule). IsRuleOn p r.0.layer r.0.rule) e is, sym (ap (λ (r : Reverse LayerRule). r.0.rule) e))
      ];
  ordered = notes.ordered;
  ready = notes.ready;
}

pub notes_left : (layer rule : ℕ) (a a' : Agenda) → AddsToAgenda layer rule a a' → work_left a' ≤ work_left a + 2
notes_left layer rule a a' notes = grind (arith, length_permutation, entry_for, heap_items, length)
