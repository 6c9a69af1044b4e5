-- It is enough to look at the variables that a step may have changed.
use Rattle.std.proofs.lemmas.Grind.{common_steps}
use Rattle.sas_plan_reasons.proofs.Imports.{◌≡◌, ◌≢◌, ◌⊎◌, ℕ, ◌+◌, ◌<◌, List, length, take, take_more, get_or, sym, ◌∙◌, ap, subst, inl, inr, arith, Contains, Contains-push_cases, cases_eq, Changes, HavePlaces, NotedAt, LeftAt, Notes, ListCoversChanges}

-- ---- noting twice

module _ (step : ℕ) (s : List ℕ) (old mid new : Changes) (var : ℕ) where
  -- what is noted stays noted
  noted_before : NotedAt step s old mid var → NotedAt step s mid new var ⊎ LeftAt mid new var → NotedAt step s old new var
  noted_before noted h1 = grind arith

  -- and can be noted later
  noted_then : NotedAt step s old mid var ⊎ LeftAt old mid var → NotedAt step s mid new var → NotedAt step s old new var
  noted_then h1 noted = grind (arith, noted_before)

  some_then : NotedAt step s old mid var ⊎ LeftAt old mid var → NotedAt step s mid new var ⊎ LeftAt mid new var → NotedAt step s old new var ⊎ LeftAt old new var
  some_then first h1 = grind (arith, noted_then, noted_before)

-- one variable more is noted
one_of : (step : ℕ) (s : List ℕ) (mid new : Changes) (v : ℕ) → NotedAt step s mid new v → ((k : ℕ) → k ≢ v → LeftAt mid new k) → (var : ℕ) → NotedAt step s mid new var ⊎ LeftAt mid new var
one_of step s mid new v noted others var = elim (cases_eq var v) [ inl e ↦ inl (subst (NotedAt step s mid new) (sym e) noted) | inr ne ↦ inr (others var ne) ]

pub notes_more : (step : ℕ) (s : List ℕ) (old mid new : Changes) (v : ℕ) (These Those : ℕ → Type 0) → ((var : ℕ) → Those var → These var ⊎ (v ≡ var)) → Notes step s These old mid
    → HavePlaces (length s) new → NotedAt step s mid new v → ((k : ℕ) → k ≢ v → LeftAt mid new k) → Notes step s Those old new
notes_more step s old mid new v h1 h2 either notes places noted others = grind (arith, some_then, one_of, noted_before, noted_then)

-- no variable is noted yet
pub notes_none : (step : ℕ) (s : List ℕ) (old : Changes) (These : ℕ → Type 0) → HavePlaces (length s) old → ((var : ℕ) → These var → ⊥) → Notes step s These old old
notes_none step s old These places none = grind (arith, common_steps, none)

-- what is among one item more
pub among_more : {A : Type 0} (items : List A) (i : ℕ) (d x : A) → i < length items → Contains (take (i + 1) items) x → Contains (take i items) x ⊎ (get_or items i d ≡ x)
among_more items i d x lt there = Contains-push_cases (take i items) (get_or items i d) x (subst (λ (l : List _). Contains l x) (take_more items i d lt) there)

-- where the variables that are looked at are all that may have changed, all is noted
pub notes_all : (s : List ℕ) (step : ℕ) (s' : List ℕ) (listed : List ℕ) (old new : Changes) → old.values ≡ s → length s ≡ length s' → ListCoversChanges s s' listed
    → Notes step s' (Contains listed) old new → Notes step s' (λ (var : ℕ). var < length s') old new
notes_all s step s' listed old new values fits covers notes = record {
  places = notes.places;
  each = notes.each;
  these = λ var lt. elim (covers.each var) [
    | inr there ↦ notes.these var there
    | inl same ↦ elim (notes.each var) [
      | inl noted ↦ noted
      | inr left ↦
          let is : get_or old.values var 0 ≡ get_or s' var 0 = ap (λ (vs : List ℕ). get_or vs var 0) values ∙ sym same in
          record { value = left.value ∙ is; changed = λ differs. absurd (differs is); unchanged = λ equal. left.since }
    ]
  ];
}
