-- The same lines lead to one state.
pub use Rattle.std.proofs.lemmas.List.{map-append}
use Rattle.sas_reader.proofs.Imports.{◌≡◌, ℕ, Bool, List, [], ◌∷◌, ◌++◌, map, refl, sym, ap, subst, ◌∙◌, lines, unfinished, Format, Node, ended, before, IsAllowed, OneLine, After, LeadsToEnd, Leads, Grammar}

-- ---- the lines of a list, cut after a prefix

pub record Cut {I : Type 0} (spelled : I → List ℕ) (is : List I) (front back : List (List ℕ)) : Type 0 where
  pub before : List I
  pub after : List I
  pub whole : is ≡ before ++ after
  pub front_is : map spelled before ≡ front
  pub back_is : map spelled after ≡ back

pub cut_at : {I : Type 0} (spelled : I → List ℕ) (front back : List (List ℕ)) (is : List I) → map spelled is ≡ front ++ back → Cut spelled is front back
cut_at spelled [] back is e = record { before = []; after = is; whole = refl; front_is = refl; back_is = e }
cut_at spelled (l ∷ front) back [] e = absurd cc
cut_at spelled (l ∷ front) back (i ∷ is) e =
    let one : spelled i ≡ l = cc in
    let others : map spelled is ≡ front ++ back = cc in
    let c = cut_at spelled front back is others in
    record { before = i ∷ c.before; after = c.after; whole = ap (λ x. i ∷ x) c.whole; front_is = ap (λ (x : List ℕ). x ∷ map spelled c.before) one ∙ ap (λ (x : List (List ℕ)). l ∷ x) c.front_is; back_is = c.back_is }

pub record SamePath {T I : Type 0} (q r : T) (is js : List I) : Type 0 where
  pub state : q ≡ r
  pub items : is ≡ js

-- the slot of a state before a line
pub slot_at : {T V I S : Type 0} → Node T V I S → S → S
slot_at (ended v) s = s
slot_at (before t ok next) s = t

pub one_ended : {T V I S : Type 0} (v w : V) → (let n : Node T V I S = ended v in n) ≡ ended w → v ≡ w
one_ended v w e = cc

module _ {T V I S : Type 0} (F : Format V I S) (Fits : I → Type 0) where
  -- ---- one step

  step_of : (n : Node T V I S) (i : I) (K : T → Type 0) → OneLine F Fits n i K → (r : T) × OneLine F Fits n i (λ x. x ≡ r) × K r
  step_of (ended v) i K a = absurd a
  step_of (before s ok next) i K a = (next i, (a.0, refl), a.1)

  step_to : (n : Node T V I S) (i : I) (r : T) (K : T → Type 0) → OneLine F Fits n i (λ x. x ≡ r) → K r → OneLine F Fits n i K
  step_to (ended v) i r K a k = absurd a
  step_to (before s ok next) i r K a k = (a.0, subst K (sym a.1) k)

  pub ended_stops : (n : Node T V I S) (v : V) (i : I) (K : T → Type 0) → n ≡ ended v → OneLine F Fits n i K → ⊥
  ended_stops n v i K e a = subst (λ x. OneLine F Fits x i K) e a

  pub takes_at : (n : Node T V I S) (i : I) (K : T → Type 0) (s : S) → OneLine F Fits n i K → F.slot_of i ≡ slot_at n s
  unfolding slot_at
  takes_at (ended v) i K s a = absurd a
  takes_at (before t ok next) i K s a = a.0.slot

  -- ---- paths

  pub after_append : (node : T → Node T V I S) (p q r : T) (is js : List I) → After F Fits node p is q → After F Fits node q js r → After F Fits node p (is ++ js) r
  after_append node p q r [] js a b = subst (λ x. After F Fits node x js r) (sym a) b
  after_append node p q r (i ∷ is) js a b =
      let s = step_of (node p) i (λ x. After F Fits node x is q) a in
      step_to (node p) i s.0 (λ x. After F Fits node x (is ++ js) r) s.1 (after_append node s.0 q r is js s.2 b)

  pub after_ends : (node : T → Node T V I S) (p q : T) (v : V) (is js : List I) → After F Fits node p is q → LeadsToEnd F Fits node q js v → LeadsToEnd F Fits node p (is ++ js) v
  after_ends node p q v [] js a b = subst (λ x. LeadsToEnd F Fits node x js v) (sym a) b
  after_ends node p q v (i ∷ is) js a b =
      let s = step_of (node p) i (λ x. After F Fits node x is q) a in
      step_to (node p) i s.0 (λ x. LeadsToEnd F Fits node x (is ++ js) v) s.1 (after_ends node s.0 q v is js s.2 b)

  pub ends_split : (node : T → Node T V I S) (p : T) (v : V) (is js : List I) → LeadsToEnd F Fits node p (is ++ js) v → (q : T) × After F Fits node p is q × LeadsToEnd F Fits node q js v
  ends_split node p v [] js a = (p, refl, a)
  ends_split node p v (i ∷ is) js a =
      let s = step_of (node p) i (λ x. LeadsToEnd F Fits node x (is ++ js) v) a in
      let t = ends_split node s.0 v is js s.2 in
      (t.0, step_to (node p) i s.0 (λ x. After F Fits node x is t.0) s.1 t.1, t.2)

  pub ends_after : (node : T → Node T V I S) (p : T) (v : V) (is : List I) → LeadsToEnd F Fits node p is v → (q : T) × After F Fits node p is q × (node q ≡ ended v)
  ends_after node p v [] a = (p, refl, a)
  ends_after node p v (i ∷ is) a =
      let s = step_of (node p) i (λ x. LeadsToEnd F Fits node x is v) a in
      let t = ends_after node s.0 v is s.2 in
      (t.0, step_to (node p) i s.0 (λ x. After F Fits node x is t.0) s.1 t.1, t.2)

module _ {T V I S : Type 0} (F : Format V I S) (Fits : I → Type 0) (node : T → Node T V I S) (start : T) (g : Grammar F Fits node start) where
  same_taken : (s : S) (ok : I → Bool) (i j : I) → IsAllowed F Fits s ok i → IsAllowed F Fits s ok j → F.texts.spelled i ≡ F.texts.spelled j → i ≡ j
  same_taken s ok i j t u e = g.one_item i j (t.slot ∙ sym u.slot) t.fits u.fits e

  step_same : (n : Node T V I S) (i j : I) (K L : T → Type 0) → OneLine F Fits n i K → OneLine F Fits n j L → F.texts.spelled i ≡ F.texts.spelled j → (i ≡ j) × (r : T) × K r × L r
  step_same (ended v) i j K L a b e = absurd a
  step_same (before s ok next) i j K L a b e = let q = same_taken s ok i j a.0 b.0 e in (q, next i, a.1, subst (λ x. L (next x)) (sym q) b.1)

  -- the same lines lead to the same state
  pub same_path : (p q r : T) (is js : List I) → After F Fits node p is q → After F Fits node p js r → map F.texts.spelled is ≡ map F.texts.spelled js → SamePath q r is js
  same_path p q r [] [] a b e = record { state = sym a ∙ b; items = refl }
  same_path p q r [] (j ∷ js) a b e = absurd cc
  same_path p q r (i ∷ is) [] a b e = absurd cc
  same_path p q r (i ∷ is) (j ∷ js) a b e =
      let one : F.texts.spelled i ≡ F.texts.spelled j = cc in
      let others : map F.texts.spelled is ≡ map F.texts.spelled js = cc in
      let s = step_same (node p) i j (λ x. After F Fits node x is q) (λ x. After F Fits node x js r) a b one in
      let t = same_path s.1 q r is js s.2 s.3 others in
      record { state = t.state; items = ap (λ x. x ∷ is) s.0 ∙ ap (λ xs. j ∷ xs) t.items }

-- ---- bytes

module _ {T V I S : Type 0} (F : Format V I S) (Fits : I → Type 0) where
  -- the complete lines of the bytes lead from the start to the state, and nothing follows if it is
  -- at the end
  pub record Path (node : T → Node T V I S) (start p : T) (bytes : List ℕ) : Type 0 where
    pub leads : Leads F Fits node start (lines bytes) p
    pub ended : (v : V) → node p ≡ ended v → unfinished bytes ≡ []
