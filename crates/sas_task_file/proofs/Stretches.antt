-- Stretches of a task file. From a state, lines lead through a stretch exactly if they are those of
-- a good value. The task is composed of stretches.
use Rattle.sas_task_file.proofs.Imports.{◌≡◌, ℕ, zero, suc, ◌-◌, List, [], ◌∷◌, ◌++◌, length, refl, sym, ap, subst, ◌∙◌, append_assoc, append-nil, arith, flat_map, flat_map-cons, AllByRecursion, Parts, IsAllowed, OneLine, After, LeadsToEnd, before, ended, after_append, Due, TaskLine, number, single_line, counted, task_slot, slot_of_due, task_format, TaskLineFits, test_of_due, TaskState, table_node, state_after}

-- the lines lead from the state to the end with these parts
abbrev pub Ends : TaskState → List TaskLine → Parts → Type 0
Ends x items v = LeadsToEnd task_format TaskLineFits table_node x items v

-- the lines lead from one state to the other
abbrev pub LeadsOn : TaskState → List TaskLine → TaskState → Type 0
LeadsOn x items y = After task_format TaskLineFits table_node x items y

-- the lines are those of a good value, and others that lead on to the end
pub record Found {A : Type 0} (lines : A → List TaskLine) (Good : A → Type 0) (next : A → TaskState) (items : List TaskLine) (v : Parts) : Type 0 where
  pub value : A
  pub rest : List TaskLine
  pub whole : items ≡ lines value ++ rest
  pub good : Good value
  pub ends : Ends (next value) rest v

-- the lines of each good value lead from x to a next state, and no other lines lead to the end
pub record Stretch (x : TaskState) {A : Type 0} (lines : A → List TaskLine) (Good : A → Type 0) (next : A → TaskState) : Type 0 where
  pub sound : (items : List TaskLine) (v : Parts) → Ends x items v → Found lines Good next items v
  pub complete : (a : A) → Good a → LeadsOn x (lines a) (next a)

-- ---- one line

-- the line is allowed where this is expected
abbrev pub Allowed : List ℕ → Due → TaskLine → Type 0
Allowed ranges d i = IsAllowed task_format TaskLineFits (slot_of_due d) (test_of_due ranges d) i

module _ (x : TaskState) (d : Due) (here : table_node x ≡ before (slot_of_due d) (test_of_due x.tracker.ranges d) (state_after x)) {A : Type 0} (into : A → TaskLine) (back : TaskLine → A) (only : (i : TaskLine) → task_slot i ≡ slot_of_due d → into (back i) ≡ i) where
  line_sound : (items : List TaskLine) (v : Parts) → Ends x items v → Found (single_line into) (λ a. Allowed x.tracker.ranges d (into a)) (λ a. state_after x (into a)) items v
  line_sound [] v e = let over : before (slot_of_due d) (test_of_due x.tracker.ranges d) (state_after x) ≡ ended v = sym here ∙ e in absurd cc
  line_sound (i ∷ items) v e =
      let t = subst (λ n. OneLine task_format TaskLineFits n i (λ (y : TaskState). Ends y items v)) here e in
      let same = sym (only i t.0.slot) in
      record {
        value = back i;
        rest = items;
        whole = ap (λ (j : TaskLine). j ∷ items) same;
        good = subst (Allowed x.tracker.ranges d) same t.0;
        ends = subst (λ (j : TaskLine). Ends (state_after x j) items v) same t.1;
      }

-- what is expected, and the content of each line of its slot
pub line : {x : TaskState} (d : Due) → table_node x ≡ before (slot_of_due d) (test_of_due x.tracker.ranges d) (state_after x) → {A : Type 0} (into : A → TaskLine) (back : TaskLine → A) → ((i : TaskLine) → task_slot i ≡ slot_of_due d → into (back i) ≡ i)
    → Stretch x (single_line into) (λ a. Allowed x.tracker.ranges d (into a)) (λ a. state_after x (into a))
line {x = x} d here into back only = record {
  sound = line_sound x d here into back only;
  complete = λ a g. subst (λ n. OneLine task_format TaskLineFits n (into a) (λ (y : TaskState). y ≡ state_after x (into a))) (sym here) (g, refl);
}

-- ---- one stretch, then another

module _ {x : TaskState} {A B : Type 0} {lines : A → List TaskLine} {Good : A → Type 0} {next : A → TaskState} {more : A → B → List TaskLine} {More : A → B → Type 0} {last : A → B → TaskState}
    (f : Stretch x lines Good next) (n : (a : A) → Good a → Stretch (next a) (more a) (More a) (last a)) where
  both_sound : (items : List TaskLine) (v : Parts) → Ends x items v → Found (λ (p : A × B). lines p.0 ++ more p.0 p.1) (λ p. Good p.0 × More p.0 p.1) (λ p. last p.0 p.1) items v
  both_sound items v e =
      let g = f.sound items v e in
      let h = (n g.value g.good).sound g.rest v g.ends in
      record {
        value = (g.value, h.value);
        rest = h.rest;
        whole = g.whole ∙ ap (λ (y : List TaskLine). lines g.value ++ y) h.whole ∙ sym (append_assoc (lines g.value) (more g.value h.value) h.rest);
        good = (g.good, h.good);
        ends = h.ends;
      }

  -- the second may depend on the value of the first
  pub both : Stretch x (λ (p : A × B). lines p.0 ++ more p.0 p.1) (λ p. Good p.0 × More p.0 p.1) (λ p. last p.0 p.1)
  both = record {
    sound = both_sound;
    complete = λ p g. after_append task_format TaskLineFits table_node x (next p.0) (last p.0 p.1) (lines p.0) (more p.0 p.1) (f.complete p.0 g.0) ((n p.0 g.0).complete p.1 g.1);
  }

infixr 20 ◌then◌
pub ◌then◌ : {x : TaskState} {A B : Type 0} {lines : A → List TaskLine} {Good : A → Type 0} {next : A → TaskState} {more : A → B → List TaskLine} {More : A → B → Type 0} {last : A → B → TaskState}
    → Stretch x lines Good next → ((a : A) → Stretch (next a) (more a) (More a) (last a))
    → Stretch x (λ (p : A × B). lines p.0 ++ more p.0 p.1) (λ p. Good p.0 × More p.0 p.1) (λ p. last p.0 p.1)
f then n = both f (λ a g. n a)

-- ---- the same stretch, in another form

-- the good values of one type are those of another, with the same lines and next states
pub record Conversion {A B : Type 0} (lines : A → List TaskLine) (Good : A → Type 0) (next : A → TaskState) (new_lines : B → List TaskLine) (NewGood : B → Type 0) (new_next : B → TaskState) (to : A → B) : Type 0 where
  pub good : (a : A) → Good a → NewGood (to a)
  pub lines_are : (a : A) → Good a → new_lines (to a) ≡ lines a
  pub next_is : (a : A) → Good a → new_next (to a) ≡ next a
  pub back : (b : B) → NewGood b → (a : A) × Good a × (to a ≡ b)

pub converted : {x : TaskState} {A B : Type 0} {lines : A → List TaskLine} {Good : A → Type 0} {next : A → TaskState} {new_lines : B → List TaskLine} {NewGood : B → Type 0} {new_next : B → TaskState} (to : A → B)
    → Stretch x lines Good next → Conversion lines Good next new_lines NewGood new_next to → Stretch x new_lines NewGood new_next
converted {x = x} {next = next} {new_lines = new_lines} {new_next = new_next} to s c = record {
  sound = λ items v e. let f = s.sound items v e in
      record {
        value = to f.value;
        rest = f.rest;
        whole = f.whole ∙ ap (λ (y : List TaskLine). y ++ f.rest) (sym (c.lines_are f.value f.good));
        good = c.good f.value f.good;
        ends = subst (λ (y : TaskState). Ends y f.rest v) (sym (c.next_is f.value f.good)) f.ends;
      };
  complete = λ b g. let a = c.back b g in
      subst (λ (y : TaskState). LeadsOn x (new_lines b) y) (sym (c.next_is a.0 a.1) ∙ ap new_next a.2)
      (subst (λ (y : List TaskLine). LeadsOn x y (next a.0)) (sym (c.lines_are a.0 a.1) ∙ ap new_lines a.2) (s.complete a.0 a.1));
}

-- which of its values are good
pub restated : {x : TaskState} {A : Type 0} {lines : A → List TaskLine} {Good NewGood : A → Type 0} {next : A → TaskState}
    → ((a : A) → Good a → NewGood a) → ((a : A) → NewGood a → Good a) → Stretch x lines Good next → Stretch x lines NewGood next
restated there back s = converted (λ a. a) s (record { good = there; lines_are = λ a g. refl; next_is = λ a g. refl; back = λ a h. (a, back a h, refl) })

-- ---- stretches of one kind, which are counted down

pub one_less : (n : ℕ) → suc n - 1 ≡ n
one_less n = omega arith

-- n good values
abbrev pub Many : {A : Type 0} → (A → Type 0) → ℕ → List A → Type 0
Many Good n xs = (length xs ≡ n) × AllByRecursion Good xs

module _ {A : Type 0} {lines : A → List TaskLine} {Good : A → Type 0} where
  -- the state before n more, after those so far
  module _ (state : ℕ → List A → TaskState) (one : (n : ℕ) (xs : List A) → Stretch (state (suc n) xs) lines Good (λ a. state (suc n - 1) (xs ++ a ∷ []))) where
    none_complete : (xs more : List A) → Many Good 0 more → LeadsOn (state 0 xs) (flat_map lines more) (state 0 (xs ++ more))
    none_complete xs [] g = ap (state 0) (sym (append-nil xs))
    none_complete xs (a ∷ more) g = absurd (omega (arith, g.0))

    first_and_rest : (n : ℕ) (xs : List A) → Many Good (suc n) xs → (p : A × List A) × (Good p.0 × Many Good n p.1) × (p.0 ∷ p.1 ≡ xs)
    first_and_rest n [] g = absurd (omega (arith, g.0))
    first_and_rest n (x ∷ xs) g = ((x, xs), (g.1.0, (omega (arith, g.0), g.1.1)), refl)

    pub each : (n : ℕ) (xs : List A) → Stretch (state n xs) (flat_map lines) (Many Good n) (λ more. state 0 (xs ++ more))
    each zero xs = record {
      sound = λ items v e. record { value = []; rest = items; whole = refl; good = (refl, tt); ends = subst (λ (ys : List A). Ends (state 0 ys) items v) (sym (append-nil xs)) e };
      complete = none_complete xs;
    }
    each (suc n) xs =
        converted (λ p. p.0 ∷ p.1)
        (both (one n xs) (λ a g. subst (λ (m : ℕ). Stretch (state m (xs ++ a ∷ [])) (flat_map lines) (Many Good n) (λ more. state 0 ((xs ++ a ∷ []) ++ more))) (sym (one_less n)) (each n (xs ++ a ∷ []))))
        (record {
          good = λ p g. (ap suc g.1.0, (g.0, g.1.1));
          lines_are = λ p g. flat_map-cons lines p.0 p.1;
          next_is = λ p g. ap (state 0) (sym (append_assoc xs (p.0 ∷ []) p.1));
          back = first_and_rest n;
        })

  -- a number, and then this many
  pub numbered : {x : TaskState} {GoodNumber : ℕ → Type 0} (state : ℕ → ℕ → List A → TaskState) → Stretch x (single_line number) GoodNumber (λ n. state n n [])
      → ((m n : ℕ) (xs : List A) → Stretch (state m (suc n) xs) lines Good (λ a. state m (suc n - 1) (xs ++ a ∷ [])))
      → Stretch x (counted lines) (λ xs. GoodNumber (length xs) × AllByRecursion Good xs) (λ xs. state (length xs) 0 xs)
  numbered {GoodNumber = GoodNumber} state c one = converted (λ p. p.1) (both c (λ n g. each (state n) (one n) n [])) (record {
    good = λ p g. (subst GoodNumber (sym g.1.0) g.0, g.1.1);
    lines_are = λ p g. ap (λ (n : ℕ). single_line number n ++ flat_map lines p.1) g.1.0;
    next_is = λ p g. ap (λ (n : ℕ). state n 0 p.1) g.1.0;
    back = λ xs g. ((length xs, xs), (g.0, (refl, g.1)), refl);
  })
