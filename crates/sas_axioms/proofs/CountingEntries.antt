-- Updating the counters for the conditions on a variable, one entry at a time.
use Rattle.sas_axioms.proofs.Imports.{◌≡◌, ◌≢◌, ◌⊎◌, ◌↔◌, ℕ, ◌+◌, ◌*◌, ◌<◌, ◌≤◌, ◌^◌, Vec, Global, zero, suc, List, [], ◌∷◌, length, get_or, set, drop, refl, sym, ◌∙◌, ap, subst, inl, inr, arith, All, Contains, heap_items, cases_eq, eq-eqb, eqb_tells, drop_all, drop_more, get_or-set_same, get_or-set_other, length-set, Contains-get_or, All-contains, Reverse, Parts, Agenda, Work, LayerRule, ValueChange, RuleCondition, waits_for, CanCount, IsOnAgenda, IsOrdered, work_left, SameWork, NotesMore, CountsTo, IsRuleOn, occurrences, released}

abbrev pub no_entry : RuleCondition
no_entry = record { value = 0; rule = 0 }

-- the rule waits for a value of the variable
abbrev pub Waits : List RuleCondition → ℕ → Type 0
Waits waiting rule = (w : RuleCondition) × Contains waiting w × (w.rule ≡ rule)

-- a variable moved, and the counters of the rules with these conditions on it can be updated
pub record CanRecount (moved : ValueChange) (waiting : List RuleCondition) (counters : List ℕ) : Type 0 where
  pub differ : moved.former ≢ moved.value
  pub exist : All (λ (w : RuleCondition). w.rule < length counters) waiting
  pub small : All (λ (w : RuleCondition). get_or counters w.rule 0 + occurrences w.rule (released moved.former waiting) < 2 ^ 32) waiting
  pub enough : All (λ (w : RuleCondition). occurrences w.rule (released moved.value waiting) ≤ get_or counters w.rule 0) waiting

-- the first i entries are counted
pub record CountersSoFar (moved : ValueChange) (waiting : List RuleCondition) (i : ℕ) (cs0 cs : List ℕ) : Type 0 where
  pub one_each : length cs ≡ length cs0
  pub so_far : (rule : ℕ) → rule < length cs0
      → get_or cs rule 0 + occurrences rule (released moved.value waiting) + occurrences rule (released moved.former (drop i waiting))
      ≡ get_or cs0 rule 0 + occurrences rule (released moved.former waiting) + occurrences rule (released moved.value (drop i waiting))

-- none is counted
pub counters_before : (moved : ValueChange) (waiting : List RuleCondition) (cs : List ℕ) → CountersSoFar moved waiting 0 cs cs
counters_before moved waiting cs = record { one_each = refl; so_far = λ rule lt. omega arith }

-- all are counted
pub counters_after : (moved : ValueChange) (waiting : List RuleCondition) (i : ℕ) (cs0 cs : List ℕ) → i ≡ length waiting → CountersSoFar moved waiting i cs0 cs
    → (rule : ℕ) → rule < length cs0 → get_or cs rule 0 + occurrences rule (released moved.value waiting) ≡ get_or cs0 rule 0 + occurrences rule (released moved.former waiting)
counters_after moved waiting i cs0 cs all counted rule lt = grind (arith, drop_all, occurrences, released)

-- an entry is one of those of its own rule and value
own_entry : (value : ℕ) (e : RuleCondition) (es : List RuleCondition) → occurrences e.rule (released value (e ∷ es)) ≡ waits_for value e + occurrences e.rule (released value es)
own_entry value e es = elim (eqb_tells e.value value) [ inl v ↦ rw (v.0, eq-eqb e.rule e.rule refl) (omega arith) | inr v ↦ rw v.0 (omega arith) ]

-- and none of those of another rule
other_entry : (value rule : ℕ) (e : RuleCondition) (es : List RuleCondition) → e.rule ≢ rule → occurrences rule (released value (e ∷ es)) ≡ occurrences rule (released value es)
other_entry value rule e es ne = grind (arith, eqb_tells)

-- what is left is no more than all
pub left_over : (rule value i : ℕ) (ws : List RuleCondition) → occurrences rule (released value (drop i ws)) ≤ occurrences rule (released value ws)
left_over rule value zero ws = omega arith
left_over rule value (suc i) [] = omega arith
left_over rule value (suc i) (w ∷ ws) =
    let ih = left_over rule value i ws in
    elim (eqb_tells w.value value) [ inl v ↦ rw v.0 (omega arith) | inr v ↦ rw v.0 ih ]

module _ (moved : ValueChange) (waiting : List RuleCondition) (i : ℕ) (cs0 cs : List ℕ) (lt : i < length waiting) (counted : CountersSoFar moved waiting i cs0 cs) where
  abbrev pub this : RuleCondition
  this = get_or waiting i no_entry

  own_left : (value : ℕ) → occurrences this.rule (released value (drop i waiting)) ≡ waits_for value this + occurrences this.rule (released value (drop (i + 1) waiting))
  own_left value = ap (λ ws. occurrences this.rule (released value ws)) (drop_more waiting i no_entry lt) ∙ own_entry value this (drop (i + 1) waiting)

  other_left : (value rule : ℕ) → this.rule ≢ rule → occurrences rule (released value (drop i waiting)) ≡ occurrences rule (released value (drop (i + 1) waiting))
  other_left value rule ne = ap (λ ws. occurrences rule (released value ws)) (drop_more waiting i no_entry lt) ∙ other_entry value rule this (drop (i + 1) waiting) ne

  -- its counter neither overflows nor falls below 0
  pub can_count : CanRecount moved waiting cs0 → CanCount moved this cs
  can_count can = grind (arith, get_or, occurrences, released, own_left, left_over)

  module _ (cs' : List ℕ) (one_each : length cs' ≡ length cs) (moves : get_or cs' this.rule 0 + waits_for moved.value this ≡ get_or cs this.rule 0 + waits_for moved.former this)
      (others : (rule : ℕ) → this.rule ≢ rule → get_or cs' rule 0 ≡ get_or cs rule 0) where
    next_own : this.rule < length cs0 → get_or cs' this.rule 0 + occurrences this.rule (released moved.value waiting) + occurrences this.rule (released moved.former (drop (i + 1) waiting))
        ≡ get_or cs0 this.rule 0 + occurrences this.rule (released moved.former waiting) + occurrences this.rule (released moved.value (drop (i + 1) waiting))
    next_own within = grind (arith, own_left)

    -- one entry more is counted
    pub counters_next : CountersSoFar moved waiting (i + 1) cs0 cs'
    counters_next = grind (arith, cases_eq, length, get_or, occurrences, released, drop, next_own, other_left)

  -- its count is what it was
  pub counters_passed : waits_for moved.value this ≡ waits_for moved.former this → CountersSoFar moved waiting (i + 1) cs0 cs
  counters_passed same = counters_next cs refl (ap (λ n. get_or cs this.rule 0 + n) same) (λ rule ne. refl)

  module _ (n : ℕ) (cs' : List ℕ) (exists : this.rule < length cs0) (set_to : cs' ≡ set cs this.rule n) where
    pub its_count : get_or cs' this.rule 0 ≡ n
    its_count = ap (λ xs. get_or xs this.rule 0) set_to ∙ get_or-set_same cs this.rule n 0 (let l = counted.one_each in omega (arith, exists))

    pub other_count : (rule : ℕ) → this.rule ≢ rule → get_or cs' rule 0 ≡ get_or cs rule 0
    other_count rule ne = ap (λ xs. get_or xs rule 0) set_to ∙ get_or-set_other cs this.rule rule n 0 (λ e. ne (sym e))

    -- its count is set
    pub counters_set : n + waits_for moved.value this ≡ get_or cs this.rule 0 + waits_for moved.former this → CountersSoFar moved waiting (i + 1) cs0 cs'
    counters_set moves = counters_next cs' (ap length set_to ∙ length-set cs this.rule n) (ap (λ x. x + waits_for moved.value this) its_count ∙ moves) other_count

pub same_more : (w w' w'' : Work) → SameWork w w' → SameWork w' w'' → SameWork w w''
same_more w w' w'' a b = record { layer = b.layer ∙ a.layer; stack = b.stack ∙ a.stack; one_each = b.one_each ∙ a.one_each; sources = b.sources ∙ a.sources }

-- and the rules that begin or cease to hold by that are noted
pub record CountedEntries (p : Parts) (moved : ValueChange) (waiting : List RuleCondition) (i : ℕ) (w0 w : Work) : Type 0 where
  pub same : SameWork w0 w
  pub counters : CountersSoFar moved waiting i w0.counters w.counters
  pub crossed : (layer rule : ℕ) → IsRuleOn p layer rule → IsOnAgenda w.agenda layer rule ⊎ ((get_or w0.counters rule 0 ≡ 0) ↔ (get_or w.counters rule 0 ≡ 0))
  pub notes : NotesMore p (Waits waiting) w0.agenda w.agenda
  pub left : work_left w.agenda + 3 * length waiting ≤ work_left w0.agenda + 2 * i

-- none is counted, and only the price of the entries was paid
pub counted_none : (p : Parts) (moved : ValueChange) (waiting : List RuleCondition) (w : Work) (a' : Agenda) → IsOrdered w.agenda → a'.noted ≡ w.agenda.noted → a'.ready ≡ w.agenda.ready
    → a'.left + length waiting ≡ w.agenda.left
    → CountedEntries p moved waiting 0 w (record { layer = w.layer; counters = w.counters; stack = w.stack; sources = w.sources; agenda = a' })
counted_none p moved waiting w a' ordered noted ready left = record {
  same = record { layer = refl; stack = refl; one_each = refl; sources = refl };
  counters = counters_before moved waiting w.counters;
  crossed = λ layer rule is. inr ((λ z. z), (λ z. z));
  notes = record {
    keeps = λ layer rule there. rw noted there;
    only = rw noted (λ k d lt. inl (Contains-get_or (heap_items w.agenda.noted) k d lt));
    ordered = rw noted ordered;
    ready = ready;
  };
  left = (let n = ap (λ h. length (heap_items h)) noted in let r = ap (λ (v : Vec ℕ Global). length v.items) ready in omega arith);
}

module _ (p : Parts) (moved : ValueChange) (waiting : List RuleCondition) (i : ℕ) (w0 w : Work) (lt : i < length waiting) (counted : CountedEntries p moved waiting i w0 w) where
  -- an entry whose rule keeps its count
  pub entry_passed : waits_for moved.value (get_or waiting i no_entry) ≡ waits_for moved.former (get_or waiting i no_entry) → CountedEntries p moved waiting (i + 1) w0 w
  entry_passed same = grind (arith, counters_passed)

  module _ (n : ℕ) (w' : Work) (exists : (get_or waiting i no_entry).rule < length w0.counters) (same : SameWork w w') (counts : CountsTo p (get_or waiting i no_entry).rule n w w') where
    here : get_or w'.counters (get_or waiting i no_entry).rule 0 ≡ n
    here = its_count moved waiting i w0.counters w.counters lt counted.counters n w'.counters exists counts.counters

    other : (rule : ℕ) → (get_or waiting i no_entry).rule ≢ rule → get_or w'.counters rule 0 ≡ get_or w.counters rule 0
    other = other_count moved waiting i w0.counters w.counters lt counted.counters n w'.counters exists counts.counters

    crossed_still : (layer rule : ℕ) → IsRuleOn p layer rule → IsOnAgenda w'.agenda layer rule ⊎ ((get_or w0.counters rule 0 ≡ 0) ↔ (get_or w'.counters rule 0 ≡ 0))
    crossed_still layer rule is = elim (counted.crossed layer rule is) [
      | inl noted ↦ inl (counts.notes.keeps layer rule noted)
      | inr alike ↦ elim (cases_eq (get_or waiting i no_entry).rule rule) [
        | inr ne ↦ inr ((λ z. other rule ne ∙ alike.0 z), (λ z. alike.1 (sym (other rule ne) ∙ z)))
        | inl e ↦ elim (counts.crossed layer (subst (λ r. IsRuleOn p layer r) (sym e) is)) [
          | inl noted ↦ inl (subst (λ r. IsOnAgenda w'.agenda layer r) e noted)
          | inr now ↦ inr (
            (λ z. subst (λ r. get_or w'.counters r 0 ≡ 0) e (here ∙ now.0 (subst (λ r. get_or w.counters r 0 ≡ 0) (sym e) (alike.0 z)))),
            (λ z. alike.1 (subst (λ r. get_or w.counters r 0 ≡ 0) e (now.1 (sym here ∙ subst (λ r. get_or w'.counters r 0 ≡ 0) (sym e) z)))),
          )
        ]
      ]
    ]

    notes_still : NotesMore p (Waits waiting) w0.agenda w'.agenda
    notes_still = record {
      keeps = λ layer rule noted. counts.notes.keeps layer rule (counted.notes.keeps layer rule noted);
      only = λ k d below. elim (counts.notes.only k d below) [
        | inl there ↦ All-contains (λ (e : Reverse LayerRule). Contains (heap_items w0.agenda.noted) e ⊎ (IsRuleOn p e.0.layer e.0.rule × Waits waiting e.0.rule)) (heap_items w.agenda.noted) (get_or (heap_items w'.agenda.noted) k d) counted.notes.only there
        | inr new ↦ inr (new.0, (get_or waiting i no_entry, Contains-get_or waiting i no_entry lt, sym new.1))
      ];
      ordered = counts.notes.ordered;
      ready = counts.notes.ready ∙ counted.notes.ready;
    }

    -- an entry whose rule gets another count
    pub entry_counted : n + waits_for moved.value (get_or waiting i no_entry) ≡ get_or w.counters (get_or waiting i no_entry).rule 0 + waits_for moved.former (get_or waiting i no_entry)
        → CountedEntries p moved waiting (i + 1) w0 w'
    entry_counted moves = search (arith, same_more, counters_set, crossed_still, notes_still)
