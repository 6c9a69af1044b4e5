-- The index of all conditions, and how the counters change with the value of a variable.
use Rattle.sas_axioms.proofs.Imports.{◌≡◌, ◌≢◌, ℕ, ◌+◌, ◌<◌, ◌≤◌, ◌==◌, ◌&&◌, ◌^◌, Bool, true, false, cond, List, [], ◌∷◌, ◌++◌, length, get_or, set, refl, sym, ◌∙◌, ap, subst, inl, inr, arith, All, get_or-set_same, get_or-set_other, length-set, cases_eq, eq-eqb, eqb_tells, All-nil, All-cons, All-tail, All-append, All-weaker, Fact, Parts, rule_at, WellRanged, Entry, ValueChange, RuleCondition, IsRuleOn, asking, waiting_entry, waiting_at, released, occurrences, open_conditions, IsOfRule, entries, IsFullIndex, AreCounted, AreCountedBy, items_of, by_key, length-table, items_none, items_cons, under_key, all_items, condition_within, rule_fits}
use Rattle.sas_axioms.proofs.CountingEntries.{CanRecount}

-- ---- building the index

-- the entry belongs to a rule that can fire, and its variable exists
pub record IsCondition (p : Parts) (e : Entry RuleCondition) : Type 0 where
  pub of_rule : IsOfRule p e.item
  pub exists : e.key < length p.variables

-- whether an entry is the rule's, and for the fact
abbrev counted : ℕ → ℕ → ℕ → Entry RuleCondition → ℕ
counted rule var value e = cond ((e.item.rule == rule) && ((e.key == var) && (e.item.value == value))) 1 0

-- whether a condition is the fact
abbrev asked : ℕ → ℕ → Fact → ℕ
asked var value c = cond ((c.var == var) && (c.value == value)) 1 0

-- how many entries the rule has for the fact
abbrev pub waits : ℕ → ℕ → ℕ → List (Entry RuleCondition) → ℕ
waits rule var value [] = 0
waits rule var value (e ∷ es) = cond ((e.item.rule == rule) && ((e.key == var) && (e.item.value == value))) 1 0 + waits rule var value es

waits_append : (rule var value : ℕ) (ws ws' : List (Entry RuleCondition)) → waits rule var value (ws ++ ws') ≡ waits rule var value ws + waits rule var value ws'
waits_append rule var value [] ws' = omega arith
waits_append rule var value (w ∷ ws) ws' = let ih = waits_append rule var value ws ws' in omega arith

-- an entry of a rule's own condition
counted_own : (rule var value : ℕ) (c : Fact) → counted rule var value (waiting_entry c rule) ≡ asked var value c
counted_own rule var value c = rw (eq-eqb rule rule refl) refl

-- an entry of another rule
counted_other : (other rule var value : ℕ) (c : Fact) → other ≢ rule → counted other var value (waiting_entry c rule) ≡ 0
counted_other other rule var value c ne = elim (eqb_tells rule other) [ inl e ↦ absurd (ne (sym e.1)) | inr e ↦ rw e.0 refl ]

-- what waits for a value of it is counted as released
released_counts : (rule var value : ℕ) (es : List (Entry RuleCondition)) → occurrences rule (released value (items_of var es)) ≡ waits rule var value es
released_counts rule var value [] = ap (λ ws. occurrences rule (released value ws)) (items_none var)
released_counts rule var value (e ∷ es) =
    let ih = released_counts rule var value es in
    let split = ap (λ ws. occurrences rule (released value ws)) (items_cons var e es) in
    split ∙ elim (eqb_tells e.key var) [
      | inr a ↦ elim (eqb_tells e.item.rule rule) [ inl f ↦ rw (a.0, f.0) (omega arith) | inr f ↦ rw (a.0, f.0) (omega arith) ]
      | inl a ↦ elim (eqb_tells e.item.value value) [
        | inl b ↦ elim (eqb_tells e.item.rule rule) [ inl f ↦ rw (a.0, b.0, f.0) (omega arith) | inr f ↦ rw (a.0, b.0, f.0) (omega arith) ]
        | inr b ↦ elim (eqb_tells e.item.rule rule) [ inl f ↦ rw (a.0, b.0, f.0) (omega arith) | inr f ↦ rw (a.0, b.0, f.0) (omega arith) ]
      ]
    ]

waits_own : (rule var value : ℕ) (cs : List Fact) → waits rule var value (entries rule cs) ≡ asking var value cs
waits_own rule var value [] = refl
waits_own rule var value (c ∷ cs) = let ih = waits_own rule var value cs in let e = counted_own rule var value c in omega arith

waits_other : (other rule var value : ℕ) (cs : List Fact) → other ≢ rule → waits other var value (entries rule cs) ≡ 0
waits_other other rule var value [] ne = refl
waits_other other rule var value (c ∷ cs) ne = let ih = waits_other other rule var value cs ne in let e = counted_other other rule var value c ne in omega arith

all_entries : (p : Parts) (rule : ℕ) (cs : List Fact) → IsOfRule p (record { value = 0; rule = rule }) → All (λ (c : Fact). c.var < length p.variables) cs → All (IsCondition p) (entries rule cs)
all_entries p rule [] of_rule exist = All-nil (IsCondition p)
all_entries p rule (c ∷ cs) of_rule exist =
    All-cons (IsCondition p) (waiting_entry c rule) (entries rule cs) (record { of_rule = of_rule; exists = exist 0 c (omega arith) })
    (all_entries p rule cs of_rule (All-tail (λ (c : Fact). c.var < length p.variables) c cs exist))

-- the conditions of the first `k` rules
pub record ConditionsUpTo (p : Parts) (k : ℕ) (ws : List (Entry RuleCondition)) : Type 0 where
  pub only : All (IsCondition p) ws
  pub each : (layer var value rule : ℕ) → rule < k → IsRuleOn p layer rule → waits rule var value ws ≡ asking var value (rule_at p rule).conditions
  pub later : (var value rule : ℕ) → k ≤ rule → waits rule var value ws ≡ 0

pub conditions_skip : (p : Parts) (k : ℕ) (ws : List (Entry RuleCondition)) → ((layer : ℕ) → IsRuleOn p layer k → ⊥) → ConditionsUpTo p k ws → ConditionsUpTo p (k + 1) ws
conditions_skip p k ws not up = grind (arith, cases_eq)

pub conditions_more : (p : Parts) (k layer : ℕ) (ws : List (Entry RuleCondition)) → WellRanged p → IsRuleOn p layer k → ConditionsUpTo p k ws → ConditionsUpTo p (k + 1) (ws ++ entries k (rule_at p k).conditions)
conditions_more p k layer ws ranged here up = record {
  only = All-append (IsCondition p) ws (entries k (rule_at p k).conditions) up.only
      (all_entries p k (rule_at p k).conditions (layer, here) (λ j d lt. condition_within p k j d ranged here.exists lt));
  each = λ m var value rule lt is.
      (let split = waits_append rule var value ws (entries k (rule_at p k).conditions) in
      elim (cases_eq rule k) [
        | inl e ↦ subst (λ i. waits i var value (ws ++ entries k (rule_at p k).conditions) ≡ asking var value (rule_at p i).conditions) (sym e)
            (let split' = waits_append k var value ws (entries k (rule_at p k).conditions) in
            let own = waits_own k var value (rule_at p k).conditions in
            let none = up.later var value k (omega arith) in omega arith)
        | inr ne ↦ (let before = up.each m var value rule (omega arith) is in
            let none = waits_other rule k var value (rule_at p k).conditions ne in omega arith)
      ]);
  later = λ var value rule le.
      (let split = waits_append rule var value ws (entries k (rule_at p k).conditions) in
      let none = waits_other rule k var value (rule_at p k).conditions (λ e. absurd (omega arith)) in
      let before = up.later var value rule (omega arith) in omega arith);
}

pub conditions_exist : (p : Parts) (k : ℕ) (ws : List (Entry RuleCondition)) → ConditionsUpTo p k ws → All (λ (e : Entry RuleCondition). e.key < length p.variables) ws
conditions_exist p k ws is = All-weaker (IsCondition p) (λ (e : Entry RuleCondition). e.key < length p.variables) (λ w h. h.exists) ws is.only

-- by key, the conditions are an index of all
pub conditions_index : (p : Parts) (k : ℕ) (es : List (Entry RuleCondition)) → k ≡ length p.rules → ConditionsUpTo p k es → IsFullIndex p (by_key es (length p.variables))
conditions_index p k es all is = record {
  one_each = length-table (length p.variables) (λ var. items_of var es);
  only = λ var. subst (All (IsOfRule p)) (sym (under var))
      (all_items (λ (var : ℕ) (w : RuleCondition). IsOfRule p w) es var (All-weaker (IsCondition p) (λ (e : Entry RuleCondition). IsOfRule p e.item) (λ e h. h.of_rule) es is.only));
  each = λ layer var value rule here. ap (λ ws. occurrences rule (released value ws)) (under var)
      ∙ released_counts rule var value es ∙ is.each layer var value rule (let lt = here.exists in omega arith) here;
}
  where
    under : (var : ℕ) → get_or (by_key es (length p.variables)) var [] ≡ items_of var es
    under var = under_key es (length p.variables) var (conditions_exist p k es is)

-- ---- counts

-- a condition on the variable is open or asks for its value
one_condition : (value : ℕ → ℕ) (v : ℕ) (c : Fact) → c.var ≡ v → cond (value c.var == c.value) 0 1 + asked v (value v) c ≡ 1
one_condition value v c e = grind (arith, eqb_tells, eq-eqb)

-- where one variable's value changes, the conditions that asked for the old one open, and those
-- that ask for the new one close
pub open_changed : (value value' : ℕ → ℕ) (v : ℕ) (cs : List Fact) → ((u : ℕ) → u ≢ v → value u ≡ value' u)
    → open_conditions value' cs + asking v (value' v) cs ≡ open_conditions value cs + asking v (value v) cs
open_changed value value' v [] same = refl
open_changed value value' v (c ∷ cs) same =
    let ih = open_changed value value' v cs same in
    elim (eqb_tells c.var v) [
      | inl e ↦ (let a = one_condition value v c e.1 in let b = one_condition value' v c e.1 in omega arith)
      | inr ne ↦ rw (ne.0, same c.var ne.1) (omega arith)
    ]

bit : (b : Bool) → (cond b 1 0 ≤ 1) × (cond b 0 1 ≤ 1)
bit true = (omega arith, omega arith)
bit false = (omega arith, omega arith)

pub asking_length : (v x : ℕ) (cs : List Fact) → asking v x cs ≤ length cs
asking_length v x [] = omega arith
asking_length v x (c ∷ cs) = let ih = asking_length v x cs in let b = (bit ((c.var == v) && (c.value == x))).0 in omega arith

pub open_length : (value : ℕ → ℕ) (cs : List Fact) → open_conditions value cs ≤ length cs
open_length value [] = omega arith
open_length value (c ∷ cs) = let ih = open_length value cs in let b = (bit (value c.var == c.value)).1 in omega arith

-- a condition that asks for another value is open
pub asking_open : (value : ℕ → ℕ) (v x : ℕ) (cs : List Fact) → value v ≢ x → asking v x cs ≤ open_conditions value cs
asking_open value v x [] ne = omega arith
asking_open value v x (c ∷ cs) ne =
    let ih = asking_open value v x cs ne in
    elim (eqb_tells (value c.var) c.value) [
      | inr h ↦ (let b = (bit ((c.var == v) && (c.value == x))).0 in rw h.0 (omega arith))
      | inl h ↦ elim (eqb_tells c.var v) [
        | inr e ↦ rw (h.0, e.0) (omega arith)
        | inl e ↦ elim (eqb_tells c.value x) [
          | inr z ↦ rw (h.0, e.0, z.0) (omega arith)
          | inl z ↦ absurd (ne (sym (ap value e.1) ∙ (h.1 ∙ z.1)))
        ]
      ]
    ]

-- ---- counting anew what waits for a variable that gets another value

pub can_recount : (p : Parts) (index : List (List RuleCondition)) (var : ℕ) → IsFullIndex p index → (seen : ℕ → ℕ) (counters : List ℕ) → length counters ≡ length p.rules → AreCountedBy p seen counters
    → WellRanged p → (moved : ValueChange) → seen var ≡ moved.former → moved.former ≢ moved.value → CanRecount moved (waiting_at index var) counters
can_recount p index var is_index seen counters one_each counts ranged moved was differ = record {
  differ = differ;
  exist = λ k d lt. omega (arith, (is_index.only var k d lt).1.exists, one_each);
  small = λ k d lt. small (get_or (waiting_at index var) k d).rule (is_index.only var k d lt);
  enough = λ k d lt. enough (get_or (waiting_at index var) k d).rule (is_index.only var k d lt);
}
  where
    small : (rule : ℕ) → (layer : ℕ) × IsRuleOn p layer rule → get_or counters rule 0 + occurrences rule (released moved.former (waiting_at index var)) < 2 ^ 32
    small rule is =
        let few = (rule_fits p ranged rule is.1.exists).conditions.count in
        let a = asking_length var moved.former (rule_at p rule).conditions in
        let b = open_length seen (rule_at p rule).conditions in
        let e = counts is.0 rule is.1 in
        let f = is_index.each is.0 var moved.former rule is.1 in
        omega arith

    enough : (rule : ℕ) → (layer : ℕ) × IsRuleOn p layer rule → occurrences rule (released moved.value (waiting_at index var)) ≤ get_or counters rule 0
    enough rule is =
        let a = asking_open seen var moved.value (rule_at p rule).conditions (λ e. differ (sym was ∙ e)) in
        let e = counts is.0 rule is.1 in
        let h = is_index.each is.0 var moved.value rule is.1 in
        omega arith

module _ (p : Parts) (index : List (List RuleCondition)) (var : ℕ) (is_index : IsFullIndex p index) (exists : var < length p.variables)
    (counted counters : List ℕ) (counts : AreCounted p counted counters) where
  module _ (value : ℕ) where
    changed : (rule : ℕ) → open_conditions (λ v. get_or (set counted var value) v 0) (rule_at p rule).conditions + asking var value (rule_at p rule).conditions
        ≡ open_conditions (λ v. get_or counted v 0) (rule_at p rule).conditions + asking var (get_or counted var 0) (rule_at p rule).conditions
    changed rule =
        let same : get_or (set counted var value) var 0 ≡ value = get_or-set_same counted var value 0 (let l = counts.known in omega (arith, exists)) in
        let e = open_changed (λ v. get_or counted v 0) (λ v. get_or (set counted var value) v 0) var (rule_at p rule).conditions (λ u ne. sym (get_or-set_other counted var u value 0 ne)) in
        rw same at e

    pub recounted : (counters' : List ℕ) → length counters' ≡ length counters
        → ((rule : ℕ) → rule < length counters → get_or counters' rule 0 + occurrences rule (released value (waiting_at index var))
        ≡ get_or counters rule 0 + occurrences rule (released (get_or counted var 0) (waiting_at index var)))
        → AreCounted p (set counted var value) counters'
    recounted counters' one_each moved = record {
      one_each = one_each ∙ counts.one_each;
      known = length-set counted var value ∙ counts.known;
      exact = λ layer rule is.
          (let a = changed rule in
          let b = moved rule (let l = counts.one_each in omega (arith, is.exists)) in
          let e = counts.exact layer rule is in
          let f = is_index.each layer var (get_or counted var 0) rule is in
          let h = is_index.each layer var value rule is in
          omega arith);
    }
