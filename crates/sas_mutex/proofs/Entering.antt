-- The entries of groups by the numbers of their facts.
use Rattle.sas_mutex.proofs.Imports.{◌≡◌, ℕ, ◌+◌, ◌-◌, ◌<◌, ◌≤◌, ◌↔◌, List, ◌++◌, length, get_or, refl, sym, ap, subst, ◌∙◌, inl, inr, arith, All, Contains, IsNonDecreasingBy, cases_eq, cases_lt, get_or_append_left, get_or-append_right, length-append, Contains-get_or, Contains-append_left, Contains-append_right, Contains-append_cases, Fact, Parts, group_at, FactExists, WellRanged, common_steps, facts_at, AreOwnLists, facts_below, fact_number, entries_of, AreFirstNumbers, AreByFact, HasFact, under, holds_at, Entry, by_key, under_holds, under_ascends, fact_within}
use Rattle.sas_mutex.proofs.InLists.{in_map, from_map}
use Rattle.sas_mutex.proofs.Numbering.{number_low, one_number}

-- the facts of groups exist
pub group_fact_exists : (p : Parts) (group : ℕ) (fact : Fact) → WellRanged p → group < length p.groups → Contains (group_at p group) fact → FactExists p.variables fact
group_fact_exists p group fact ranged lt there = grind (arith, common_steps, holds_at)

-- the facts of a group, each once
module _ (p : Parts) (own : List (List Fact)) (ranged : WellRanged p) (distinct : AreOwnLists p own) where
  pub own_fact_exists : (group : ℕ) (fact : Fact) → group < length p.groups → Contains (facts_at p own group) fact → FactExists p.variables fact
  own_fact_exists group fact lt there = group_fact_exists p group fact ranged lt (((distinct group lt).same fact).0 there)

  -- they are on variables that have a first number
  pub group_numbered : (firsts : List ℕ) (group : ℕ) → length firsts ≡ length p.variables → group < length p.groups
      → All (λ (f : Fact). f.var < length firsts) (facts_at p own group)
  group_numbered firsts group one_each lt k d within =
      let facts = facts_at p own group in
      let fact = get_or facts k d in
      let below = fact_within p fact.var fact.value (own_fact_exists group fact lt (Contains-get_or facts k d within)) in
      omega arith

-- entries of higher items come behind the others
ascends_append : (k : ℕ) (entries more : List (Entry ℕ)) → IsNonDecreasingBy (λ (e : Entry ℕ). e.item) entries → ((e : Entry ℕ) → Contains entries e → e.item < k)
    → ((e : Entry ℕ) → Contains more e → e.item ≡ k) → IsNonDecreasingBy (λ (e : Entry ℕ). e.item) (entries ++ more)
ascends_append k entries more up low high i j d le lt = elim (cases_lt j (length entries)) [
  | inl within ↦ (let ordered = up i j d le within in
      omega (arith, item_before i (omega arith), item_before j within))
  | inr behind ↦ elim (cases_lt i (length entries)) [
    | inl within ↦ (let lower = low (get_or entries i d) (Contains-get_or entries i d within) in
        omega (arith, item_before i within, item_behind j behind lt))
    | inr from ↦ omega (arith, item_behind i from (omega arith), item_behind j behind lt)
  ]
]
  where
    item_before : (n : ℕ) → n < length entries → (get_or (entries ++ more) n d).item ≡ (get_or entries n d).item
    item_before n within = ap (λ (e : Entry ℕ). e.item) (get_or_append_left entries more d n within)

    item_behind : (n : ℕ) → length entries ≤ n → n < length (entries ++ more) → (get_or (entries ++ more) n d).item ≡ k
    item_behind n from within =
        let there : n - length entries < length more = omega (arith, length-append entries more) in
        ap (λ (e : Entry ℕ). e.item) (get_or-append_right entries more (length entries) n d refl from)
        ∙ high (get_or more (n - length entries) d) (Contains-get_or more (n - length entries) d there)

-- the entry of a place for a fact
abbrev entry_of : List ℕ → ℕ → Fact → Entry ℕ
entry_of firsts place fact = record { key = fact_number firsts fact; item = place }

-- the entries of the first `k` places; each has these facts
pub record EnteredUpTo (firsts : List ℕ) (facts_of : ℕ → List Fact) (k : ℕ) (entries : List (Entry ℕ)) : Type 0 where
  pub only : (e : Entry ℕ) → Contains entries e → (e.item < k) × ((f : Fact) × Contains (facts_of e.item) f × (fact_number firsts f ≡ e.key))
  pub each : (place : ℕ) (f : Fact) → place < k → Contains (facts_of place) f → Contains entries (record { key = fact_number firsts f; item = place })
  pub ascending : IsNonDecreasingBy (λ (e : Entry ℕ). e.item) entries

pub entered_more : (firsts : List ℕ) (facts_of : ℕ → List Fact) (k : ℕ) (entries : List (Entry ℕ)) → EnteredUpTo firsts facts_of k entries
    → EnteredUpTo firsts facts_of (k + 1) (entries ++ entries_of firsts k (facts_of k))
entered_more firsts facts_of k entries up = record {
  only = λ e there. elim (Contains-append_cases entries (entries_of firsts k (facts_of k)) e there) [
    | inl before ↦ (let h = up.only e before in ((let lt = h.0 in omega arith), h.1))
    | inr new ↦ (let h = from_map (entry_of firsts k) (facts_of k) e (record { var = 0; value = 0 }) new in
        let its : k ≡ e.item = ap (λ (x : Entry ℕ). x.item) h.2 in
        ((let i = its in omega arith), (h.0, subst (λ n. Contains (facts_of n) h.0) its h.1, ap (λ (x : Entry ℕ). x.key) h.2)))
  ];
  each = λ place f lt there. elim (cases_eq place k) [
    | inl e ↦ Contains-append_right entries (entries_of firsts k (facts_of k)) (entry_of firsts place f)
        (subst (λ n. Contains (entries_of firsts k (facts_of k)) (entry_of firsts n f)) (sym e)
        (in_map (entry_of firsts k) (facts_of k) f (subst (λ n. Contains (facts_of n) f) e there)))
    | inr ne ↦ Contains-append_left entries (entries_of firsts k (facts_of k)) (entry_of firsts place f) (up.each place f (omega arith) there)
  ];
  ascending = ascends_append k entries (entries_of firsts k (facts_of k)) up.ascending (λ e there. (up.only e there).0)
      (λ e there. (let h = from_map (entry_of firsts k) (facts_of k) e (record { var = 0; value = 0 }) there in ap (λ (x : Entry ℕ). x.item) (sym h.2)));
}

-- the facts of the first `n` places exist
abbrev pub AllExist : Parts → (ℕ → List Fact) → ℕ → Type 0
AllExist p facts_of n = (place : ℕ) (f : Fact) → place < n → Contains (facts_of place) f → FactExists p.variables f

-- the keys are numbers of facts
pub entered_low : (p : Parts) (firsts : List ℕ) (facts_of : ℕ → List Fact) (n : ℕ) (entries : List (Entry ℕ)) → AreFirstNumbers p firsts → AllExist p facts_of n
    → EnteredUpTo firsts facts_of n entries → All (λ (e : Entry ℕ). e.key < facts_below p (length p.variables)) entries
entered_low p firsts facts_of n entries are exist up k d lt =
    let e = get_or entries k d in
    let h = up.only e (Contains-get_or entries k d lt) in
    let low = number_low p firsts h.1.0 are (exist e.item h.1.0 h.0 h.1.1) in
    let is = h.1.2 in
    omega arith

-- by key, these entries have the places of each fact under the fact's number, in ascending order
pub entered_by_fact : (p : Parts) (firsts : List ℕ) (facts_of : ℕ → List Fact) (n : ℕ) (entries : List (Entry ℕ)) → AreFirstNumbers p firsts
    → AllExist p facts_of n → ((place : ℕ) (f : Fact) → HasFact p place f ↔ ((place < n) × Contains (facts_of place) f)) → EnteredUpTo firsts facts_of n entries
    → AreByFact p firsts (by_key entries (facts_below p (length p.variables)))
entered_by_fact p firsts facts_of n entries are exist has up = record {
  are = λ fact exists place. (
    (λ there. (let h = up.only (entry_of firsts place fact) ((holds fact place).0 there) in
        let other = exist place h.1.0 h.0 h.1.1 in
        let same = one_number p firsts h.1.0 fact are other exists h.1.2 in
        (has place fact).1 (h.0, subst (λ f. Contains (facts_of place) f) same h.1.1))),
    (λ its. (let h = (has place fact).0 its in (holds fact place).1 (up.each place fact h.0 h.1))),
  );
  ascending = λ key. under_ascends entries (facts_below p (length p.variables)) key (entered_low p firsts facts_of n entries are exist up) up.ascending;
}
  where
    holds : (fact : Fact) (place : ℕ)
        → Contains (under (by_key entries (facts_below p (length p.variables))) (fact_number firsts fact)) place ↔ Contains entries (entry_of firsts place fact)
    holds fact place = under_holds entries (facts_below p (length p.variables)) (fact_number firsts fact) place (entered_low p firsts facts_of n entries are exist up)

-- the facts of the groups
pub group_facts_exist : (p : Parts) (own : List (List Fact)) → WellRanged p → AreOwnLists p own → AllExist p (facts_at p own) (length p.groups)
group_facts_exist p own ranged distinct group f lt there = own_fact_exists p own ranged distinct group f lt there

pub group_has : (p : Parts) (own : List (List Fact)) → AreOwnLists p own → (group : ℕ) (f : Fact)
    → HasFact p group f ↔ ((group < length p.groups) × Contains (facts_at p own group) f)
group_has p own distinct group f = (
  (λ has. (has.exists, ((distinct group has.exists).same f).1 has.among)),
  (λ h. record { exists = h.0; among = ((distinct group h.0).same f).0 h.1 }),
)
