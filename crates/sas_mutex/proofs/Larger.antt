-- The groups that contain more than one fact.
use Rattle.sas_mutex.proofs.Imports.{◌≡◌, ℕ, ◌<◌, ◌↔◌, List, [], ◌∷◌, ◌++◌, length, get_or, Option, None, Some, sym, ◌∙◌, ap, subst, inl, inr, arith, Contains, cases_lt, cases_eq, get_or_default, Contains-get_or, Contains-append_left, Contains-push, Contains-push_cases, contains_none, Fact, Parts, FactExists, Index, IsIndexOf, groups_of, larger_groups_of, facts_at, AreOwnLists, HasFact, HasFactBeside, AreLarger, AreLargerOfEach, fact_number, under}
use Rattle.sas_mutex.proofs.NotesOfFacts.{one_or_two}
use Rattle.std.specs.Prelude.{unwrap_or}

-- ---- one more group

module _ (p : Parts) (own : List (List Fact)) (groups larger : List ℕ) (group : ℕ) (are : AreLarger p own groups larger) where
  pub larger_more : group < length p.groups → 1 < length (facts_at p own group) → AreLarger p own (groups ++ group ∷ []) (larger ++ group ∷ [])
  larger_more exists more place = (
    (λ there. elim (Contains-push_cases larger group place there) [
      | inl before ↦ (let h = (are place).0 before in (Contains-append_left groups (group ∷ []) place h.0, h.1, h.2))
      | inr is ↦ (
        subst (λ n. Contains (groups ++ group ∷ []) n) is (Contains-push groups group),
        subst (λ n. n < length p.groups) is exists,
        subst (λ n. 1 < length (facts_at p own n)) is more,
      )
    ]),
    (λ its. elim (Contains-push_cases groups group place its.0) [
      | inl before ↦ Contains-append_left larger (group ∷ []) place ((are place).1 (before, its.1, its.2))
      | inr is ↦ subst (λ n. Contains (larger ++ group ∷ []) n) is (Contains-push larger group)
    ]),
  )

  pub larger_without : (group < length p.groups → 1 < length (facts_at p own group) → ⊥) → AreLarger p own (groups ++ group ∷ []) larger
  larger_without not place = (
    (λ there. (let h = (are place).0 there in (Contains-append_left groups (group ∷ []) place h.0, h.1, h.2))),
    (λ its. elim (Contains-push_cases groups group place its.0) [
      | inl before ↦ (are place).1 (before, its.1, its.2)
      | inr is ↦ absurd (not (subst (λ n. n < length p.groups) (sym is) its.1) (subst (λ n. 1 < length (facts_at p own n)) (sym is) its.2))
    ]),
  )

pub larger_of_none : (p : Parts) (own : List (List Fact)) → AreLarger p own [] []
larger_of_none p own place = ((λ there. absurd (contains_none place there)), (λ its. absurd (contains_none place its.0)))

-- ---- a group with more than one fact contains another one beside each

module _ (p : Parts) (own : List (List Fact)) (distinct : AreOwnLists p own) (place : ℕ) (fact : Fact) where
  beside : HasFact p place fact → 1 < length (facts_at p own place) → HasFactBeside p place fact
  beside has more =
      let are = distinct place has.exists in
      let facts = facts_at p own place in
      elim (one_or_two (get_or facts 0 fact) fact) [
        | inl is ↦ record {
          exists = has.exists;
          among = has.among;
          other = get_or facts 1 fact;
          beside = (are.same (get_or facts 1 fact)).0 (Contains-get_or facts 1 fact more);
          differ = λ same. are.once 0 1 fact (omega arith) more (is ∙ sym same);
        }
        | inr ne ↦ record {
          exists = has.exists;
          among = has.among;
          other = get_or facts 0 fact;
          beside = (are.same (get_or facts 0 fact)).0 (Contains-get_or facts 0 fact (omega arith));
          differ = ne;
        }
      ]

  several : HasFactBeside p place fact → 1 < length (facts_at p own place)
  several has =
      let are = distinct place has.exists in
      let facts = facts_at p own place in
      let (i, below, is) = (are.same fact).1 has.among in
      let (j, within, at) = (are.same has.other).1 has.beside in
      elim (cases_lt 1 (length facts)) [
        | inl more ↦ more
        | inr few ↦ absurd (has.differ (sym at ∙ (get_or_default facts j has.other fact within
            ∙ (ap (λ n. get_or facts n fact) (let e : j ≡ i = omega arith in e) ∙ is))))
      ]

-- the larger groups of a fact in the index
pub larger_groups_have : (p : Parts) (index : Index) (fact : Fact) (place : ℕ) → IsIndexOf p index → FactExists p.variables fact
    → Contains (larger_groups_of index fact) place ↔ HasFactBeside p place fact
larger_groups_have p index fact place indexed exists = by_lists index.larger indexed.larger
  where
    fewer : HasFactBeside p place fact → Contains (groups_of index fact) place
    fewer has = (indexed.groups fact exists place).1 (record { exists = has.exists; among = has.among })

    by_lists : (larger : Option (List (List ℕ))) → AreLargerOfEach p index.own_facts index.groups larger
        → Contains (under (unwrap_or larger index.groups) (fact_number index.firsts.items fact)) place ↔ HasFactBeside p place fact
    by_lists None not_one = (
      (λ there. (let has = (indexed.groups fact exists place).0 there in
          let within = ((indexed.facts place has.exists).same fact).1 has.among in
          let low = within.1 in
          let ne = not_one place has.exists in
          beside p index.own_facts indexed.facts place fact has (elim (cases_eq (length (facts_at p index.own_facts place)) 1) [
            | inl one ↦ absurd (ne one)
            | inr more ↦ omega arith
          ]))),
      fewer,
    )
    by_lists (Some larger) are = (
      (λ there. (let its = (are (fact_number index.firsts.items fact) place).0 there in
          beside p index.own_facts indexed.facts place fact ((indexed.groups fact exists place).0 its.0) its.2)),
      (λ has. (are (fact_number index.firsts.items fact) place).1 (fewer has, has.exists, several p index.own_facts indexed.facts place fact has)),
    )
