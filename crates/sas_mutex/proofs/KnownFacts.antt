-- Which facts are known according to the notes, and that they don't clash.
use Rattle.sas_mutex.proofs.Imports.{rules, common_steps, ◌≡◌, ◌≢◌, ◌⊎◌, ℕ, ◌<◌, Bool, [], length, List, ◌∷◌, ◌++◌, Option, None, Some, subst, refl, sym, ap, ◌∙◌, inl, inr, arith, All, Contains, option_to_list, IfSome, cases_eq, get_or_default, get_or-set_same, get_or-set_other, All-contains, Contains-append_left, Contains-push, Contains-push_cases, Fact, Parts, group_at, FactExists, Contradict, Clash, Index, same_Some, contains_none, IsKept, ShareOne, AreKnown, Notes, GroupNote, Nothing, One, Several, IsIndexOf, HasFact, groups_of, value_note, group_note, IsWide, AreBlank, AreFrom, IsValueNote, IsOfGroup, IsOfGroupBeside, IsNoteOf, IsGroupNote, NotesForGroup, ShareKept, IsContradicted, ChangesAt, IsThere, NotesFirstFact, IsSetApart}
use Rattle.sas_mutex.proofs.InLists.{is_among}
use Rattle.sas_mutex.proofs.Existing.{variable_below}
use Rattle.sas_mutex.proofs.NotesOfFacts.{none_or_some, apart_or_not, value_note_shows, no_value_note_shows, value_note_of, note_stays, note_changes, other_known, no_other, from_apart, noted_still}

-- where several are, they clash if the group counts
pub several_clash : (p : Parts) (Counts : List Fact → Type 0) (facts : List Fact) (place : ℕ) → Counts (group_at p place)
    → IsGroupNote p facts place Several → Clash Counts facts
several_clash p Counts facts place counts (f, g, of_f, of_g, differ) =
    (f, g, of_f.among, of_g.among, inr (record { differ = differ; group = group_at p place; counts = counts; first = of_f.has.among; second = of_g.has.among }))

-- where not one fact of a group that counts is noted, none is, unless the facts clash
pub none_if_not_one : (p : Parts) (facts : List Fact) (place : ℕ) (Counts : List Fact → Type 0) → Counts (group_at p place)
    → (Clash Counts facts → ⊥) → (noted : GroupNote) → IsGroupNote p facts place noted → ((f : Fact) → noted ≢ One f)
    → (f : Fact) → IsOfGroup p facts place f → ⊥
none_if_not_one p facts place Counts counts apart Nothing is not_one f of = is f of
none_if_not_one p facts place Counts counts apart (One one) is not_one f of = not_one one refl
none_if_not_one p facts place Counts counts apart Several is not_one f of = apart (several_clash p Counts facts place counts is)

-- facts contradict each other, whichever is named first
pub contradict_turned : (Counts : List Fact → Type 0) (f g : Fact) → Contradict Counts f g → Contradict Counts g f
contradict_turned h1 f g (inl w) = inl (sym w.0, λ e. w.1 (sym e))
contradict_turned h1 f g (inr one) = inr (record { differ = λ e. one.differ (sym e); group = one.group; counts = one.counts; first = one.second; second = one.first })

pub not_itself : (Counts : List Fact → Type 0) (f : Fact) → Contradict Counts f f → ⊥
not_itself h1 f h2 = elim h2 [ inl w ↦ w.1 refl | inr one ↦ one.differ refl ]

-- two facts of which a group that is kept has both
pub shares_contradicts : (p : Parts) (index : Index) (kept : List Bool) (f g : Fact) → IsIndexOf p index → FactExists p.variables f → FactExists p.variables g
    → f ≢ g → ShareKept index kept f g → Contradict (IsKept p kept) f g
shares_contradicts p index kept f g indexed f_exists g_exists differ share =
    let first : HasFact p share.place f = (indexed.groups f f_exists share.place).0 share.first in
    let second : HasFact p share.place g = (indexed.groups g g_exists share.place).0 share.second in
    inr (record {
      differ = differ;
      group = group_at p share.place;
      counts = (share.place, record { exists = first.exists; chosen = share.kept_there }, refl);
      first = first.among;
      second = second.among;
    })

-- a group that is kept has both, or they are two values of a variable
pub contradicts_shares : (p : Parts) (index : Index) (kept : List Bool) (f g : Fact) → IsIndexOf p index → FactExists p.variables f → FactExists p.variables g
    → f.var ≢ g.var → Contradict (IsKept p kept) f g → ShareKept index kept f g
contradicts_shares p index kept f g indexed f_exists g_exists apart (inl (var, value)) = absurd (apart var)
contradicts_shares p index kept f g indexed f_exists g_exists apart (inr one) =
    let (place, in_family, same) = one.counts in
    record {
      place = place;
      first = (indexed.groups f f_exists place).1 (record { exists = in_family.exists; among = subst (λ (facts : List Fact). Contains facts f) same one.first });
      second = (indexed.groups g g_exists place).1 (record { exists = in_family.exists; among = subst (λ (facts : List Fact). Contains facts g) same one.second });
      kept_there = in_family.chosen;
    }

-- what is known by notes is so by others that say the same
known_same : (p : Parts) (kept : List Bool) (facts : List Fact) (old new : Notes) → new.values ≡ old.values → new.groups ≡ old.groups → new.apart ≡ old.apart
    → AreKnown p kept facts old → AreKnown p kept facts new
known_same p kept facts old new values groups apart known = record {
  noted = record {
    values = λ var lt. subst (λ vs. IsValueNote facts var (value_note vs var)) (sym values) (known.noted.values var lt);
    groups = λ place lt. subst (λ gs. IsNoteOf (IsOfGroupBeside p facts new.apart place) (group_note gs place)) (sym groups)
        (subst (λ (one : Option Fact). IsNoteOf (IsOfGroupBeside p facts one place) (group_note old.groups place)) (sym apart) (known.noted.groups place lt));
    one_apart = λ f e. known.noted.one_apart f (sym apart ∙ e);
  };
  apart = known.apart;
}

-- the same facts, named otherwise, are known
pub known_alike : (p : Parts) (kept : List Bool) (facts others : List Fact) (notes : Notes) → ((f : Fact) → Contains facts f → Contains others f)
    → ((f : Fact) → Contains others f → Contains facts f) → AreKnown p kept facts notes → AreKnown p kept others notes
known_alike p kept facts others notes there back known = record {
  noted = record {
    values = λ var lt. value_note_of others var (value_note notes.values var)
        (λ value at. there (record { var = var; value = value }) (value_note_shows facts var value (value_note notes.values var) (known.noted.values var lt) at))
        (λ none f among. no_value_note_shows facts var (value_note notes.values var) (known.noted.values var lt) none f (back f among));
    groups = λ place lt. note_stays (IsOfGroupBeside p facts notes.apart place) (IsOfGroupBeside p others notes.apart place) (record { var = 0; value = 0 })
        (λ f is. record { of = record { among = there f is.of.among; has = is.of.has }; beside = is.beside })
        (λ f is. inl (record { of = record { among = back f is.of.among; has = is.of.has }; beside = is.beside })) (group_note notes.groups place)
        (λ f is. record { of = record { among = back f is.of.among; has = is.of.has }; beside = is.beside }) (known.noted.groups place lt);
    one_apart = λ f e. there f (known.noted.one_apart f e);
  };
  apart = λ clash. known.apart (clash.0, clash.1, back clash.0 clash.2, back clash.1 clash.3, clash.4);
}

-- a group that is kept has both, by the index or by the task
pub share_one : (p : Parts) (index : Index) (kept : List Bool) (f g : Fact) → IsIndexOf p index → FactExists p.variables f → FactExists p.variables g
    → ShareKept index kept f g → ShareOne p kept f g
share_one p index kept f g indexed f_exists g_exists share =
    let first : HasFact p share.place f = (indexed.groups f f_exists share.place).0 share.first in
    let second : HasFact p share.place g = (indexed.groups g g_exists share.place).0 share.second in
    record {
      place = share.place;
      in_family = record { exists = first.exists; chosen = share.kept_there };
      first = first.among;
      second = second.among;
    }

pub share_kept : (p : Parts) (index : Index) (kept : List Bool) (f g : Fact) → IsIndexOf p index → FactExists p.variables f → FactExists p.variables g
    → ShareOne p kept f g → ShareKept index kept f g
share_kept p index kept f g indexed f_exists g_exists share = record {
  place = share.place;
  first = (indexed.groups f f_exists share.place).1 (record { exists = share.in_family.exists; among = share.first });
  second = (indexed.groups g g_exists share.place).1 (record { exists = share.in_family.exists; among = share.second });
  kept_there = share.in_family.chosen;
}

-- at first one fact is known at most: the one apart
module _ (p : Parts) (kept : List Bool) (old new : Notes) (blank : AreBlank p old) where
  pub known_apart : (apart : Option Fact) → IsSetApart apart old new → ((f : Fact) → apart ≡ Some f → FactExists p.variables f) → AreKnown p kept (option_to_list apart) new
  known_apart h1 is_set exists = grind (arith, value_note_of, none_or_some, contains_none, rules, cases_eq, same_Some, not_itself, get_or-set_same, variable_below, get_or-set_other)

module _ (p : Parts) (index : Index) (kept : List Bool) (before : List Fact) (old : Notes) (indexed : IsIndexOf p index) (wide : IsWide p old)
    (there : (f : Fact) → Contains before f → FactExists p.variables f)
    (known : AreKnown p kept before old) (fact : Fact) (exists : FactExists p.variables fact) where
  on_variable : fact.var < length p.variables
  on_variable = variable_below p fact exists

  -- facts of which one more stands there already
  pub known_already : (new : Notes) → IsThere fact old new → AreKnown p kept (before ++ fact ∷ []) new
  known_already new is_there = known_same p kept (before ++ fact ∷ []) old new is_there.same_values is_there.same_groups is_there.same_apart
      (known_alike p kept before (before ++ fact ∷ []) old (Contains-append_left before (fact ∷ [])) was_in known)
    where
      here : Contains before fact
      here = value_note_shows before fact.var fact.value (value_note old.values fact.var) (known.noted.values fact.var on_variable) is_there.noted

      was_in : (f : Fact) → Contains (before ++ fact ∷ []) f → Contains before f
      was_in f in_all = elim (Contains-push_cases before fact f in_all) [ inl w ↦ w | inr e ↦ subst (Contains before) e here ]

  -- a fact that is refused contradicts one of those before
  pub refused : IsContradicted index kept fact old
      → (g : Fact) × Contains before g × Contradict (IsKept p kept) fact g
  refused (inl (value, at, differs)) =
      let there = value_note_shows before fact.var value (value_note old.values fact.var) (known.noted.values fact.var on_variable) at in
      (record { var = fact.var; value = value }, there, inl (refl, λ e. differs (sym e)))
  refused (inr (inl is)) =
      let has : HasFact p is.place fact = (indexed.groups fact exists is.place).0 is.among in
      let (other, of, differ) = other_known (IsOfGroupBeside p before old.apart is.place) fact (group_note old.groups is.place) is.other (known.noted.groups is.place has.exists) in (
        other,
        of.of.among,
        inr (record {
          differ = differ;
          group = group_at p is.place;
          counts = (is.place, record { exists = has.exists; chosen = is.kept_there }, refl);
          first = has.among;
          second = of.of.has.among;
        }),
      )
  refused (inr (inr (none, (one, is_apart, share)))) = (let among = known.noted.one_apart one is_apart in (
    one,
    among,
    shares_contradicts p index kept fact one indexed exists (there one among)
        (λ e. no_value_note_shows before fact.var (value_note old.values fact.var) (known.noted.values fact.var on_variable) none one among (ap (λ (x : Fact). x.var) (sym e)))
        share,
  ))

  module _ (new : Notes) (is : NotesFirstFact index kept fact old new) where
    none_on_variable : (f : Fact) → Contains before f → f.var ≢ fact.var
    none_on_variable = no_value_note_shows before fact.var (value_note old.values fact.var) (known.noted.values fact.var on_variable) is.none

    not_before : Contains before fact → ⊥
    not_before in_before = none_on_variable fact in_before refl

    not_apart : old.apart ≢ Some fact
    not_apart e = not_before (known.noted.one_apart fact e)

    -- a new fact that no group refuses contradicts none of those before
    agrees : (f : Fact) → Contains before f → Contradict (IsKept p kept) f fact → ⊥
    agrees f in_before (inl (var, value)) = none_on_variable f in_before var
    agrees f in_before (inr one) =
        let (place, in_family, same) = one.counts in
        let has : HasFact p place fact = record { exists = in_family.exists; among = subst (λ (g : List Fact). Contains g fact) same one.second } in
        let has_f : HasFact p place f = record { exists = in_family.exists; among = subst (λ (g : List Fact). Contains g f) same one.first } in
        elim (apart_or_not old.apart f) [
          | inl e ↦ is.alone (
            f,
            e,
            contradicts_shares p index kept fact f indexed exists (there f in_before) (λ on. none_on_variable f in_before (sym on))
                (contradict_turned (IsKept p kept) f fact (inr one)),
          )
          | inr ne ↦
              (let takes : NotesForGroup (groups_of index fact) kept fact old.groups new.groups place = is.all place ((indexed.groups fact exists place).1 has) in
              let beside : IsOfGroupBeside p before old.apart place f = record { of = record { among = in_before; has = has_f }; beside = ne } in
              not_before (subst (λ (x : Fact). Contains before x) (no_other (IsOfGroupBeside p before old.apart place) fact (group_note old.groups place) (group_note new.groups place)
              (known.noted.groups place has.exists) takes.now (takes.alone in_family.chosen) f beside) in_before))
        ]

    value_here : value_note new.values fact.var ≡ Some fact.value
    value_here = ap (λ vs. value_note vs fact.var) is.values ∙ get_or-set_same old.values fact.var (Some fact.value) None (let wide = wide.variables in let on = on_variable in omega arith)

    value_elsewhere : (var : ℕ) → var ≢ fact.var → value_note new.values var ≡ value_note old.values var
    value_elsewhere var ne = ap (λ vs. value_note vs var) is.values ∙ get_or-set_other old.values fact.var var (Some fact.value) None ne

    values_noted : (var : ℕ) → var < length p.variables → IsValueNote (before ++ fact ∷ []) var (value_note new.values var)
    values_noted var lt = elim (cases_eq var fact.var) [
      | inl e ↦ subst (λ v. IsValueNote (before ++ fact ∷ []) v (value_note new.values v)) (sym e)
          (value_note_of (before ++ fact ∷ []) fact.var (value_note new.values fact.var)
          (λ value at. subst (λ v. Contains (before ++ fact ∷ []) (record { var = fact.var; value = v })) (same_Some fact.value value (sym value_here ∙ at)) (Contains-push before fact))
          (λ none. absurd (none_or_some fact.value (value_note new.values fact.var) none value_here)))
      | inr ne ↦ value_note_of (before ++ fact ∷ []) var (value_note new.values var)
          (λ value at. Contains-append_left before (fact ∷ []) (record { var = var; value = value })
          (value_note_shows before var value (value_note old.values var) (known.noted.values var lt) (sym (value_elsewhere var ne) ∙ at)))
          (λ none f in_all on. elim (Contains-push_cases before fact f in_all) [
            | inl in_before ↦ no_value_note_shows before var (value_note old.values var) (known.noted.values var lt) (sym (value_elsewhere var ne) ∙ none) f in_before on
            | inr e ↦ ne (sym on ∙ ap (λ (x : Fact). x.var) (sym e))
          ])
    ]

    abbrev Before : ℕ → Fact → Type 0
    Before = IsOfGroupBeside p before old.apart

    abbrev After : ℕ → Fact → Type 0
    After = IsOfGroupBeside p (before ++ fact ∷ []) old.apart

    too_then : (place : ℕ) (f : Fact) → Before place f → After place f
    too_then place f was = record { of = record { among = Contains-append_left before (fact ∷ []) f was.of.among; has = was.of.has }; beside = was.beside }

    of_either : (place : ℕ) (f : Fact) → After place f → Before place f ⊎ ((fact ≡ f) × HasFact p place f)
    of_either place f is_after = elim (Contains-push_cases before fact f is_after.of.among) [
      | inl in_before ↦ inl (record { of = record { among = in_before; has = is_after.of.has }; beside = is_after.beside })
      | inr e ↦ inr (e, is_after.of.has)
    ]

    or_fact : (place : ℕ) (f : Fact) → After place f → Before place f ⊎ (fact ≡ f)
    or_fact place f is_after = elim (of_either place f is_after) [ inl was ↦ inl was | inr w ↦ inr w.0 ]

    group_noted : (place : ℕ) → place < length p.groups → IsNoteOf (After place) (group_note new.groups place)
    group_noted place lt = elim (is_among (groups_of index fact) place) [
      | inl among ↦ note_changes (Before place) (After place) fact (too_then place) (or_fact place) (group_note old.groups place) (group_note new.groups place)
          (record { of = record { among = Contains-push before fact; has = (indexed.groups fact exists place).0 among }; beside = not_apart })
          (is.all place among).now (known.noted.groups place lt)
      | inr out ↦ elim (is.some.each place) [
        | inl same ↦ subst (IsNoteOf (After place)) (sym same) (note_stays (Before place) (After place) fact (too_then place) (or_fact place) (group_note old.groups place)
            (λ f of. elim (of_either place f of) [
              | inl was ↦ was
              | inr new ↦ absurd (out ((indexed.groups fact exists place).1 (subst (λ (x : Fact). HasFact p place x) (sym new.0) new.1)))
            ]) (known.noted.groups place lt))
        | inr takes ↦ absurd (out takes.among)
      ]
    ]

    -- facts of which one more is new
    pub known_more : AreKnown p kept (before ++ fact ∷ []) new
    known_more = record {
      noted = record {
        values = values_noted;
        groups = λ place lt. subst (λ (apart : Option Fact). IsNoteOf (IsOfGroupBeside p (before ++ fact ∷ []) apart place) (group_note new.groups place)) (sym is.same_apart) (group_noted place lt);
        one_apart = λ f e. Contains-append_left before (fact ∷ []) f (known.noted.one_apart f (sym is.same_apart ∙ e));
      };
      apart = λ clash. elim (Contains-push_cases before fact clash.0 clash.2) [
        | inl f_in ↦ elim (Contains-push_cases before fact clash.1 clash.3) [
          | inl g_in ↦ known.apart (clash.0, clash.1, f_in, g_in, clash.4)
          | inr e ↦ agrees clash.0 f_in (subst (λ (x : Fact). Contradict (IsKept p kept) clash.0 x) (sym e) clash.4)
        ]
        | inr e ↦ elim (Contains-push_cases before fact clash.1 clash.3) [
          | inl g_in ↦ agrees clash.1 g_in (contradict_turned (IsKept p kept) fact clash.1 (subst (λ (x : Fact). Contradict (IsKept p kept) x clash.1) (sym e) clash.4))
          | inr e' ↦ not_itself (IsKept p kept) fact (subst (λ (x : Fact). Contradict (IsKept p kept) x fact) (sym e)
              (subst (λ (x : Fact). Contradict (IsKept p kept) clash.0 x) (sym e') clash.4))
        ]
      ];
    }

  pub known_one_more : (new : Notes) → IsThere fact old new ⊎ NotesFirstFact index kept fact old new → AreKnown p kept (before ++ fact ∷ []) new
  known_one_more new (inl is_there) = known_already new is_there
  known_one_more new (inr is) = known_more new is

-- Those that are noted so far: those that came, and the one apart. They don't clash.
pub record AreSoFar (p : Parts) (kept : List Bool) (all came : List Fact) (notes : Notes) : Type 0 where
  pub seen : List Fact
  pub within : (f : Fact) → Contains seen f → Contains all f
  pub covers : (f : Fact) → Contains came f → Contains seen f
  pub known : AreKnown p kept seen notes
  pub from : AreFrom p all notes

exists_of : (p : Parts) (all : List Fact) → All (FactExists p.variables) all → (f : Fact) → Contains all f → FactExists p.variables f
exists_of p all exist f among = All-contains (FactExists p.variables) all f exist among

module _ {p : Parts} {kept : List Bool} {all : List Fact} (exist : All (FactExists p.variables) all) where
  pub none_so_far : (apart : Option Fact) {old new : Notes} → IfSome apart (Contains all) → AreBlank p old → IsSetApart apart old new → AreSoFar p kept all [] new
  none_so_far apart {old} {new} chosen blank is_set = record {
    seen = option_to_list apart;
    within = λ f within. among f (one_of apart f within);
    covers = λ f within. absurd (contains_none f within);
    known = known_apart p kept old new blank apart is_set (λ f e. exists_of p all exist f (among f e));
    from = from_apart p old new blank apart all is_set among;
  }
    where
      chosen_among : (apart : Option Fact) → IfSome apart (Contains all) → (f : Fact) → apart ≡ Some f → Contains all f
      chosen_among None chosen f e = absurd cc
      chosen_among (Some one) chosen f e = subst (λ (x : Fact). Contains all x) (same_Some one f e) chosen

      among : (f : Fact) → apart ≡ Some f → Contains all f
      among = chosen_among apart chosen

      one_of : (apart : Option Fact) (f : Fact) → Contains (option_to_list apart) f → apart ≡ Some f
      one_of None f within = absurd (contains_none f within)
      one_of (Some one) f within = elim (Contains-push_cases [] one f within) [ inl w ↦ absurd (contains_none f w) | inr e ↦ ap (λ x. Some x) e ]

  module _ {index : Index} {came : List Fact} {old : Notes} (indexed : IsIndexOf p index) (so_far : AreSoFar p kept all came old)
      (fact : Fact) (within : Contains all fact) where
    seen_exists : (f : Fact) → Contains so_far.seen f → FactExists p.variables f
    seen_exists f seen = exists_of p all exist f (so_far.within f seen)

    -- one that contradicts those so far clashes with them
    pub refused_so_far : IsContradicted index kept fact old → Clash (IsKept p kept) all
    refused_so_far is =
        let (other, seen, contradict) = refused p index kept so_far.seen old indexed so_far.from.wide seen_exists so_far.known fact (exists_of p all exist fact within) is in
        (fact, other, within, so_far.within other seen, contradict)

    pub from_still : {new : Notes} → ChangesAt (groups_of index fact) fact old new → AreFrom p all new
    from_still {new} changes = noted_still indexed so_far.from fact (exists_of p all exist fact within) within
        (λ none e. no_value_note_shows so_far.seen fact.var (value_note old.values fact.var)
        (so_far.known.noted.values fact.var (variable_below p fact (exists_of p all exist fact within))) none fact (so_far.known.noted.one_apart fact e) refl) changes

    pub one_so_far : {new : Notes} → IsThere fact old new ⊎ NotesFirstFact index kept fact old new → ChangesAt (groups_of index fact) fact old new
        → AreSoFar p kept all (came ++ fact ∷ []) new
    one_so_far {new} how changes = record {
      seen = so_far.seen ++ fact ∷ [];
      within = λ f seen. elim (Contains-push_cases so_far.seen fact f seen) [
        | inl was ↦ so_far.within f was
        | inr e ↦ subst (λ (x : Fact). Contains all x) e within
      ];
      covers = λ f is. elim (Contains-push_cases came fact f is) [
        | inl was ↦ Contains-append_left so_far.seen (fact ∷ []) f (so_far.covers f was)
        | inr e ↦ subst (λ (x : Fact). Contains (so_far.seen ++ fact ∷ []) x) e (Contains-push so_far.seen fact)
      ];
      known = known_one_more p index kept so_far.seen old indexed so_far.from.wide seen_exists so_far.known fact (exists_of p all exist fact within) new how;
      from = from_still changes;
    }

  -- in the end
  pub all_known : {came : List Fact} {notes : Notes} → all ≡ came → AreSoFar p kept all came notes → AreKnown p kept all notes
  all_known {came} {notes} is so_far = known_alike p kept so_far.seen all notes so_far.within
      (λ f among. so_far.covers f (subst (λ (facts : List Fact). Contains facts f) is among)) so_far.known

-- a fact alone doesn't clash
pub few_apart : (Counts : List Fact → Type 0) (facts : List Fact) → length facts < 2 → Clash Counts facts → ⊥
few_apart Counts facts few (f, g, (n, n_below, n_is), (m, m_below, m_is), why) = grind (arith, common_steps, get_or_default, not_itself)
