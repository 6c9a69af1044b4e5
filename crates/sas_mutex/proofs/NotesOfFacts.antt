-- The notes after one more fact is recorded or removed.
use Rattle.sas_mutex.proofs.Imports.{◌≡◌, ◌≢◌, ◌⊎◌, ℕ, ◌<◌, Bool, IsTrue, length, set, List, Option, None, Some, subst, refl, sym, ap, ◌∙◌, inl, inr, arith, All, Contains, cases_eq, get_or-set_same, get_or-set_other, length-set, All-contains, Fact, Parts, FactExists, common_steps, same_Some, Index, Notes, GroupNote, Nothing, One, Several, family_of, IsIndexOf, groups_of, value_note, group_note, AreBlank, AreFrom, IsValueNote, IsOfGroup, IsOfGroupBeside, IsNoteOf, IsGroupNote, AreNotesOf, IsNotedToo, NotesForGroup, TakenBySome, ShareKept, ChangesAt, IsSetApart, IsCompleted, Forgets, HasFact}
use Rattle.sas_mutex.proofs.InLists.{is_among}
use Rattle.sas_mutex.proofs.Existing.{variable_below}

-- the fact isn't recorded for its variable, nor for its groups unless it is set apart
pub record IsForgotten (p : Parts) (notes : Notes) (fact : Fact) : Type 0 where
  pub value : value_note notes.values fact.var ≡ None
  pub groups : (place : ℕ) → HasFact p place fact
      → (notes.apart ≡ Some fact) ⊎ (group_note notes.groups place ≡ Nothing)

pub none_or_some : {A : Type 0} (x : A) (noted : Option A) → noted ≡ None → noted ≡ Some x → ⊥
none_or_some x noted none some = let e : None ≡ Some x = sym none ∙ some in absurd cc

-- two facts are one, or they aren't
pub one_or_two : (f g : Fact) → (f ≡ g) ⊎ (f ≢ g)
one_or_two f g = grind (arith, common_steps, cases_eq)

-- a fact is the one apart, or it isn't
pub apart_or_not : (apart : Option Fact) (f : Fact) → (apart ≡ Some f) ⊎ (apart ≢ Some f)
apart_or_not h1 f = grind (arith, one_or_two, same_Some)

-- a note is nothing, or something
pub a_note : {A : Type 0} (noted : Option A) → (noted ≡ None) ⊎ ((x : A) × (noted ≡ Some x))
a_note None = inl refl
a_note (Some x) = inr (x, refl)

nothing_or_not : (noted : GroupNote) → (noted ≡ Nothing) ⊎ (noted ≢ Nothing)
nothing_or_not h1 = grind arith

-- a fact that is noted twice is noted once
one_again : (fact : Fact) (after : GroupNote) → IsNotedToo (One fact) fact after → after ≡ One fact
one_again fact after too = grind (arith, common_steps)

pub noted_again : (before now : GroupNote) (fact : Fact) (after : GroupNote) → IsNotedToo before fact now → IsNotedToo now fact after → IsNotedToo before fact after
noted_again h1 now fact after first second = grind (arith, one_again)

-- the groups that take a fact, one more of them
module _ (groups : List ℕ) (kept : List Bool) (fact : Fact) (before now : List GroupNote) (some : TakenBySome groups kept fact before now)
    (place : ℕ) (after : GroupNote) (too : IsNotedToo (group_note now place) fact after) where
  pub since_before : IsNotedToo (group_note before place) fact after
  since_before = grind (arith, common_steps, noted_again)

  module _ (within : place < length now) (among : Contains groups place) (alone : IsTrue (family_of kept place) → after ≢ Several) where
    at_place : group_note (set now place after) place ≡ after
    at_place = get_or-set_same now place after Nothing within

    elsewhere : (q : ℕ) → q ≢ place → group_note (set now place after) q ≡ group_note now q
    elsewhere q ne = get_or-set_other now place q after Nothing ne

    pub takes_here : NotesForGroup groups kept fact before (set now place after) place
    takes_here = grind (arith, common_steps, at_place, since_before)

    pub takes_still : (q : ℕ) → NotesForGroup groups kept fact before now q → NotesForGroup groups kept fact before (set now place after) q
    takes_still q takes = grind (arith, common_steps, cases_eq, takes_here, elsewhere)

    pub taken_more : TakenBySome groups kept fact before (set now place after)
    taken_more = grind (arith, common_steps, length-set, cases_eq, takes_here, elsewhere, takes_still)

-- what the notes say of the facts, and when they are the notes of facts
pub value_note_shows : (facts : List Fact) (var value : ℕ) (noted : Option ℕ) → IsValueNote facts var noted → noted ≡ Some value
    → Contains facts (record { var = var; value = value })
value_note_shows facts var value noted is at = (let some = subst (λ n. IsValueNote facts var n) at is in some.some)

pub no_value_note_shows : (facts : List Fact) (var : ℕ) (noted : Option ℕ) → IsValueNote facts var noted → noted ≡ None
    → (f : Fact) → Contains facts f → f.var ≢ var
no_value_note_shows facts var noted is at = (let none = subst (λ n. IsValueNote facts var n) at is in none.none)

pub one_note_shows : (p : Parts) (facts : List Fact) (place : ℕ) (f : Fact) (noted : GroupNote) → IsGroupNote p facts place noted → noted ≡ One f
    → IsOfGroup p facts place f × ((other : Fact) → IsOfGroup p facts place other → other ≡ f)
one_note_shows p facts place f noted is at = subst (IsGroupNote p facts place) at is

pub no_note_shows : (Are : Fact → Type 0) (noted : GroupNote) → IsNoteOf Are noted → noted ≡ Nothing → (f : Fact) → Are f → ⊥
no_note_shows Are noted is at = subst (IsNoteOf Are) at is

pub some_note_shows : (Are : Fact → Type 0) (noted : GroupNote) → IsNoteOf Are noted → noted ≢ Nothing → (f : Fact) × Are f
some_note_shows h1 h2 is some = grind arith

-- where not several facts are noted, two that are known are one
pub at_most_one : (p : Parts) (facts : List Fact) (place : ℕ) (noted : GroupNote) → IsGroupNote p facts place noted → noted ≢ Several
    → (f g : Fact) → IsOfGroup p facts place f → IsOfGroup p facts place g → f ≡ g
at_most_one p facts place Nothing is few f g of_f of_g = absurd (is f of_f)
at_most_one p facts place (One one) is few f g of_f of_g = is.1 f of_f ∙ sym (is.1 g of_g)
at_most_one p facts place Several is few f g of_f of_g = absurd (few refl)

pub value_note_of : (facts : List Fact) (var : ℕ) (noted : Option ℕ) → ((value : ℕ) → noted ≡ Some value → Contains facts (record { var = var; value = value }))
    → (noted ≡ None → (f : Fact) → Contains facts f → f.var ≢ var) → IsValueNote facts var noted
value_note_of facts var None some none = record { some = tt; none = none refl }
value_note_of facts var (Some value) some none = record { some = some value refl; none = tt }

-- what is noted of some facts, as one more is among them
module _ (Before After : Fact → Type 0) (fact : Fact) (too_then : (f : Fact) → Before f → After f) (either : (f : Fact) → After f → Before f ⊎ (fact ≡ f)) where
  -- it stays where no such fact is new
  pub note_stays : (noted : GroupNote) → ((f : Fact) → After f → Before f) → IsNoteOf Before noted → IsNoteOf After noted
  note_stays h1 back is = grind arith

  pub note_changes : (noted after : GroupNote) → After fact → IsNotedToo noted fact after → IsNoteOf Before noted → IsNoteOf After after
  note_changes h1 after its too is = grind arith

-- where a fact is refused another is noted, and where it isn't none is
module _ (Before : Fact → Type 0) (fact : Fact) where
  pub other_known : (noted : GroupNote) → IsNotedToo noted fact Several → IsNoteOf Before noted → (g : Fact) × Before g × (fact ≢ g)
  other_known Nothing too is = absurd cc
  other_known (One one) too is = grind (arith, common_steps)
  other_known Several too is = elim (one_or_two fact is.0) [
    | inl e ↦ (is.1, is.3, λ e'. is.4 (sym e ∙ e'))
    | inr ne ↦ (is.0, is.2, ne)
  ]

  pub no_other : (noted after : GroupNote) → IsNoteOf Before noted → IsNotedToo noted fact after → after ≢ Several → (f : Fact) → Before f → f ≡ fact
  no_other h1 after is too few f of = grind arith

pub shared_turned : (index : Index) (kept : List Bool) (f g : Fact) → ShareKept index kept f g → ShareKept index kept g f
shared_turned index kept f g share = record { place = share.place; first = share.second; second = share.first; kept_there = share.kept_there }

-- what is noted for a group, completed by the fact apart, is what is noted of all facts
pub completed : (p : Parts) (index : Index) (facts : List Fact) (notes : Notes) (place : ℕ) (noted : GroupNote) → IsIndexOf p index
    → ((f : Fact) → Contains facts f → FactExists p.variables f) → place < length p.groups
    → AreNotesOf p facts notes → IsCompleted index notes place noted → IsGroupNote p facts place noted
completed p index facts notes place noted indexed there exists are is = elim (a_note notes.apart) [
  | inl none ↦ subst (IsGroupNote p facts place) (sym (is.without (λ f is_apart _. none_or_some f notes.apart none is_apart)))
      (all_beside (λ f e. none_or_some f notes.apart none e))
  | inr w ↦ elim (is_among (groups_of index w.0) place) [
    | inl among ↦ note_changes Beside Are w.0 (λ f beside. beside.of) (λ f of. elim (apart_or_not notes.apart f) [
      | inl e ↦ inr (same_Some w.0 f (sym w.1 ∙ e))
      | inr ne ↦ inl (record { of = of; beside = ne })
    ]) (group_note notes.groups place) noted
        (record { among = are.one_apart w.0 w.1; has = (indexed.groups w.0 (there w.0 (are.one_apart w.0 w.1)) place).0 among })
        (is.with_apart w.0 w.1 among) (are.groups place exists)
    | inr out ↦ subst (IsGroupNote p facts place) (sym (is.without (λ f is_apart has. out (subst (λ (x : Fact). Contains (groups_of index x) place) (same_Some f w.0 (sym is_apart ∙ w.1)) has))))
        (all_beside' w.0 w.1 out)
  ]
]
  where
    Are : Fact → Type 0
    Are = IsOfGroup p facts place

    Beside : Fact → Type 0
    Beside = IsOfGroupBeside p facts notes.apart place

    by_beside : ((f : Fact) → Are f → Beside f) → IsGroupNote p facts place (group_note notes.groups place)
    by_beside back = note_stays Beside Are (record { var = 0; value = 0 }) (λ f beside. beside.of) (λ f of. inl (back f of)) (group_note notes.groups place) back (are.groups place exists)

    all_beside : ((f : Fact) → notes.apart ≢ Some f) → IsGroupNote p facts place (group_note notes.groups place)
    all_beside none = by_beside (λ f of. record { of = of; beside = none f })

    all_beside' : (one : Fact) → notes.apart ≡ Some one → (Contains (groups_of index one) place → ⊥) → IsGroupNote p facts place (group_note notes.groups place)
    all_beside' one is_one out = by_beside (λ f of. record {
      of = of;
      beside = λ e. out (subst (λ (x : Fact). Contains (groups_of index x) place) (same_Some f one (sym e ∙ is_one))
          ((indexed.groups f (there f of.among) place).1 of.has));
    })

-- nothing is noted by notes that say the same as others by which nothing is
pub blank_same : (p : Parts) (old new : Notes) → new.values ≡ old.values → new.groups ≡ old.groups → new.apart ≡ old.apart → AreBlank p old → AreBlank p new
blank_same p old new values groups apart blank = grind (arith, common_steps)

-- at first notes are from the one apart
module _ (p : Parts) (old new : Notes) (blank : AreBlank p old) where
  pub from_apart : (apart : Option Fact) (all : List Fact) → IsSetApart apart old new → ((f : Fact) → apart ≡ Some f → Contains all f) → AreFrom p all new
  from_apart apart all is_set among = grind (arith, common_steps, length-set, cases_eq, get_or-set_other)

module _ {p : Parts} {index : Index} {all : List Fact} {old new : Notes} (indexed : IsIndexOf p index) (from : AreFrom p all old)
    (fact : Fact) (exists : FactExists p.variables fact) where
  -- a change at a fact of these leaves notes of these
  pub noted_still : Contains all fact → (value_note old.values fact.var ≡ None → old.apart ≢ Some fact) → ChangesAt (groups_of index fact) fact old new → AreFrom p all new
  noted_still in_all beside changes = record {
    wide = record { variables = changes.as_many_values ∙ from.wide.variables; groups = changes.as_many_groups ∙ from.wide.groups };
    values = grind (arith, common_steps);
    groups = λ place lt some. elim (changes.by_group place) [
      | inl same ↦ (let (f, among, has, ne) = from.groups place lt (λ none. some (same ∙ none)) in (f, among, has, λ e. ne (sym changes.same_apart ∙ e)))
      | inr w ↦ (fact, in_all, (indexed.groups fact exists place).0 w.0, λ e. beside w.1 (sym changes.same_apart ∙ e))
    ];
  }

  module _ (forgets : Forgets (groups_of index fact) fact old new) where
    within : fact.var < length old.values
    within = let w = from.wide.variables in let l = variable_below p fact exists in omega arith

    forgotten_value : value_note new.values fact.var ≡ None
    forgotten_value = ap (λ vs. value_note vs fact.var) forgets.values ∙ get_or-set_same old.values fact.var None None within

    value_or_none : (var : ℕ) → (value_note new.values var ≡ value_note old.values var) ⊎ (value_note new.values var ≡ None)
    value_or_none var = grind (arith, common_steps, cases_eq, forgotten_value, get_or-set_other)

    note_or_none : (place : ℕ) → (group_note new.groups place ≡ group_note old.groups place) ⊎ (group_note new.groups place ≡ Nothing)
    note_or_none place = grind (arith, common_steps)

    as_many_groups : length new.groups ≡ length old.groups
    as_many_groups = elim forgets.by_group [ inl w ↦ ap length w.1 | inr by_group ↦ by_group.as_many ]

    -- so does a fact that is forgotten
    pub noted_less : AreFrom p all new
    noted_less = grind (arith, common_steps, length-set, as_many_groups, value_or_none, note_or_none)

    pub forgotten_now : IsForgotten p new fact
    forgotten_now = record {
      value = forgotten_value;
      groups = λ place has. elim forgets.by_group [
        | inl w ↦ inl (forgets.same_apart ∙ w.0)
        | inr by_group ↦ inr (All-contains (λ (q : ℕ). group_note new.groups q ≡ Nothing) (groups_of index fact) place by_group.none ((indexed.groups fact exists place).1 has))
      ];
    }

    pub forgotten_still : (f : Fact) → IsForgotten p old f → IsForgotten p new f
    forgotten_still f was = grind (arith, common_steps, value_or_none, note_or_none)

-- where all that notes are from is forgotten, and none is apart any more, nothing is noted
pub blank_in_the_end : (p : Parts) (all : List Fact) (notes after : Notes) → AreFrom p all notes → All (IsForgotten p notes) all
    → after.values ≡ notes.values → after.groups ≡ notes.groups → after.apart ≡ None → AreBlank p after
blank_in_the_end p all notes after from forgotten same_values same_groups none_apart = grind (arith, common_steps, a_note, none_or_some, All-contains, nothing_or_not)
