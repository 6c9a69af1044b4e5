-- What the notes of facts that don't clash imply for another fact.
use Rattle.sas_mutex.proofs.Imports.{arith, common_steps, rules, ◌≡◌, ◌≢◌, ◌⊎◌, ℕ, ◌<◌, Bool, [], length, List, ◌∷◌, ◌++◌, None, Some, subst, refl, sym, ap, ◌∙◌, inl, inr, append-nil, All, Any, Contains, cases_eq, get_or_default, Contains-append_left, Contains-append_right, Contains-append_cases, Contains-push, Contains-push_cases, Contains-get_or, Change, Fact, Effect, change_of, Operator, Parts, effect_at, group_at, FactExists, EffectKeeps, AreGone, Recorded, IsKept, EffectPlace, operator_of, effect_of, IsNotedAt, ShareOne, AreKnown, IsMet, Removes, SomeRemoves, IsNotedFor, known_at, preconditions, Contradict, Clash, IsRemoved, IsIn, known, Index, Notes, IsGone, clash_more, group_of_larger, family_of, IsIndexOf, HasFact, groups_of, value_note, group_note, IsOfGroupBeside, HasOtherValue, HasNotedGroup, ShareKept, SharesApart, Excluding, Excludes, AreGoneAt, WellRanged, no_effect}
use Rattle.sas_mutex.proofs.Existing.{variable_below}
use Rattle.sas_mutex.proofs.NotesOfFacts.{a_note, apart_or_not, one_or_two, value_note_shows, no_value_note_shows, no_note_shows, some_note_shows, shared_turned}
use Rattle.sas_mutex.proofs.TaskFacts.{known_at_exist, conditions_exist}
use Rattle.sas_mutex.proofs.KnownFacts.{contradict_turned, not_itself, shares_contradicts, contradicts_shares, share_one, share_kept}

-- the effect exists, the index is that of its task, and the change is its change
abbrev pub IsFiring : EffectPlace → Index → Change → Type 0
IsFiring f index change = WellRanged f.task
    × IsIndexOf f.task index
    × (f.operator < length f.task.operators)
    × (f.effect < length (operator_of f).effects)
    × (change ≡ change_of (effect_of f))

module _ (at : EffectPlace) (index : Index) {change : Change} (fits : IsFiring at index change) (kept : List Bool) (recorded : Recorded) (noted : IsNotedAt at kept recorded)
    (fact : Fact) (exists : FactExists at.task.variables fact) where
  abbrev p : Parts
  p = at.task

  abbrev o : Operator
  o = operator_of at

  abbrev conditions : List Fact
  conditions = (effect_of at).conditions

  abbrev notes : Notes
  notes = recorded.known

  indexed : IsIndexOf p index
  indexed = fits.1

  are : AreKnown p kept (known o conditions []) notes
  are = noted.noted.are

  abbrev before : List Fact
  before = known o conditions []

  abbrev with : List Fact
  with = known o conditions (fact ∷ [])

  more : with ≡ before ++ fact ∷ []
  more = ap (λ (xs : List Fact). xs ++ fact ∷ []) (sym (append-nil (preconditions o ++ conditions)))

  pub also : (f : Fact) → Contains before f → Contains with f
  also f in_before = subst (λ (xs : List Fact). Contains xs f) (sym more) (Contains-append_left before (fact ∷ []) f in_before)

  pub itself : Contains with fact
  itself = subst (λ (xs : List Fact). Contains xs fact) (sym more) (Contains-push before fact)

  either : (f : Fact) → Contains with f → Contains before f ⊎ (fact ≡ f)
  either f in_all = Contains-push_cases before fact f (subst (λ (xs : List Fact). Contains xs f) more in_all)

  on_variable : fact.var < length p.variables
  on_variable = variable_below p fact exists

  -- where another value is noted for its variable, the fact clashes with what is known
  pub other_value_clashes : HasOtherValue notes.values fact → Clash (IsKept p kept) with
  other_value_clashes (value, at, differs) =
      let other : Fact = record { var = fact.var; value = value } in (other, fact, also other (value_note_shows before fact.var value (value_note notes.values fact.var) (are.noted.values fact.var on_variable) at), itself, inl (refl, differs))

  -- a fact that is noted doesn't clash with what is known, which doesn't clash by itself
  there_no_clash : Contains before fact → Clash (IsKept p kept) with → ⊥
  there_no_clash here clash = are.apart (clash.0, clash.1, was_in clash.0 clash.2, was_in clash.1 clash.3, clash.4)
    where
      was_in : (f : Fact) → Contains with f → Contains before f
      was_in f in_all = elim (either f in_all) [ inl w ↦ w | inr e ↦ subst (Contains before) e here ]

  pub noted_no_clash : value_note notes.values fact.var ≡ Some fact.value → Clash (IsKept p kept) with → ⊥
  noted_no_clash at = there_no_clash (value_note_shows before fact.var fact.value (value_note notes.values fact.var) (are.noted.values fact.var on_variable) at)

  -- where no fact is known on its variable, the fact clashes if a group that is kept has it and a
  -- known one
  there : (f : Fact) → Contains before f → FactExists p.variables f
  there = known_at_exist p fits.0 at.operator fits.2 at.effect fits.3

  module _ (none : value_note notes.values fact.var ≡ None) where
    not_on : (g : Fact) → Contains before g → fact.var ≢ g.var
    not_on g known_g e = no_value_note_shows before fact.var (value_note notes.values fact.var) (are.noted.values fact.var on_variable) none g known_g (sym e)

    pub shared_clashes : (g : Fact) → Contains before g → ShareKept index kept fact g → Clash (IsKept p kept) with
    shared_clashes g known_g share = (
      fact,
      g,
      itself,
      also g known_g,
      shares_contradicts p index kept fact g indexed exists (there g known_g) (λ e. not_on g known_g (ap (λ (x : Fact). x.var) e)) share,
    )

    pub apart_clashes : SharesApart index kept fact notes.apart → Clash (IsKept p kept) with
    apart_clashes (one, is_apart, share) = shared_clashes one (are.noted.one_apart one is_apart) share

    pub beside_clashes : (g : Fact) → Contains before g → ShareOne p kept g fact → Clash (IsKept p kept) with
    beside_clashes g known_g share = shared_clashes g known_g (shared_turned index kept g fact (share_kept p index kept g fact indexed (there g known_g) exists share))

    shares_with : (g : Fact) → Contains before g → Contradict (IsKept p kept) fact g → (h : Fact) × Contains before h × ShareKept index kept fact h
    shares_with g known_g contradict = (g, known_g, contradicts_shares p index kept fact g indexed exists (there g known_g) (not_on g known_g) contradict)

    pub clash_shares : Clash (IsKept p kept) with → (g : Fact) × Contains before g × ShareKept index kept fact g
    clash_shares clash = elim (either clash.0 clash.2) [
      | inl f_in ↦ elim (either clash.1 clash.3) [
        | inl g_in ↦ absurd (are.apart (clash.0, clash.1, f_in, g_in, clash.4))
        | inr e ↦ shares_with clash.0 f_in (contradict_turned (IsKept p kept) clash.0 fact (subst (λ (x : Fact). Contradict (IsKept p kept) clash.0 x) (sym e) clash.4))
      ]
      | inr e ↦ elim (either clash.1 clash.3) [
        | inl g_in ↦ shares_with clash.1 g_in (subst (λ (x : Fact). Contradict (IsKept p kept) x clash.1) (sym e) clash.4)
        | inr e' ↦ absurd (not_itself (IsKept p kept) fact (subst (λ (x : Fact). Contradict (IsKept p kept) x fact) (sym e)
            (subst (λ (x : Fact). Contradict (IsKept p kept) clash.0 x) (sym e') clash.4)))
      ]
    ]

    -- the known one is apart, or another
    pub apart_or_beside : (g : Fact) → Contains before g → ShareKept index kept fact g
        → SharesApart index kept fact notes.apart ⊎ ((h : Fact) × Contains before h × (notes.apart ≢ Some h) × ShareOne p kept h fact)
    apart_or_beside g known_g share = elim (apart_or_not notes.apart g) [
      | inl e ↦ inl (g, e, share)
      | inr ne ↦ inr (g, known_g, ne, share_one p index kept g fact indexed (there g known_g) exists (shared_turned index kept fact g share))
    ]

  -- for a group of the fact a note is kept if it has another known fact that isn't the one apart
  pub noted_beside : HasNotedGroup (groups_of index fact) kept notes.groups
      → (g : Fact) × Contains before g × (notes.apart ≢ Some g) × ShareOne p kept g fact
  noted_beside noted =
      let has : HasFact p noted.place fact = (indexed.groups fact exists noted.place).0 noted.among in
      let (g, beside) = some_note_shows (IsOfGroupBeside p before notes.apart noted.place) (group_note notes.groups noted.place) (are.noted.groups noted.place has.exists) noted.some in (
        g,
        beside.of.among,
        beside.beside,
        record {
          place = noted.place;
          in_family = record { exists = has.exists; chosen = noted.kept_there };
          first = beside.of.has.among;
          second = has.among;
        },
      )

  pub beside_noted : (g : Fact) → Contains before g → notes.apart ≢ Some g → ShareOne p kept g fact → HasNotedGroup (groups_of index fact) kept notes.groups
  beside_noted g known_g ne share = record {
    place = share.place;
    among = (indexed.groups fact exists share.place).1 (record { exists = share.in_family.exists; among = share.second });
    kept_there = share.in_family.chosen;
    some = λ nothing. no_note_shows (IsOfGroupBeside p before notes.apart share.place) (group_note notes.groups share.place) (are.noted.groups share.place share.in_family.exists) nothing
        g (record { of = record { among = known_g; has = record { exists = share.in_family.exists; among = share.first } }; beside = ne });
  }

  -- a condition that exists is met if it is one of the facts that are known then
  met_is_in : (c : Fact) → FactExists p.variables c → IsMet notes fact c → Contains with c
  met_is_in c real (inl e) = subst (Contains with) (sym e) itself
  met_is_in c real (inr at) = also c (value_note_shows before c.var c.value (value_note notes.values c.var) (are.noted.values c.var (variable_below p c real)) at)

  in_is_met : (c : Fact) → FactExists p.variables c → Contains with c → IsMet notes fact c
  in_is_met c real in_all = elim (either c in_all) [
    | inr e ↦ inl (sym e)
    | inl in_before ↦ inr (elim (a_note (value_note notes.values c.var)) [
      | inl none ↦ absurd (no_value_note_shows before c.var (value_note notes.values c.var) (are.noted.values c.var (variable_below p c real)) none c in_before refl)
      | inr w ↦ elim (cases_eq w.0 c.value) [
        | inl e ↦ w.1 ∙ ap (λ v. Some v) e
        | inr differs ↦ absurd (are.apart (
          record { var = c.var; value = w.0 },
          c,
          value_note_shows before c.var w.0 (value_note notes.values c.var) (are.noted.values c.var (variable_below p c real)) w.1,
          in_before,
          inl (refl, differs),
        ))
      ]
    ])
  ]

  conditions_there : (effect : ℕ) → effect < length o.effects → All (FactExists p.variables) (effect_at o effect).conditions
  conditions_there = conditions_exist p fits.0 at.operator fits.2

  pub removes_is_removed : SomeRemoves o notes fact → IsRemoved o with fact
  removes_is_removed (effect, lt, removes) = search (rules, arith, Contains-get_or, met_is_in, conditions_there)

  pub removed_is_removes : IsRemoved o with fact → SomeRemoves o notes fact
  removed_is_removes is =
      let (effect, lt, at) = is.among in
      let same : effect_at o effect ≡ is.effect = get_or_default o.effects effect no_effect is.effect lt ∙ at in (
        effect,
        lt,
        subst (λ (e : Effect). Removes (IsMet notes fact) e fact) (sym same) (record {
          fires = λ k d below. in_is_met _ (subst (λ (e : Effect). All (FactExists p.variables) e.conditions) same (conditions_there effect lt) k d below)
              (is.removes.fires k d below);
          var = is.removes.var;
          other = is.removes.other;
        }),
      )

-- what clashes clashes with more facts
pub clash_stays : (Counts : List Fact → Type 0) (o : Operator) (conditions second : List Fact) → Clash Counts (known o conditions [])
    → Clash Counts (known o conditions second)
clash_stays Counts o conditions second clash = search (rules, arith, append-nil, Contains-append_left)

-- where one of some facts clashes with what is known, all of them do
pub one_clashes : (Counts : List Fact → Type 0) (o : Operator) (conditions facts : List Fact) (fact : Fact) → Contains facts fact
    → Clash Counts (known o conditions (fact ∷ [])) → Clash Counts (known o conditions facts)
one_clashes Counts o conditions facts fact among clash = (clash.0, clash.1, there clash.0 clash.2, there clash.1 clash.3, clash.4)
  where
    same : known o conditions (fact ∷ []) ≡ known o conditions [] ++ fact ∷ []
    same = ap (λ (xs : List Fact). xs ++ fact ∷ []) (sym (append-nil (preconditions o ++ conditions)))

    there : (x : Fact) → Contains (known o conditions (fact ∷ [])) x → Contains (known o conditions facts) x
    there x here = elim (Contains-push_cases (known o conditions []) fact x (subst (λ (xs : List Fact). Contains xs x) same here)) [
      | inl w ↦ subst (λ (xs : List Fact). Contains (xs ++ facts) x) (append-nil (preconditions o ++ conditions)) (Contains-append_left (known o conditions []) facts x w)
      | inr e ↦ subst (λ (f : Fact). Contains (known o conditions facts) f) e (Contains-append_right (preconditions o ++ conditions) facts fact among)
    ]

-- where what is known doesn't clash, it clashes with further facts if one of them clashes with it,
-- or they clash themselves
module _ (Counts : List Fact → Type 0) (o : Operator) (conditions facts : List Fact) where
  abbrev first : List Fact
  first = preconditions o ++ conditions

  pub themselves_clash : Clash Counts facts → Clash Counts (known o conditions facts)
  themselves_clash (f, g, f_in, g_in, why) = (f, g, Contains-append_right first facts f f_in, Contains-append_right first facts g g_in, why)

  pub one_or_themselves : (Clash Counts (known o conditions []) → ⊥) → Clash Counts (known o conditions facts)
      → Any (λ (fact : Fact). Clash Counts (known o conditions (fact ∷ []))) facts ⊎ Clash Counts facts
  one_or_themselves apart (f, g, f_in, g_in, why) = elim (Contains-append_cases first facts f f_in) [
    | inl f_first ↦ elim (Contains-append_cases first facts g g_in) [
      | inl g_first ↦ absurd (apart (f, g, Contains-append_left first [] f f_first, Contains-append_left first [] g g_first, why))
      | inr g_among ↦ inl (g_among.0, g, g_among.1, g_among.2, (f, g, Contains-append_left first (g ∷ []) f f_first, Contains-push first g, why))
    ]
    | inr f_among ↦ elim (Contains-append_cases first facts g g_in) [
      | inl g_first ↦ inl (f_among.0, f, f_among.1, f_among.2, (f, g, Contains-push first f, Contains-append_left first (f ∷ []) g g_first, why))
      | inr g_among ↦ inr (f, g, f_among, g_among, why)
    ]
  ]

-- what clashes never is, so that an effect that fires only there keeps each group
pub clash_keeps : (Counts : List Fact → Type 0) (o : Operator) (group : List Fact) (e : Effect) → Clash Counts (known o e.conditions [])
    → EffectKeeps Counts o group e
clash_keeps Counts o group e clash = grind (arith, common_steps, clash_stays)

-- what doesn't clash under a family doesn't under a smaller one
pub noted_fewer : (p : Parts) (kept fewer : List Bool) (operator effect : ℕ) (recorded : Recorded) → ((place : ℕ) → IsIn p (family_of fewer) place → IsIn p (family_of kept) place)
    → IsNotedFor p kept operator effect recorded → IsNotedFor p fewer operator effect recorded
noted_fewer p kept fewer operator effect recorded less noted = search (rules, arith, are, clash_more, group_of_larger)

-- where a fact of a group that counts is known, and is gone, all of the group are
pub known_one_is_all : (p : Parts) (kept : List Bool) (o : Operator) (place : ℕ) (e : Effect) (h : Fact) → IsIn p (family_of kept) place
    → Contains (known o e.conditions []) h → Contains (group_at p place) h → IsGone (IsKept p kept) o e h → AreGone (IsKept p kept) o (group_at p place) e
known_one_is_all p kept o place e h in_family known_h among gone f in_group = elim (one_or_two h f) [
  | inl same ↦ subst (λ (x : Fact). IsGone (IsKept p kept) o e x) same gone
  | inr differ ↦ λ on_other. inl (
    h,
    f,
    subst (λ (xs : List Fact). Contains xs h) (sym (one_more f)) (Contains-append_left (known o e.conditions []) (f ∷ []) h known_h),
    subst (λ (xs : List Fact). Contains xs f) (sym (one_more f)) (Contains-push (known o e.conditions []) f),
    inr (record {
      differ = differ;
      group = group_at p place;
      counts = (place, in_family, refl);
      first = among;
      second = in_group;
    }),
  )
]
  where
    one_more : (x : Fact) → known o e.conditions (x ∷ []) ≡ known o e.conditions [] ++ x ∷ []
    one_more x = ap (λ (xs : List Fact). xs ++ x ∷ []) (sym (append-nil (preconditions o ++ e.conditions)))

-- where the fact set apart excludes the facts of a group, none of them remains
pub excluded_gone : (f : EffectPlace) (kept : List Bool) (recorded : Recorded) (excluding : Excluding) → IsNotedAt f kept recorded → Excludes f.task kept excluding
    → recorded.known.apart ≡ Some excluding.fact → ((var : ℕ) → excluding.var ≡ Some var → var ≡ (effect_of f).var) → AreGoneAt f kept excluding.group
excluded_gone f kept recorded excluding noted excludes apart on other among differ =
    let before = known_at f.task f.operator f.effect in
    let more = ap (λ (xs : List Fact). xs ++ other ∷ []) (sym (append-nil (preconditions (operator_of f) ++ (effect_of f).conditions))) in
    inl (
      excluding.fact,
      other,
      subst (λ (xs : List Fact). Contains xs excluding.fact) (sym more) (Contains-append_left before (other ∷ []) excluding.fact (noted.noted.are.noted.one_apart excluding.fact apart)),
      subst (λ (xs : List Fact). Contains xs other) (sym more) (Contains-push before other),
      excludes other among (λ same. differ (sym (on other.var same))),
    )
