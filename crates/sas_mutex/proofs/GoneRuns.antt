-- Facts of a group that can't remain, run by run.
use Rattle.sas_mutex.proofs.Imports.{◌≡◌, ℕ, ◌+◌, ◌<◌, ◌≤◌, length, get_or, take, drop, Bool, List, [], ◌∷◌, ◌++◌, Some, refl, sym, ap, subst, ◌∙◌, append-nil, inl, inr, arith, All, Contains, cases_eq, take-append-drop, drop_more, All-nil, All-append, All-contains, Contains-append_left, Contains-append_right, Contains-get_or, Change, Fact, FactExists, Index, value_note, AreDistinct, AreOnOne, AreRuns, IsNotedAt, IsUnknownAt, IsGoneAt, IsDecidedByFirst, known_at, Recorded, EffectPlace, effect_of}
use Rattle.sas_mutex.proofs.Existing.{variable_below}
use Rattle.sas_mutex.proofs.NotesOfFacts.{a_note, value_note_shows}
use Rattle.std.proofs.Common.{append_assoc}
use Rattle.sas_mutex.proofs.FromNotes.{IsFiring, other_value_clashes}

-- of the facts of a run that is settled none is known, so that what is noted for their variable is
-- another value
pub settled_are_gone : (f : EffectPlace) (index : Index) {change : Change} (fits : IsFiring f index change) (kept : List Bool) (recorded : Recorded) (noted : IsNotedAt f kept recorded) (run : List Fact)
    → All (FactExists f.task.variables) run → AreOnOne run
    → All (IsUnknownAt f) run → IsDecidedByFirst (effect_of f) run recorded.known → All (IsGoneAt f kept) run
settled_are_gone f index fits kept recorded noted run exist (var, on_it) unknown settled k d below on_other =
    let values = recorded.known.values in
    let fact = get_or run k d in
    let some : 0 < length run = omega arith in
    let same : (get_or run 0 d).var ≡ fact.var = on_it 0 d some ∙ sym (on_it k d below) in
    let exists = exist k d below in
    elim (settled (get_or run 0 d) d some refl) [
      | inl its ↦ absurd (on_other (its ∙ same))
      | inr some_value ↦ elim (a_note (value_note values fact.var)) [
        | inl none ↦ absurd (some_value (ap (value_note values) same ∙ none))
        | inr w ↦ elim (cases_eq w.0 fact.value) [
          | inl its ↦ absurd (unknown k d below (value_note_shows (known_at f.task f.operator f.effect) fact.var fact.value (value_note values fact.var)
              (noted.noted.are.noted.values fact.var (variable_below f.task fact exists)) (w.1 ∙ ap (λ v. Some v) its)))
          | inr differs ↦ inl (other_value_clashes f index fits kept recorded noted fact exists (w.0, w.1, differs))
        ]
      ]
    ]

-- the facts of the group before those that are left are such; those that are left fall into these
-- runs
pub record SuchBefore (Such : Fact → Type 0) (group left : List Fact) (runs : List ℕ) : Type 0 where
  pub before : List Fact
  pub only : (f : Fact) → Contains (before ++ left) f → Contains group f
  pub all : (f : Fact) → Contains group f → Contains (before ++ left) f
  pub such : All Such before
  pub fall : AreRuns left runs

-- at first, and when none is left
pub such_none : (Such : Fact → Type 0) (group left : List Fact) (runs : List ℕ) → AreDistinct left group → AreRuns left runs → SuchBefore Such group left runs
such_none Such group left runs have fall = record {
  before = [];
  only = λ f. (have.same f).0;
  all = λ f. (have.same f).1;
  such = All-nil Such;
  fall = fall;
}

pub such_all : (Such : Fact → Type 0) (group left : List Fact) → SuchBefore Such group left [] → (f : Fact) → Contains group f → Such f
such_all Such group left so_far f there = All-contains Such so_far.before f so_far.such
    (subst (λ (fs : List Fact). Contains fs f) (ap (λ (xs : List Fact). so_far.before ++ xs) so_far.fall ∙ append-nil so_far.before) (so_far.all f there))

-- the next run, and one run more that is such
module _ {Such : Fact → Type 0} {group left : List Fact} (runs : List ℕ) (place : ℕ) (below : place < length runs)
    (so_far : SuchBefore Such group left (drop place runs)) where
  abbrev next : List Fact
  next = take (get_or runs place 0) left

  falls : AreRuns left (get_or runs place 0 ∷ drop (place + 1) runs)
  falls = subst (AreRuns left) (drop_more runs place 0 below) so_far.fall

  pub next_within : get_or runs place 0 ≤ length left
  next_within = falls.0

  pub next_on_one : (run : List Fact) → run ≡ next → AreOnOne run
  next_on_one run is = subst AreOnOne (sym is) falls.1

  next_among : (f : Fact) → Contains next f → Contains group f
  next_among f there = so_far.only f
      (Contains-append_right so_far.before left f (subst (λ (fs : List Fact). Contains fs f) (take-append-drop (get_or runs place 0) left)
      (Contains-append_left next (drop (get_or runs place 0) left) f there)))

  -- what all facts of the group have, those of the next run have
  pub next_too : (P : Fact → Type 0) (run : List Fact) → run ≡ next → ((f : Fact) → Contains group f → P f) → All P run
  next_too P run is all = subst (All P) (sym is) (λ k d lt. all (get_or next k d) (next_among (get_or next k d) (Contains-get_or next k d lt)))

  whole : (so_far.before ++ next) ++ drop (get_or runs place 0) left ≡ so_far.before ++ left
  whole = append_assoc so_far.before next (drop (get_or runs place 0) left) ∙ ap (λ (fs : List Fact). so_far.before ++ fs) (take-append-drop (get_or runs place 0) left)

  pub such_more : (run rest : List Fact) → run ≡ next → rest ≡ drop (get_or runs place 0) left → All Such run → SuchBefore Such group rest (drop (place + 1) runs)
  such_more run rest is is_rest here = subst (λ (fs : List Fact). SuchBefore Such group fs (drop (place + 1) runs)) (sym is_rest) record {
    before = so_far.before ++ next;
    only = λ f there. so_far.only f (subst (λ (fs : List Fact). Contains fs f) whole there);
    all = λ f there. subst (λ (fs : List Fact). Contains fs f) (sym whole) (so_far.all f there);
    such = All-append Such so_far.before next so_far.such (subst (All Such) is here);
    fall = falls.2;
  }

-- facts that are one run are on one variable
pub one_run : (facts : List Fact) (runs : List ℕ) → AreRuns facts runs → length runs ≡ 1 → AreOnOne facts
one_run facts [] fall one = absurd cc
one_run facts (n ∷ []) (within, on, rest) one =
    subst AreOnOne (sym (append-nil (take n facts)) ∙ ap (λ (xs : List Fact). take n facts ++ xs) (sym rest) ∙ take-append-drop n facts) on
one_run facts (n ∷ m ∷ runs) fall one = absurd cc
