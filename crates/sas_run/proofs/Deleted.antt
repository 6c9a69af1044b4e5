-- The facts that are deleted while given values are written into a state.
use Rattle.std.proofs.lemmas.Grind.{common_steps}
use Rattle.sas_run.proofs.Imports.{get_or_append_left, get_or-append-add, ◌≡◌, ◌≢◌, ℕ, ◌+◌, ◌<◌, ◌≤◌, List, [], ◌∷◌, ◌++◌, length, get_or, set, refl, sym, ◌∙◌, subst, inl, inr, arith, All, cases_eq, get_or-set_same, get_or-set_other, length-append, All-nil, All-head, All-push, all_pairs_push, Fact, Parts, Holds, IsBasic, HaveGone, DeletedFacts, DeletedHasRoom, NotesOn, Replaces}

-- facts are still noted or not, as before
pub notes_on : (a b c : DeletedFacts) → NotesOn a b → NotesOn b c → NotesOn a c
notes_on a b c before after = record { noted = after.noted ∙ before.noted; room = omega (arith, before.room, after.room) }

-- a step that notes nothing
pub notes_still : (d : DeletedFacts) → NotesOn d d
notes_still d = record { noted = refl; room = omega arith }

-- there is still room for as many
pub room_on : (d d' : DeletedFacts) (many : ℕ) → NotesOn d d' → DeletedHasRoom d many → DeletedHasRoom d' many
room_on d d' many notes room noted = omega (arith, notes.room, room (sym notes.noted ∙ noted))

-- at most one more fact is deleted
pub deleted_few : (s : List ℕ) (fact : Fact) (deleted deleted' : List Fact) → Replaces s fact deleted deleted' → length deleted' ≤ length deleted + 1
deleted_few s fact deleted deleted' replaces = grind (arith, common_steps, length-append)

-- for a list in two parts
pub all_front : {X : Type 0} (P : X → Type 0) (xs ys : List X) → All P (xs ++ ys) → All P xs
all_front P xs ys h k d lt = subst P (get_or_append_left xs ys d k lt) (h k d (omega (arith, length-append xs ys)))

pub all_behind : {X : Type 0} (P : X → Type 0) (xs ys : List X) → All P (xs ++ ys) → All P ys
all_behind P xs ys h k d lt = subst P (get_or-append-add xs ys k d) (h (length xs + k) d (omega (arith, length-append xs ys)))

-- what holds for each deleted fact, and for the one that may be added, holds for all
pub all_replaced : (P : Fact → Type 0) (s : List ℕ) (fact : Fact) (deleted deleted' : List Fact) → Replaces s fact deleted deleted' → All P deleted
    → P (record { var = fact.var; value = get_or s fact.var 0 }) → All P deleted'
all_replaced h1 s fact deleted deleted' h2 all taken = grind (arith, common_steps, get_or)

-- these facts are deleted so far, at most so many, and none of them is on a variable that may still be set
pub record DeletedSoFar (p : Parts) (Left : ℕ → Type 0) (most : ℕ) (s s' : List ℕ) (deleted : List Fact) : Type 0 where
  pub gone : HaveGone p deleted s s'
  pub none_left : (var : ℕ) → Left var → All (λ (f : Fact). f.var ≢ var) deleted
  pub few : length deleted ≤ most

pub nothing_deleted : (p : Parts) (Left : ℕ → Type 0) (s : List ℕ) → DeletedSoFar p Left 0 s s []
nothing_deleted p Left s = grind (arith, common_steps, All-nil)

-- what holds before anything is deleted
pub ruleset starting = (common_steps, nothing_deleted, notes_still)

-- one more fact is made true, on a variable on which no fact is deleted so far
module _ (p : Parts) (Left Left' : ℕ → Type 0) (most : ℕ) (s s' : List ℕ) (deleted : List Fact) (so_far : DeletedSoFar p Left most s s' deleted) (v value : ℕ) (in_state : v < length s')
    (left : Left v) (others_left : (var : ℕ) → Left' var → Left var × (v ≢ var)) (basic : IsBasic p v) (exists : v < length p.variables) where
  apart : All (λ (f : Fact). f.var ≢ v) deleted
  apart = so_far.none_left v left

  -- it was true already
  kept_value : get_or s' v 0 ≡ value → (var : ℕ) → get_or (set s' v value) var 0 ≡ get_or s' var 0
  kept_value same var = grind (arith, common_steps, cases_eq, get_or-set_same, get_or-set_other)

  gone_more : (deleted' : List Fact) → Replaces s' (record { var = v; value = value }) deleted deleted' → HaveGone p deleted' s (set s' v value)
  gone_more deleted' (inl same) = subst (λ g. HaveGone p g s (set s' v value)) (sym same.1) (record {
    basic = so_far.gone.basic;
    exist = so_far.gone.exist;
    held = so_far.gone.held;
    once = so_far.gone.once;
    others = λ var not. kept_value same.0 var ∙ so_far.gone.others var not;
  })
  gone_more deleted' (inr other) =
      let f : Fact = record { var = v; value = get_or s' v 0 } in
      subst (λ g. HaveGone p g s (set s' v value)) (sym other.1) (record {
        basic = All-push (λ (f : Fact). IsBasic p f.var) deleted f so_far.gone.basic basic;
        exist = All-push (λ (f : Fact). f.var < length p.variables) deleted f so_far.gone.exist exists;
        held = All-push (Holds (λ x. get_or s x 0)) deleted f so_far.gone.held (sym (so_far.gone.others v apart));
        once = all_pairs_push (λ (f g : Fact). f.var ≢ g.var) deleted f so_far.gone.once (λ k d lt. apart k d lt);
        others = λ var not.
            (let other_var : var ≢ v = λ e. All-head (λ (g : Fact). g.var ≢ var) f [] (all_behind (λ (g : Fact). g.var ≢ var) deleted (f ∷ []) not) (sym e) in
            get_or-set_other s' v var value 0 other_var ∙ so_far.gone.others var (all_front (λ (g : Fact). g.var ≢ var) deleted (f ∷ []) not));
      })

  pub deleted_more : (deleted' : List Fact) → Replaces s' (record { var = v; value = value }) deleted deleted' → DeletedSoFar p Left' (most + 1) s (set s' v value) deleted'
  deleted_more deleted' replaces = record {
    gone = gone_more deleted' replaces;
    none_left = λ var is. all_replaced (λ (f : Fact). f.var ≢ var) s' (record { var = v; value = value }) deleted deleted' replaces (so_far.none_left var (others_left var is).0) (others_left var is).1;
    few = (let few = so_far.few in let more = deleted_few s' (record { var = v; value = value }) deleted deleted' replaces in omega arith);
  }
