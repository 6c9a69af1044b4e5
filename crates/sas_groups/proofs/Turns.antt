-- Properties of all items of a loop, from those processed and those that remain.
use Rattle.sas_groups.proofs.Imports.{common_steps, ◌≡◌, List, [], ◌∷◌, ◌++◌, refl, sym, append_assoc, append-nil, arith, All, Contains, All-nil, All-push, Contains-append_right}

-- these items came, those are left, and each that came has the property
pub record Turns {A : Type 0} (P : A → Type 0) (all came left : List A) : Type 0 where
  pub parts : all ≡ came ++ left
  pub have : All P came

pub turns_begin : {A : Type 0} (P : A → Type 0) {all left : List A} → left ≡ all → Turns P all [] left
turns_begin P is = record { parts = sym is; have = All-nil P }

module _ {A : Type 0} {P : A → Type 0} {all came left : List A} (turns : Turns P all came left) where
  -- the item that comes is one of them
  pub turn_has : {x : A} {after : List A} → left ≡ x ∷ after → Contains all x
  turn_has {x} {after} steps = rw (turns.parts, steps) (Contains-append_right came (x ∷ after) x (0, omega arith, refl))

  -- it has come then
  pub turn_more : {x : A} {after : List A} → left ≡ x ∷ after → P x → Turns P all (came ++ x ∷ []) after
  turn_more {x} {after} steps its = grind (arith, common_steps, append_assoc, All-push)

  -- what each that came has, each has in the end
  pub turns_end : left ≡ [] → All P all
  turns_end none = rw (turns.parts, none, append-nil) turns.have
