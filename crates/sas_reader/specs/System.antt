-- What may still follow, as a system of states. A state is at the end with a value, or before a
-- line.
use Rattle.std.specs.Prelude.{◌≡◌, ℕ, Bool, List, [], ◌∷◌, IsTrue, map}
use Rattle.std.specs.List.{AllByRecursion}
use Rattle.sas_core.specs.Plain.{IsPlain}
use Rattle.sas_reader.specs.declared.fault.Kind.{Kind}
use Rattle.sas_reader.specs.Texts.{lines_of}
use Rattle.sas_reader.specs.Format.{Format}

-- a state of T is at the end with a value, or before a line of a slot that passes a test and leads
-- to a next state
pub data Node (T V I S : Type 0) : Type 0 where
  ended : V → Node T V I S
  before : S → (I → Bool) → (I → T) → Node T V I S

-- `Fits` holds for a line whose numbers can all be spelled in the format.
module _ {V I S : Type 0} (F : Format V I S) (Fits : I → Type 0) where
  -- the line is allowed at a slot under a test
  pub record IsAllowed (s : S) (ok : I → Bool) (i : I) : Type 0 where
    pub slot : F.slot_of i ≡ s
    pub fits : Fits i
    pub good : IsTrue (ok i)

  -- no such line is allowed here, and this is the kind of its fault
  pub record IsRejected (s : S) (ok : I → Bool) (line : List ℕ) (k : Kind) : Type 0 where
    pub none : (i : I) → IsAllowed s ok i → F.texts.spelled i ≡ line → ⊥
    pub kind : F.KindOf s line k

module _ {T V I S : Type 0} (F : Format V I S) (Fits : I → Type 0) where
  -- the node takes the line, and `Then` holds for the next state
  abbrev pub OneLine : Node T V I S → I → (T → Type 0) → Type 0
  OneLine (ended v) i Then = ⊥
  OneLine (before s ok next) i Then = IsAllowed F Fits s ok i × Then (next i)

  -- the node takes no such line, and this is the kind of its fault
  abbrev pub Rejects : Node T V I S → List ℕ → Kind → Type 0
  Rejects (ended v) line k = ⊥
  Rejects (before s ok next) line k = IsRejected F Fits s ok line k

  -- these lines lead from p to q
  abbrev pub After : (T → Node T V I S) → T → List I → T → Type 0
  After node p [] q = p ≡ q
  After node p (i ∷ is) q = OneLine (node p) i (λ r. After node r is q)

  -- these lines lead from p to the end with this value
  abbrev pub LeadsToEnd : (T → Node T V I S) → T → List I → V → Type 0
  LeadsToEnd node p [] v = node p ≡ ended v
  LeadsToEnd node p (i ∷ is) v = OneLine (node p) i (λ r. LeadsToEnd node r is v)

  -- the lines lead from the start to the state
  pub record Leads (node : T → Node T V I S) (start : T) (ls : List (List ℕ)) (p : T) : Type 0 where
    pub items : List I
    pub after : After node start items p
    pub spells : map F.texts.spelled items ≡ ls

  -- The states describe a format. Lines that lead from the start to the end are those of a good
  -- value, and the lines of each good value lead there. Lines that lead to any state can be
  -- completed. No line of a good value contains LF or CR. At a slot a line has one meaning, and its
  -- fault has one kind.
  pub record Grammar (node : T → Node T V I S) (start : T) : Type 0 where
    pub sound : (is : List I) (v : V) → LeadsToEnd node start is v
        → F.texts.Good v × (is ≡ F.texts.layout v)
    pub complete : (v : V) → F.texts.Good v → LeadsToEnd node start (F.texts.layout v) v
    pub fillable : (is : List I) (p : T) → After node start is p
        → (more : List I) × (v : V) × LeadsToEnd node p more v
    pub plain : (v : V) → F.texts.Good v → AllByRecursion IsPlain (lines_of F.texts v)
    pub one_item : (i j : I) → F.slot_of i ≡ F.slot_of j → Fits i → Fits j
        → F.texts.spelled i ≡ F.texts.spelled j → i ≡ j
    pub one_kind : (s : S) (line : List ℕ) (j k : Kind) → F.KindOf s line j
        → F.KindOf s line k → j ≡ k
    pub some_kind : (s : S) (line : List ℕ) → ((k : Kind) → F.KindOf s line k → ⊥) → ⊥
