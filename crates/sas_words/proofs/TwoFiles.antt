-- The words behind a request over a task and one plan: `plan` and `trace`.
use Rattle.std.proofs.Common.{◌≡◌, ◌∙◌, inl, inr, ℕ, Bool, true, false, cond, refl, sym, ap, List, [], ◌∷◌, Option, Some, None, bytes_eq, unwrap_or, codes}
use Rattle.clap.specs.Walk.{Row, Rule, Text, all_of, one_of, used, walked}
use Rattle.clap.specs.Simple.{Shape, built_leaf, filled, with_index}
use Rattle.clap.specs.Faults.{defaults_fault}
use Rattle.sas_words.specs.Grammar.{Among, HasRows, IsFlag, explained, file_rule, over_plan, over_task, request_names}
use Rattle.sas_words.specs.Usage.{AreTwo}
use Rattle.sas_words.proofs.Options.{cons≢nil, second, why_here}
use Rattle.sas_words.proofs.Machines.{Machine, Follows, Flags, Places, Takes, TakesFlag, Ends, tail}

-- the files, and where the flag was: `w` is the flag, `t` the task and `p` the plan
pub data Seen : Type 0 where
  none : Seen
  w : Seen
  t : Text → Seen
  wt : Text → Seen
  tw : Text → Seen
  tp : Text → Text → Seen
  wtp : Text → Text → Seen
  twp : Text → Text → Seen
  tpw : Text → Text → Seen

abbrev pub task_here : Rule
task_here = with_index 1 (filled (file_rule (codes "TASK")))

abbrev plan_here : Rule
plan_here = with_index 2 (filled (file_rule (codes "PLAN")))

abbrev pub with_task : Text → List Row → List Row
with_task x rows = used task_here (x ∷ []) rows

abbrev pub with_why : List Row → List Row
with_why rows = used why_here [] rows

abbrev held : Seen → List Row × Option (Text × List Text)
held none = ([], None)
held w = (with_why [], None)
held (t x) = ([], Some (codes "TASK", x ∷ []))
held (wt x) = (with_why [], Some (codes "TASK", x ∷ []))
held (tw x) = (with_why (with_task x []), None)
held (tp x y) = (with_task x [], Some (codes "PLAN", y ∷ []))
held (wtp x y) = (with_task x (with_why []), Some (codes "PLAN", y ∷ []))
held (twp x y) = (with_why (with_task x []), Some (codes "PLAN", y ∷ []))
held (tpw x y) = (with_why (used plan_here (y ∷ []) (with_task x [])), None)

abbrev files : Seen → List Text
files none = []
files w = []
files (t x) = x ∷ []
files (wt x) = x ∷ []
files (tw x) = x ∷ []
files (tp x y) = x ∷ y ∷ []
files (wtp x y) = x ∷ y ∷ []
files (twp x y) = x ∷ y ∷ []
files (tpw x y) = x ∷ y ∷ []

abbrev flag : Seen → Bool
flag none = false
flag (t x) = false
flag (tp x y) = false
flag _ = true

abbrev taken : Seen → Text → Option Seen
taken none v = Some (t v)
taken w v = Some (wt v)
taken (t x) v = Some (tp x v)
taken (wt x) v = Some (wtp x v)
taken (tw x) v = Some (twp x v)
taken _ v = None

abbrev flagged : Seen → Option Seen
flagged none = Some w
flagged (t x) = Some (tw x)
flagged (tp x y) = Some (tpw x y)
flagged _ = None

abbrev position : Seen → ℕ
position none = 1
position w = 1
position (t x) = 2
position (wt x) = 2
position (tw x) = 2
position _ = 3

abbrev plan_machine : Machine Seen
plan_machine = record {
  start = none;
  files = files;
  flag = flag;
  taken = taken;
  flagged = flagged;
  held = held;
  more = λ s. false;
  position = position;
}

abbrev pub IsPlan : Bool → List Text → Type 0
IsPlan _ given = AreTwo given

abbrev pub plan_shape : Text → Shape
plan_shape name = built_leaf (over_plan (over_task (explained name))).top

no_more : (x y v : Text) (rest : List Text) → AreTwo (x ∷ y ∷ v ∷ rest) → ⊥
no_more x y v rest well = cons≢nil v rest (ap (λ l. tail (tail l)) well.2)

nothing : AreTwo [] → ⊥
nothing well = cons≢nil well.0 (well.1 ∷ []) (sym well.2)

one : (x : Text) → AreTwo (x ∷ []) → ⊥
one x well = cons≢nil well.1 [] (sym (ap tail well.2))

plan_takes : (s : Seen) (v : Text) → Takes plan_machine IsPlan s v (taken s v)
plan_takes none v = (refl, refl)
plan_takes w v = (refl, refl)
plan_takes (t x) v = (refl, refl)
plan_takes (wt x) v = (refl, refl)
plan_takes (tw x) v = (refl, refl)
plan_takes (tp x y) v = λ b. no_more x y v
plan_takes (wtp x y) v = λ b. no_more x y v
plan_takes (twp x y) v = λ b. no_more x y v
plan_takes (tpw x y) v = λ b. no_more x y v

plan_takes_flag : (s : Seen) → TakesFlag plan_machine IsPlan s (flagged s)
plan_takes_flag none = (refl, refl, refl)
plan_takes_flag w = inl refl
plan_takes_flag (t x) = (refl, refl, refl)
plan_takes_flag (wt x) = inl refl
plan_takes_flag (tw x) = inl refl
plan_takes_flag (tp x y) = (refl, refl, refl)
plan_takes_flag (wtp x y) = inl refl
plan_takes_flag (twp x y) = inl refl
plan_takes_flag (tpw x y) = inl refl

plan_places : (name : Text) (s : Seen) (v : Text) (b : Bool) → Places (plan_shape name) plan_machine s v b
unfolding walked
plan_places name none v b = (refl, refl)
plan_places name w v b = (refl, refl)
plan_places name (t x) v b = (refl, refl)
plan_places name (wt x) v b = (refl, refl)
plan_places name (tw x) v b = (refl, refl)
plan_places name (tp x y) v b = cons≢nil _ _
plan_places name (wtp x y) v b = cons≢nil _ _
plan_places name (twp x y) v b = cons≢nil _ _
plan_places name (tpw x y) v b = cons≢nil _ _

plan_flags : (name : Text) (s : Seen) → Flags (plan_shape name) plan_machine s
unfolding walked
plan_flags name none = (refl, refl)
plan_flags name w = cons≢nil _ _
plan_flags name (t x) = (refl, refl)
plan_flags name (wt x) = cons≢nil _ _
plan_flags name (tw x) = cons≢nil _ _
plan_flags name (tp x y) = (refl, refl)
plan_flags name (wtp x y) = cons≢nil _ _
plan_flags name (twp x y) = cons≢nil _ _
plan_flags name (tpw x y) = cons≢nil _ _

-- ---- all words

module _ (name : Text) (known : Among request_names name) (other : bytes_eq name (codes "steps") ≡ false) where
  rows_here : (b : Bool) (x y : Text) (rows : List Row) → all_of (codes "TASK") rows ≡ Some (x ∷ []) → all_of (codes "PLAN") rows ≡ Some (y ∷ [])
      → IsFlag b (one_of (codes "why") rows) → HasRows name b (x ∷ y ∷ []) rows
  rows_here b x y rows et ep ef = record {
    known = known;
    task = ap (λ o. unwrap_or o []) et ∙ ap (λ c. cond c [] (x ∷ [])) (sym other);
    plans = ap (λ o. unwrap_or o []) ep ∙ ap (λ c. cond c (x ∷ y ∷ []) (y ∷ [])) (sym other);
    flag = ef;
  }

  plan_ends : (s : Seen) → Ends plan_machine IsPlan (plan_shape name) name s
  unfolding defaults_fault
  plan_ends none = inr (cons≢nil _ _, nothing)
  plan_ends w = inr (cons≢nil _ _, nothing)
  plan_ends (t x) = inr (cons≢nil _ _, one x)
  plan_ends (wt x) = inr (cons≢nil _ _, one x)
  plan_ends (tw x) = inr (cons≢nil _ _, one x)
  plan_ends (tp x y) = inl (λ few. refl, (x, y, refl), rows_here false x y _ refl refl (inl refl))
  plan_ends (wtp x y) = inl (λ few. refl, (x, y, refl), rows_here true x y _ refl refl (inl refl))
  plan_ends (twp x y) = inl (λ few. refl, (x, y, refl), rows_here true x y _ refl refl (inl refl))
  plan_ends (tpw x y) = inl (λ few. refl, (x, y, refl), rows_here true x y _ refl refl (inl refl))

  pub plan_follows : Follows (plan_shape name) name plan_machine IsPlan
  plan_follows = record {
    harmless = (inr (inl refl), (inl refl, (inl refl, (inr (inr (refl, λ h e. cons≢nil _ _ (second _ _ e))), tt))));
    begins = (refl, refl, refl);
    places = plan_places name;
    flags = λ s few. plan_flags name s;
    takes = plan_takes;
    takes_flag = plan_takes_flag;
    ends = plan_ends;
  }
