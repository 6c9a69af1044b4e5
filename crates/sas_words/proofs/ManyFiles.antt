-- The words behind `plans`, a request over a task and one plan or more.
use Rattle.std.proofs.Common.{◌≡◌, ◌∙◌, ◌<◌, ◌≤◌, arith, inl, inr, ℕ, Bool, true, false, refl, sym, ap, List, [], ◌∷◌, ◌++◌, length, length-append, append_assoc, Option, Some, None, unwrap_or, codes, nat_lt, nat_eq, le-ltb, ne_eqb}
use Rattle.clap.specs.Lexer.{usize_max}
use Rattle.clap.specs.Walk.{Row, Rule, Text, all_of, one_of, used, walked}
use Rattle.clap.specs.Simple.{Shape, built_leaf, filled, with_index}
use Rattle.clap.specs.Faults.{defaults_fault, use_fault, values_fault}
use Rattle.clap.specs.Kinds.{or_else, range_kinds}
use Rattle.sas_words.specs.Grammar.{HasRows, IsFlag, explained, files_rule, over_plans, over_task}
use Rattle.sas_words.specs.Usage.{AreTwoOrMore}
use Rattle.sas_words.proofs.Options.{cons≢nil, first, second}
use Rattle.sas_words.proofs.TwoFiles.{with_task, with_why}
use Rattle.sas_words.proofs.Machines.{Machine, Follows, Flags, Places, Takes, TakesFlag, Ends, tail}

-- the files, and where the flag was: `w` is the flag, `t` the task, and `p` some plans
pub data Seen : Type 0 where
  none : Seen
  w : Seen
  t : Text → Seen
  wt : Text → Seen
  tw : Text → Seen
  tp : Text → Text → List Text → Seen
  wtp : Text → Text → List Text → Seen
  twp : Text → Text → List Text → Seen
  tpw : Text → Text → List Text → Seen
  tpwp : Text → Text → List Text → Text → List Text → Seen

abbrev plans_here : Rule
plans_here = with_index 2 (filled files_rule)

-- the rows behind a flag that follows plans
abbrev with_plans : Text → Text → List Text → List Row
with_plans x y ys = with_why (used plans_here (y ∷ ys) (with_task x []))

abbrev held : Seen → List Row × Option (Text × List Text)
held none = ([], None)
held w = (with_why [], None)
held (t x) = ([], Some (codes "TASK", x ∷ []))
held (wt x) = (with_why [], Some (codes "TASK", x ∷ []))
held (tw x) = (with_why (with_task x []), None)
held (tp x y ys) = (with_task x [], Some (codes "PLAN", y ∷ ys))
held (wtp x y ys) = (with_task x (with_why []), Some (codes "PLAN", y ∷ ys))
held (twp x y ys) = (with_why (with_task x []), Some (codes "PLAN", y ∷ ys))
held (tpw x y ys) = (with_plans x y ys, None)
held (tpwp x y ys z zs) = (with_plans x y ys, Some (codes "PLAN", z ∷ zs))

abbrev files : Seen → List Text
files none = []
files w = []
files (t x) = x ∷ []
files (wt x) = x ∷ []
files (tw x) = x ∷ []
files (tp x y ys) = x ∷ y ∷ ys
files (wtp x y ys) = x ∷ y ∷ ys
files (twp x y ys) = x ∷ y ∷ ys
files (tpw x y ys) = x ∷ y ∷ ys
files (tpwp x y ys z zs) = x ∷ y ∷ ys ++ z ∷ zs

abbrev flag : Seen → Bool
flag none = false
flag (t x) = false
flag (tp x y ys) = false
flag _ = true

abbrev taken : Seen → Text → Option Seen
taken none v = Some (t v)
taken w v = Some (wt v)
taken (t x) v = Some (tp x v [])
taken (wt x) v = Some (wtp x v [])
taken (tw x) v = Some (twp x v [])
taken (tp x y ys) v = Some (tp x y (ys ++ v ∷ []))
taken (wtp x y ys) v = Some (wtp x y (ys ++ v ∷ []))
taken (twp x y ys) v = Some (twp x y (ys ++ v ∷ []))
taken (tpw x y ys) v = Some (tpwp x y ys v [])
taken (tpwp x y ys z zs) v = Some (tpwp x y ys z (zs ++ v ∷ []))

abbrev flagged : Seen → Option Seen
flagged none = Some w
flagged (t x) = Some (tw x)
flagged (tp x y ys) = Some (tpw x y ys)
flagged _ = None

abbrev more : Seen → Bool
more (tp x y ys) = true
more (wtp x y ys) = true
more (twp x y ys) = true
more (tpwp x y ys z zs) = true
more _ = false

abbrev position : Seen → ℕ
position none = 1
position w = 1
position _ = 2

abbrev plans_machine : Machine Seen
plans_machine = record {
  start = none;
  files = files;
  flag = flag;
  taken = taken;
  flagged = flagged;
  held = held;
  more = more;
  position = position;
}

abbrev pub IsPlans : Bool → List Text → Type 0
IsPlans _ given = AreTwoOrMore given

abbrev pub plans_shape : Shape
plans_shape = built_leaf (over_plans (over_task (explained (codes "plans")))).top

takes : (s : Seen) (v : Text) → Takes plans_machine IsPlans s v (taken s v)
takes none v = (refl, refl)
takes w v = (refl, refl)
takes (t x) v = (refl, refl)
takes (wt x) v = (refl, refl)
takes (tw x) v = (refl, refl)
takes (tp x y ys) v = (refl, refl)
takes (wtp x y ys) v = (refl, refl)
takes (twp x y ys) v = (refl, refl)
takes (tpw x y ys) v = (refl, refl)
takes (tpwp x y ys z zs) v = (ap (λ l. x ∷ y ∷ l) (sym (append_assoc ys (z ∷ zs) (v ∷ []))), refl)

takes_flag : (s : Seen) → TakesFlag plans_machine IsPlans s (flagged s)
takes_flag none = (refl, refl, refl)
takes_flag w = inl refl
takes_flag (t x) = (refl, refl, refl)
takes_flag (wt x) = inl refl
takes_flag (tw x) = inl refl
takes_flag (tp x y ys) = (refl, refl, refl)
takes_flag (wtp x y ys) = inl refl
takes_flag (twp x y ys) = inl refl
takes_flag (tpw x y ys) = inl refl
takes_flag (tpwp x y ys z zs) = inl refl

places : (s : Seen) (v : Text) (b : Bool) → Places plans_shape plans_machine s v b
unfolding walked
places none v b = (refl, refl)
places w v b = (refl, refl)
places (t x) v b = (refl, refl)
places (wt x) v b = (refl, refl)
places (tw x) v b = (refl, refl)
places (tp x y ys) v b = (refl, refl)
places (wtp x y ys) v b = (refl, refl)
places (twp x y ys) v b = (refl, refl)
places (tpw x y ys) v b = (refl, refl)
places (tpwp x y ys z zs) v b = (refl, refl)

-- ---- the number of the plans

values_well : (l : List Text) → values_fault plans_here l ≡ []
values_well [] = refl
values_well (v ∷ l) = values_well l

range_well : (n : ℕ) → 0 < n → n ≤ usize_max → range_kinds 1 usize_max n ≡ []
range_well n some most =
    let not_none : nat_eq n 0 ≡ false = ne_eqb n 0 (λ e. omega (arith, some, e)) in
    let not_few : nat_lt n 1 ≡ false = le-ltb n 1 (omega (arith, some)) in
    let not_many : nat_lt usize_max n ≡ false = le-ltb usize_max n most in
    rw (not_none, not_few, not_many) refl

-- the plans are used well, behind any rows
plans_well : (ys : List Text) (y : Text) (rows : List Row) → length (y ∷ ys) ≤ usize_max → use_fault false plans_here (y ∷ ys) rows ≡ []
plans_well ys y rows few =
    ap (λ k. or_else k (values_fault plans_here (y ∷ ys))) (range_well (length (y ∷ ys)) (omega arith) few) ∙ values_well (y ∷ ys)

flags : (s : Seen) → length (files s) ≤ usize_max → Flags plans_shape plans_machine s
unfolding walked
flags none few = (refl, refl)
flags w few = cons≢nil _ _
flags (t x) few = (refl, refl)
flags (wt x) few = cons≢nil _ _
flags (tw x) few = cons≢nil _ _
flags (tp x y ys) few = (ap (λ k. or_else (or_else k []) []) (plans_well ys y (with_task x []) (omega (arith, few))), refl)
flags (wtp x y ys) few = λ e. cons≢nil _ _ (second _ _ (first _ _ e))
flags (twp x y ys) few = λ e. cons≢nil _ _ (second _ _ (first _ _ e))
flags (tpw x y ys) few = cons≢nil _ _
flags (tpwp x y ys z zs) few = λ e. cons≢nil _ _ (second _ _ (first _ _ e))

-- ---- all words

nothing : AreTwoOrMore [] → ⊥
nothing well = cons≢nil well.0 (well.1 ∷ well.2) (sym well.3)

one : (x : Text) → AreTwoOrMore (x ∷ []) → ⊥
one x well = cons≢nil well.1 well.2 (sym (ap tail well.3))

rows_here : (b : Bool) (x : Text) (plans : List Text) (rows : List Row) → all_of (codes "TASK") rows ≡ Some (x ∷ []) → all_of (codes "PLAN") rows ≡ Some plans
    → IsFlag b (one_of (codes "why") rows) → HasRows (codes "plans") b (x ∷ plans) rows
rows_here b x plans rows et ep ef = record {
  known = inr (inl refl);
  task = ap (λ o. unwrap_or o []) et;
  plans = ap (λ o. unwrap_or o []) ep;
  flag = ef;
}

ends : (s : Seen) → Ends plans_machine IsPlans plans_shape (codes "plans") s
unfolding defaults_fault
ends none = inr (cons≢nil _ _, nothing)
ends w = inr (cons≢nil _ _, nothing)
ends (t x) = inr (cons≢nil _ _, one x)
ends (wt x) = inr (cons≢nil _ _, one x)
ends (tw x) = inr (cons≢nil _ _, one x)
ends (tp x y ys) = inl (λ few. ap (λ k. or_else k []) (plans_well ys y [] (omega (arith, few))), (x, y, ys, refl), rows_here false x (y ∷ ys) _ refl refl (inl refl))
ends (wtp x y ys) = inl (λ few. ap (λ k. or_else k []) (plans_well ys y [] (omega (arith, few))), (x, y, ys, refl), rows_here true x (y ∷ ys) _ refl refl (inl refl))
ends (twp x y ys) = inl (λ few. ap (λ k. or_else k []) (plans_well ys y [] (omega (arith, few))), (x, y, ys, refl), rows_here true x (y ∷ ys) _ refl refl (inl refl))
ends (tpw x y ys) = inl (λ few. refl, (x, y, ys, refl), rows_here true x (y ∷ ys) _ refl refl (inl refl))
ends (tpwp x y ys z zs) = inl (λ few. ap (λ k. or_else k []) (plans_well zs z [] (omega (arith, few, length-append ys (z ∷ zs)))), (x, y, ys ++ z ∷ zs, refl), rows_here true x (y ∷ ys ++ z ∷ zs) _ refl refl (inl refl))

pub plans_follows : Follows plans_shape (codes "plans") plans_machine IsPlans
plans_follows = record {
  harmless = (inr (inl refl), (inl refl, (inl refl, (inr (inr (refl, λ h e. cons≢nil _ _ (second _ _ e))), tt))));
  begins = (refl, refl, refl);
  places = places;
  flags = flags;
  takes = takes;
  takes_flag = takes_flag;
  ends = ends;
}
