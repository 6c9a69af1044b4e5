-- The words behind a request over one file: `mutex`, `show`, `check`, `print` and `steps`.
use Rattle.std.proofs.Common.{◌≡◌, ◌∙◌, inl, inr, ℕ, Bool, true, false, cond, refl, sym, ap, List, [], ◌∷◌, Option, Some, None, bytes_eq, unwrap_or, codes}
use Rattle.clap.specs.Walk.{Row, Rule, Text, all_of, one_of, used, walked}
use Rattle.clap.specs.Simple.{Shape, built_leaf, filled, with_index}
use Rattle.clap.specs.Faults.{defaults_fault}
use Rattle.sas_words.specs.Grammar.{Among, HasRows, IsFlag, explained, file_rule, over_plan, over_task, request_names}
use Rattle.sas_words.specs.Usage.{IsOne}
use Rattle.sas_words.proofs.Options.{cons≢nil, second, why_here}
use Rattle.sas_words.proofs.Machines.{Machine, Follows, Flags, Places, Takes, TakesFlag, Ends, tail}

-- the file, and whether the flag came before it or behind it
pub data Seen : Type 0 where
  none : Seen
  why : Seen
  file : Text → Seen
  why_file : Text → Seen
  file_why : Text → Seen

module _ (id : Text) where
  abbrev file_here : Rule
  file_here = with_index 1 (filled (file_rule id))

  abbrev held : Seen → List Row × Option (Text × List Text)
  held none = ([], None)
  held why = (used why_here [] [], None)
  held (file x) = ([], Some (id, x ∷ []))
  held (why_file x) = (used why_here [] [], Some (id, x ∷ []))
  held (file_why x) = (used why_here [] (used file_here (x ∷ []) []), None)

abbrev files : Seen → List Text
files none = []
files why = []
files (file x) = x ∷ []
files (why_file x) = x ∷ []
files (file_why x) = x ∷ []

abbrev flag : Seen → Bool
flag none = false
flag why = true
flag (file x) = false
flag (why_file x) = true
flag (file_why x) = true

abbrev taken : Seen → Text → Option Seen
taken none v = Some (file v)
taken why v = Some (why_file v)
taken _ v = None

abbrev flagged : Seen → Option Seen
flagged none = Some why
flagged (file x) = Some (file_why x)
flagged _ = None

abbrev position : Seen → ℕ
position none = 1
position why = 1
position _ = 2

abbrev pub one_file : Text → Machine Seen
one_file id = record {
  start = none;
  files = files;
  flag = flag;
  taken = taken;
  flagged = flagged;
  held = held id;
  more = λ s. false;
  position = position;
}

abbrev pub IsWell : Bool → List Text → Type 0
IsWell _ given = IsOne given

no_more : (x v : Text) (rest : List Text) → IsOne (x ∷ v ∷ rest) → ⊥
no_more x v rest well = cons≢nil v rest (ap tail well.1)

takes : (id : Text) (s : Seen) (v : Text) → Takes (one_file id) IsWell s v (taken s v)
takes id none v = (refl, refl)
takes id why v = (refl, refl)
takes id (file x) v = λ b. no_more x v
takes id (why_file x) v = λ b. no_more x v
takes id (file_why x) v = λ b. no_more x v

takes_flag : (id : Text) (s : Seen) → TakesFlag (one_file id) IsWell s (flagged s)
takes_flag id none = (refl, refl, refl)
takes_flag id why = inl refl
takes_flag id (file x) = (refl, refl, refl)
takes_flag id (why_file x) = inl refl
takes_flag id (file_why x) = inl refl

steps_known : Among request_names (codes "steps")
steps_known = inr (inr (inr (inr (inr (inr (inr (inl refl)))))))

nothing : IsOne [] → ⊥
nothing well = cons≢nil well.0 [] (sym well.1)

-- ---- over a task

abbrev pub task_shape : Text → Shape
task_shape name = built_leaf (over_task (explained name)).top

abbrev task_file : Machine Seen
task_file = one_file (codes "TASK")

task_places : (name : Text) (s : Seen) (v : Text) (b : Bool) → Places (task_shape name) task_file s v b
unfolding walked
task_places name none v b = (refl, refl)
task_places name why v b = (refl, refl)
task_places name (file x) v b = cons≢nil _ _
task_places name (why_file x) v b = cons≢nil _ _
task_places name (file_why x) v b = cons≢nil _ _

task_flags : (name : Text) (s : Seen) → Flags (task_shape name) task_file s
unfolding walked
task_flags name none = (refl, refl)
task_flags name why = cons≢nil _ _
task_flags name (file x) = (refl, refl)
task_flags name (why_file x) = cons≢nil _ _
task_flags name (file_why x) = cons≢nil _ _

-- ---- over a plan

abbrev pub plan_shape : Shape
plan_shape = built_leaf (over_plan (explained (codes "steps"))).top

abbrev plan_file : Machine Seen
plan_file = one_file (codes "PLAN")

plan_places : (s : Seen) (v : Text) (b : Bool) → Places plan_shape plan_file s v b
unfolding walked
plan_places none v b = (refl, refl)
plan_places why v b = (refl, refl)
plan_places (file x) v b = cons≢nil _ _
plan_places (why_file x) v b = cons≢nil _ _
plan_places (file_why x) v b = cons≢nil _ _

plan_flags : (s : Seen) → Flags plan_shape plan_file s
unfolding walked
plan_flags none = (refl, refl)
plan_flags why = cons≢nil _ _
plan_flags (file x) = (refl, refl)
plan_flags (why_file x) = cons≢nil _ _
plan_flags (file_why x) = cons≢nil _ _

-- ---- all words

module _ (name : Text) (known : Among request_names name) (other : bytes_eq name (codes "steps") ≡ false) where
  rows_here : (b : Bool) (x : Text) (rows : List Row) → all_of (codes "TASK") rows ≡ Some (x ∷ []) → all_of (codes "PLAN") rows ≡ None
      → IsFlag b (one_of (codes "why") rows) → HasRows name b (x ∷ []) rows
  rows_here b x rows et ep ef = record {
    known = known;
    task = ap (λ o. unwrap_or o []) et ∙ ap (λ c. cond c [] (x ∷ [])) (sym other);
    plans = ap (λ o. unwrap_or o []) ep ∙ ap (λ c. cond c (x ∷ []) []) (sym other);
    flag = ef;
  }

  task_ends : (s : Seen) → Ends task_file IsWell (task_shape name) name s
  unfolding defaults_fault
  task_ends none = inr (cons≢nil _ _, nothing)
  task_ends why = inr (cons≢nil _ _, nothing)
  task_ends (file x) = inl (λ few. refl, (x, refl), rows_here false x _ refl refl (inl refl))
  task_ends (why_file x) = inl (λ few. refl, (x, refl), rows_here true x _ refl refl (inl refl))
  task_ends (file_why x) = inl (λ few. refl, (x, refl), rows_here true x _ refl refl (inl refl))

  pub task_follows : Follows (task_shape name) name task_file IsWell
  task_follows = record {
    harmless = (inr (inl refl), (inl refl, (inr (inr (refl, λ h e. cons≢nil _ _ (second _ _ e))), tt)));
    begins = (refl, refl, refl);
    places = task_places name;
    flags = λ s few. task_flags name s;
    takes = takes (codes "TASK");
    takes_flag = takes_flag (codes "TASK");
    ends = task_ends;
  }

plan_ends : (s : Seen) → Ends plan_file IsWell plan_shape (codes "steps") s
unfolding defaults_fault
plan_ends none = inr (cons≢nil _ _, nothing)
plan_ends why = inr (cons≢nil _ _, nothing)
plan_ends (file x) = inl (λ few. refl, (x, refl), record { known = steps_known; task = refl; plans = refl; flag = inl refl })
plan_ends (why_file x) = inl (λ few. refl, (x, refl), record { known = steps_known; task = refl; plans = refl; flag = inl refl })
plan_ends (file_why x) = inl (λ few. refl, (x, refl), record { known = steps_known; task = refl; plans = refl; flag = inl refl })

pub plan_follows : Follows plan_shape (codes "steps") plan_file IsWell
plan_follows = record {
  harmless = (inr (inl refl), (inl refl, (inr (inr (refl, λ h e. cons≢nil _ _ (second _ _ e))), tt)));
  begins = (refl, refl, refl);
  places = plan_places;
  flags = λ s few. plan_flags s;
  takes = takes (codes "PLAN");
  takes_flag = takes_flag (codes "PLAN");
  ends = plan_ends;
}
