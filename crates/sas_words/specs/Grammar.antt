-- The grammar of the command line, as clap sees it, and what it finds in words.
use Rattle.std.specs.Prelude.{◌≡◌, ◌⊎◌, ℕ, Bool, true, false, if◌then◌else◌, List, [], ◌∷◌, take, drop, unwrap_or, bytes_eq, codes, Option, Some, None}
use Rattle.clap.specs.Lexer.{usize_max}
use Rattle.clap.specs.Words.{App, Row, Rule, Text, all_of, app_of, new_app, new_rule, one_of, with_rule, with_subcommand}
use Rattle.clap.specs.declared.builder.action.ArgAction.TheVariants.{SetTrue}
use Rattle.clap.specs.declared.builder.command.Command.{Command}
use Rattle.clap.specs.declared.builder.command.Command.TheViews.{out-Command}

-- the command is this one, and no argument is global
abbrev pub IsCommand : App → Command → Type 0
IsCommand app command = (app_of command ≡ app) × ((out-Command command).has_globals ≡ false)

-- ---- arguments

abbrev pub why_rule : Rule
why_rule = record (new_rule (codes "why")) { long = Some (codes "why"); action = Some SetTrue }

abbrev pub file_rule : Text → Rule
file_rule id = record (new_rule id) { required = true }

abbrev pub files_rule : Rule
files_rule = record (file_rule (codes "PLAN")) {
  range = Some (record { start_inclusive = 1; end_inclusive = usize_max });
}

-- ---- requests

-- with the flag for reasons
abbrev pub explained : Text → App
explained name = with_rule (new_app name) why_rule

abbrev pub over_task : App → App
over_task app = with_rule app (file_rule (codes "TASK"))

abbrev pub over_plan : App → App
over_plan app = with_rule app (file_rule (codes "PLAN"))

abbrev pub over_plans : App → App
over_plans app = with_rule app files_rule

-- ---- the program

abbrev pub top_app : App
top_app = record { top = record (new_app (codes "sas")).top { has_version = true }; subs = [] }

abbrev pub with_request : App → App → App
with_request app request = with_subcommand app request.top

abbrev pub checks_app : App
checks_app = with_request (with_request (with_request top_app
    (over_plan (over_task (explained (codes "plan")))))
    (over_plans (over_task (explained (codes "plans")))))
    (over_plan (over_task (explained (codes "trace"))))

abbrev pub sas_app : App
sas_app = with_request (with_request (with_request (with_request (with_request checks_app
    (over_task (explained (codes "mutex"))))
    (over_task (explained (codes "show"))))
    (over_task (explained (codes "check"))))
    (over_task (explained (codes "print"))))
    (over_plan (explained (codes "steps")))

-- ---- what was found

-- of a request's files, those that name a task, and those that name plans
abbrev pub task_words : List ℕ → List (List ℕ) → List (List ℕ)
task_words request files = if bytes_eq request (codes "steps") then [] else take 1 files

abbrev pub plan_words : List ℕ → List (List ℕ) → List (List ℕ)
plan_words request files = if bytes_eq request (codes "steps") then files else drop 1 files

abbrev pub request_names : List (List ℕ)
request_names = codes "plan" ∷ codes "plans" ∷ codes "trace" ∷ codes "mutex" ∷ codes "show"
    ∷ codes "check" ∷ codes "print" ∷ codes "steps" ∷ []

abbrev pub Among : List (List ℕ) → List ℕ → Type 0
Among [] name = ⊥
Among (one ∷ rest) name = (one ≡ name) ⊎ Among rest name

-- the flag was found, or not
abbrev pub IsFlag : Bool → Option Text → Type 0
IsFlag why flag = (flag ≡ Some (if why then codes "true" else codes "false"))
    ⊎ ((flag ≡ None) × (why ≡ false))

-- the rows say so
pub record HasRows (request : List ℕ) (why : Bool) (files : List (List ℕ)) (rows : List Row)
    : Type 0 where
  pub known : Among request_names request
  pub task : unwrap_or (all_of (codes "TASK") rows) [] ≡ task_words request files
  pub plans : unwrap_or (all_of (codes "PLAN") rows) [] ≡ plan_words request files
  pub flag : IsFlag why (one_of (codes "why") rows)

-- a subcommand was met that says so; where none was, it is `steps -`
abbrev pub HasFound : List ℕ → Bool → List (List ℕ) → Option (Text × List Row) → Type 0
HasFound request why files None =
    (request ≡ codes "steps") × (why ≡ false) × (files ≡ codes "-" ∷ [])
HasFound request why files (Some met) = (met.0 ≡ request) × HasRows request why files met.1
