-- The job that a call asks for.
use Rattle.std.specs.Prelude.{◌≡◌, ℕ, Bool, true, false, List, [], ◌∷◌, codes, ⊤, Option, Some, None}
use Rattle.sas_requests.specs.declared.question.Question.{Question}
use Rattle.sas_requests.specs.declared.question.Request.{Request}
use Rattle.sas_requests.specs.declared.question.Request.TheVariants as request
use Rattle.sas_words.specs.Calls.{bytes_of_words, name_of}
use Rattle.sas_words.specs.Grammar.{plan_words, task_words}
use Rattle.sas_words.specs.declared.calls.Named.{Named}
use Rattle.sas_words.specs.declared.calls.Named.TheVariants as named
use Rattle.sas_words.specs.declared.calls.WordsFault.{WordsFault}
use Rattle.sas_words.specs.declared.calls.WordsFault.TheVariants as fault
use Rattle.sas_tool.specs.declared.arguments.Job.{Job}
use Rattle.sas_tool.specs.declared.arguments.Job.TheVariants.{Files, Plans}
use Rattle.sas_tool.specs.Sources.{IsSource}
use Rattle.sas_tool.specs.declared.arguments.Source.TheVariants.{Input}

abbrev pub question_about : Request → (reasons trace : Bool) → Option Question
question_about r reasons trace =
    Some (record { request = r; detail = record { reasons = reasons; trace = trace } })

-- the question that a request asks, with `--why` or without; `plans` asks none over one plan
abbrev pub asked : Named → (why : Bool) → Option Question
asked named.Plan why = question_about request.Plan why false
asked named.Plans why = None
asked named.Trace why = question_about request.Plan why true
asked named.Mutex why = question_about request.Mutex why false
asked named.Show why = question_about request.Show why false
asked named.Check why = question_about request.Check why false
asked named.Print why = question_about request.Print why false
asked named.Steps why = question_about request.Steps why false

-- this is the question that the request of this name asks
abbrev pub IsQuestion : List ℕ → Bool → Question → Type 0
IsQuestion name why question =
    (n : Named) × (name_of n ≡ name) × (asked n why ≡ Some question)

-- the job is for this request, with `--why` or without, over these files
abbrev pub Asks : List ℕ → Bool → List (List ℕ) → Job → Type 0
Asks name why files (Files question task plan) = IsQuestion name why question
    × IsSource (task_words name files) task
    × IsSource (plan_words name files) plan
Asks name why files (Plans task labels flag) = (codes "plans" ≡ name)
    × (flag ≡ why)
    × IsSource (task_words name files) task
    × (bytes_of_words labels.items ≡ plan_words name files)

-- a task and a plan are both standard input
abbrev pub IsInputTwice : Job → Type 0
IsInputTwice (Files question task plan) = (task ≡ Some Input) × (plan ≡ Some Input)
IsInputTwice (Plans task labels why) = ⊥

-- why a call over these files has no job: memory was refused, or two files are standard input
abbrev pub IsRefusedFor : List (List ℕ) → WordsFault → Type 0
IsRefusedFor files fault.Memory = ⊤
IsRefusedFor files fault.InputTwice = files ≡ codes "-" ∷ codes "-" ∷ []
IsRefusedFor files _ = ⊥
