-- What the program prints: one output for each request and its inputs.
use Rattle.std.specs.Prelude.{◌≡◌, ◌⊎◌, ℕ, ◌<◌, ◌^◌, Bool, true, false, IsTrue, List, ◌++◌, length}
use Rattle.std.specs.Prelude.{codes, decimal, Option, Some, None, option_map, Result, Ok, Err}
use Rattle.sas_core.specs.declared.parts.Parts.{Parts}
use Rattle.sas_core.specs.FirstFault.{first_fault}
use Rattle.sas_core.specs.PlanParts.{PlanParts}
use Rattle.sas_meaning.specs.declared.layered.LayerFault.{LayerFault}
use Rattle.sas_meaning.specs.Layers.{IsLayered}
use Rattle.sas_meaning.specs.LayerChecks.{layer_checks}
use Rattle.sas_lines.specs.Lines.{text}
use Rattle.sas_reader.specs.declared.fault.Fault.{Fault}
use Rattle.sas_reader.specs.declared.fault.Kind.{Kind}
use Rattle.sas_reader.specs.declared.fault.Kind.TheVariants.{Keyword, Name, Shape, Value, End, Trailing}
use Rattle.sas_reader.specs.Texts.{lines_of}
use Rattle.sas_reader.specs.Format.{Format, ReadsAs}
use Rattle.sas_reader.specs.Limit.{most_bytes}
use Rattle.sas_plan_file.specs.PlanFormat.{plan_format}
use Rattle.sas_task_file.specs.TaskFormat.{task_format}
use Rattle.sas_flat.specs.Outlines.{outline_of}
use Rattle.sas_answers.specs.declared.ending.Status.TheVariants.{Yes, No}
use Rattle.sas_answers.specs.Answers.{layers_refusal, CheckAnswer, MutexAnswer, VerdictAnswer}
use Rattle.sas_answers.specs.Ending.{Output}
use Rattle.sas_requests.specs.declared.question.Request.{Request}
use Rattle.sas_requests.specs.declared.question.Request.TheVariants.{Show, Print, Steps, Check, Plan, Mutex}
use Rattle.sas_requests.specs.Summary.{summary_lines}

-- the word for a kind of fault; the kinds without a word mean that the file was not read as a whole
abbrev pub word_of : Kind → Option (List ℕ)
word_of Keyword = Some (codes "keyword")
word_of Name = Some (codes "name")
word_of Shape = Some (codes "shape")
word_of Value = Some (codes "value")
word_of End = Some (codes "end")
word_of Trailing = Some (codes "trailing")
word_of _ = None

-- the line that refuses the file with this name
abbrev pub refusal_line : List ℕ → ℕ → List ℕ → List ℕ
refusal_line name line word =
    name ++ codes " refused: line " ++ decimal line ++ codes ": " ++ word ++ codes "\n"

-- the refusal of a file for its fault; a file that is too long has none
abbrev pub refusal : List ℕ → Fault → Option Output
refusal name fault =
    option_map (λ word. record { text = refusal_line name fault.line word; status = No })
    (word_of fault.kind)

-- The output for the result of reading the file with this name: an answer about its value, or the
-- refusal. `IsAnswer` holds for the outputs that are answers about a value.
abbrev pub IsAnswerOrRefusal : {V : Type 0} → List ℕ → (V → Output → Type 0) → Result V Fault
    → Option Output → Type 0
IsAnswerOrRefusal name IsAnswer (Ok value) output =
    (answer : Output) × IsAnswer value answer × (output ≡ Some answer)
IsAnswerOrRefusal name IsAnswer (Err fault) output = output ≡ refusal name fault

-- the answer of `show` is the lines of the task's summary, each ended by LF
abbrev pub ShowAnswer : Parts → Output → Type 0
ShowAnswer p output = output ≡ record { text = text (summary_lines (outline_of p)); status = Yes }

module _ {V I S : Type 0} (F : Format V I S) where
  -- the answer of `print` and `steps` is the lines of the value, each ended by LF
  abbrev pub PrintAnswer : V → Output → Type 0
  PrintAnswer value output = output ≡ record { text = text (lines_of F.texts value); status = Yes }

  -- the output for the bytes of the file with this name
  abbrev pub FileOut : List ℕ → (V → Output → Type 0) → List ℕ → Option Output → Type 0
  FileOut name IsAnswer bytes output = (read : Result V Fault)
      × ReadsAs F most_bytes bytes read
      × IsAnswerOrRefusal name IsAnswer read output

-- the output about the bytes of a task file
abbrev pub TaskOut : (Parts → Output → Type 0) → List ℕ → Option Output → Type 0
TaskOut = FileOut task_format (codes "task")

-- `refused` is the refusal of a task for a fault of its layers.
module _ (refused : Parts → LayerFault → Option Output) where
  -- the answer about a task that isn't layered: its refusal for the first fault
  abbrev pub UnlayeredAnswer : Parts → Output → Type 0
  UnlayeredAnswer p output = (fault : LayerFault)
      × (first_fault (layer_checks p) ≡ Some fault)
      × (refused p fault ≡ Some output)

  -- The output for the bytes b of a task, where something is judged for it: the refusal of the
  -- task, or if it is layered the output that `IsOut` relates to it.
  abbrev pub LayeredOut : (Parts → Option Output → Type 0) → List ℕ → Option Output → Type 0
  LayeredOut IsOut b output =
      TaskOut UnlayeredAnswer b output
      ⊎ ((p : Parts) × ReadsAs task_format most_bytes b (Ok p) × IsLayered p × IsOut p output)

-- the refusal of a task without reasons
abbrev pub plain_refusal : Parts → LayerFault → Option Output
plain_refusal p fault = layers_refusal fault

-- `Verdict` holds for the outputs that are answers about a plan of a layered task.
module _ (Verdict : Parts → PlanParts → Output → Type 0) where
  -- the output for the plan's bytes and a layered task
  abbrev pub VerdictOut : Parts → List ℕ → Option Output → Type 0
  VerdictOut p = FileOut plan_format (codes "plan") (Verdict p)

  -- the output for the bytes b of the task and c of the plan; only the plan of a layered task is
  -- judged
  abbrev pub PlanOutBy : (Parts → LayerFault → Option Output) → List ℕ → List ℕ → Option Output
      → Type 0
  PlanOutBy refused b c = LayeredOut refused (λ p. VerdictOut p c) b

-- The output of a request for the bytes b of the task and c of the plan, or none if the file that
-- decides it is too long. It is made of the answers about a task's layers, about its groups and
-- about a plan, and of the refusal of a task that isn't layered.
module _ (OfLayers OfGroups : Parts → Output → Type 0)
    (OfPlan : Parts → PlanParts → Output → Type 0)
    (refused : Parts → LayerFault → Option Output) where
  abbrev pub OutOf : Request → List ℕ → List ℕ → Option Output → Type 0
  OutOf Show b c output = TaskOut ShowAnswer b output
  OutOf Print b c output = TaskOut (PrintAnswer task_format) b output
  OutOf Steps b c output = FileOut plan_format (codes "plan") (PrintAnswer plan_format) c output
  OutOf Check b c output = TaskOut OfLayers b output
  OutOf Plan b c output = PlanOutBy OfPlan refused b c output
  OutOf Mutex b c output = TaskOut OfGroups b output

-- the output without reasons
abbrev pub Out : Request → List ℕ → List ℕ → Option Output → Type 0
Out = OutOf CheckAnswer MutexAnswer VerdictAnswer plain_refusal

-- ---- the inputs that a request reads

-- whether it reads the task
abbrev pub reads_task : Request → Bool
reads_task Steps = false
reads_task request = true

-- whether it reads the plan
abbrev pub reads_plan : Request → Bool
reads_plan Steps = true
reads_plan Plan = true
reads_plan request = false

-- the bytes are within the limit and a text of a layered task
abbrev pub IsLayeredText : List ℕ → Type 0
IsLayeredText b = (p : Parts) × ReadsAs task_format most_bytes b (Ok p) × IsLayered p

-- the inputs that the request reads are b for the task and c for the plan
abbrev pub AreInputs : Request → Option (List ℕ) → Option (List ℕ) → List ℕ → List ℕ → Type 0
AreInputs request task plan b c =
    (IsTrue (reads_task request) → task ≡ Some b) × (IsTrue (reads_plan request) → plan ≡ Some c)

-- an input exceeds the limit: the one that the request reads; for `plan` the task, or the plan if
-- the task is layered
abbrev pub IsLong : Request → List ℕ → List ℕ → Type 0
IsLong Steps b c = most_bytes < length c
IsLong Plan b c = (most_bytes < length b) ⊎ (IsLayeredText b × (most_bytes < length c))
IsLong request b c = most_bytes < length b

-- ---- laws

-- `IsOut` holds of one output: not of two, and it can't be that it holds of none. Nothing is
-- printed only if an input exceeds the limit.
pub record HasOneOutput (IsOut : Option Output → Type 0) (TooLong : Type 0) : Type 0 where
  pub one : (o p : Option Output) → IsOut o → IsOut p → o ≡ p
  pub some : ((o : Option Output) → IsOut o → ⊥) → ⊥
  pub long : IsOut None → TooLong

-- each output is shorter than 2 ^ 64 bytes
abbrev pub ShortOutput : Type 0
ShortOutput = (request : Request) (b c : List ℕ) (o : Output) → Out request b c (Some o)
    → length o.text < 2 ^ 64
