-- Why a file is refused: the lines that follow its refusal.
use Rattle.std.specs.Prelude.{◌≡◌, ◌⊎◌, ◌↔◌, ℕ, Bool, false, IsTrue, List, [], Option, Result, Ok, Err}
use Rattle.sas_reader.specs.declared.fault.Fault.{Fault}
use Rattle.sas_reader.specs.declared.fault.Kind.TheVariants.{TooLong}
use Rattle.sas_reader.specs.Format.{Format, LacksLineEnd, ReadsAs}
use Rattle.sas_reader.specs.Limit.{most_bytes}
use Rattle.sas_reader.specs.About.{IsAbout}
use Rattle.sas_reader.specs.Found.{kept_of}
use Rattle.sas_plan_file.specs.PlanFormat.{plan_format}
use Rattle.sas_plan_file.specs.PlanEnds.{LacksCostLine}
use Rattle.sas_task_file.specs.declared.counts.ListCount.{ListCount}
use Rattle.sas_task_file.specs.declared.marks.Mark.{Mark}
use Rattle.sas_task_file.specs.declared.marks.WrongWord.{WrongWord}
use Rattle.sas_task_file.specs.TaskFormat.{task_format}
use Rattle.sas_task_file.specs.Counts.{IsCounted}
use Rattle.sas_task_file.specs.TaskReasons.{IsTaskReason}
use Rattle.sas_requests.specs.FileLine.{FileLine, plan_reasons, task_reasons}
use Rattle.sas_requests.specs.declared.question.Request.{Request}
use Rattle.sas_requests.specs.declared.question.Request.TheVariants.{Steps, Plan}
use Rattle.sas_requests.specs.Output.{IsLayeredText}

-- ---- one file

-- `Explains` relates bytes, their fault, the lines that were accepted before it, and the text that
-- stood there to the reasons why the text may not stand there.
module _ {V I S : Type 0} (F : Format V I S)
    (Explains : List ℕ → Fault → List (List ℕ) → List ℕ → List FileLine → Type 0) where
  -- the reasons why the bytes are refused for their fault, by what it is about; a file that is
  -- too long is refused without a line
  pub data FaultReasons (bytes : List ℕ) (fault : Fault) (reasons : List FileLine) : Type 0 where
    reported : (begun : List (List ℕ)) → (found : List ℕ)
        → IsAbout F most_bytes bytes fault begun found
        → Explains bytes fault begun found reasons → FaultReasons bytes fault reasons
    past_limit : fault.kind ≡ TooLong → reasons ≡ [] → FaultReasons bytes fault reasons

  -- by what the bytes are read as: where they are a text there are none
  abbrev pub ReadReasons : List ℕ → Result V Fault → List FileLine → Type 0
  ReadReasons bytes (Ok value) reasons = reasons ≡ []
  ReadReasons bytes (Err fault) reasons = FaultReasons bytes fault reasons

  -- the reasons why the bytes are refused
  abbrev pub FileReasons : List ℕ → List FileLine → Type 0
  FileReasons bytes reasons = (read : Result V Fault) × ReadsAs F most_bytes bytes read
      × ReadReasons bytes read reasons

-- a task: where the line stands, what is expected there, its first number that isn't allowed
-- there, the number of items of its list, the first bytes of what was found, and a hint
pub record AreTaskReasons (bytes : List ℕ) (fault : Fault) (begun : List (List ℕ)) (found : List ℕ)
    (reasons : List FileLine) : Type 0 where
  pub mark : Mark
  pub word : Option WrongWord
  pub count : Option ListCount
  pub line_end : Bool
  pub reason : IsTaskReason fault.kind begun found mark word
  pub counted : IsCounted begun count
  pub lacks : IsTrue line_end ↔ LacksLineEnd task_format bytes
  pub lines : reasons ≡ task_reasons fault (kept_of fault.kind found)
      (record { line_end = line_end; cost_line = false }) mark word count

-- a plan: what is expected, by the kind of the fault, the first bytes of what was found, and a hint
pub record ArePlanReasons (bytes : List ℕ) (fault : Fault) (begun : List (List ℕ)) (found : List ℕ)
    (reasons : List FileLine) : Type 0 where
  pub line_end : Bool
  pub cost_line : Bool
  pub lacks_line_end : IsTrue line_end ↔ LacksLineEnd plan_format bytes
  pub lacks_cost_line : IsTrue cost_line ↔ LacksCostLine bytes
  pub lines : reasons ≡ plan_reasons fault (kept_of fault.kind found)
      (record { line_end = line_end; cost_line = cost_line })

abbrev pub TaskFileReasons : List ℕ → List FileLine → Type 0
TaskFileReasons = FileReasons task_format AreTaskReasons

abbrev pub PlanFileReasons : List ℕ → List FileLine → Type 0
PlanFileReasons = FileReasons plan_format ArePlanReasons

-- ---- the files of a request

-- The reasons why a file of the request is refused, for the bytes b of the task and c of the plan.
-- For `plan` these are those of the plan if the task is layered, and else those of the task.
abbrev pub RefusalReasons : Request → List ℕ → List ℕ → List FileLine → Type 0
RefusalReasons Steps b c reasons = PlanFileReasons c reasons
RefusalReasons Plan b c reasons = (IsLayeredText b × PlanFileReasons c reasons)
    ⊎ ((IsLayeredText b → ⊥) × TaskFileReasons b reasons)
RefusalReasons request b c reasons = TaskFileReasons b reasons
