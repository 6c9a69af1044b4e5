-- Whether operators, by their numbers, solve a task.
use Rattle.std.specs.Prelude.{◌≡◌, ◌⊎◌, ℕ, List, ◌++◌, length, codes, decimal, Option, Some, option_map}
use Rattle.sas_core.specs.declared.parts.Parts.{Parts}
use Rattle.sas_run.specs.declared.plan_check.PlanFault.{PlanFault}
use Rattle.sas_run.specs.declared.plan_check.PlanFault.TheVariants.{NoOperator}
use Rattle.sas_run.specs.declared.starts.StartFault.{StartFault}
use Rattle.sas_run.specs.declared.starts.StartFault.TheVariants.{Count, Value}
use Rattle.sas_run.specs.ByNumbers.{IsValidFrom}
use Rattle.sas_run.specs.NumberFaults.{IsFaultFrom}
use Rattle.sas_run.specs.Starts.{IsStart, IsStartFault, start_of}
use Rattle.sas_answers.specs.declared.ending.Status.TheVariants.{No}
use Rattle.sas_answers.specs.Ending.{Output}
use Rattle.sas_answers.specs.PlanWords.{step_words, fault_words, invalid_line}
use Rattle.sas_answers.specs.Answers.{valid_by}

-- the words for a fault: those about a plan by names, but where no operator has a step's number
abbrev pub number_fault_words : ℕ → PlanFault → Option (List ℕ)
number_fault_words cost (NoOperator step) =
    Some (step_words step (codes "no operator of that number"))
number_fault_words cost fault = fault_words cost fault

-- the answer about operators with this cost and this fault; there is none for refused memory
abbrev pub invalid_by_numbers : ℕ → PlanFault → Option Output
invalid_by_numbers cost fault =
    option_map (λ words. record { text = invalid_line words; status = No })
    (number_fault_words cost fault)

-- the answer about operators from the state s: that they are valid at this cost, or their fault
abbrev pub AnswerFrom : Parts → List ℕ → List ℕ → ℕ → Output → Type 0
AnswerFrom p s operators cost output =
    (IsValidFrom p s operators cost × (output ≡ valid_by (length operators) cost))
    ⊎ ((fault : PlanFault) × IsFaultFrom p s operators cost fault
    × (invalid_by_numbers cost fault ≡ Some output))

-- from the initial state
abbrev pub NumbersAnswer : Parts → List ℕ → ℕ → Output → Type 0
NumbersAnswer p = AnswerFrom p p.init

-- ---- from a start that is given

-- the words for why it isn't a state
abbrev pub start_words : StartFault → List ℕ
start_words (Count values variables) =
    decimal values ++ codes " values, not " ++ decimal variables
start_words (Value var) = codes "variable " ++ decimal var

-- the refusal of such a start
abbrev pub start_refusal : StartFault → Output
start_refusal fault = record {
  text = codes "state refused: " ++ start_words fault ++ codes "\n";
  status = No;
}

-- the answer about operators from the start that is given, or its refusal
abbrev pub RunAnswer : Parts → List ℕ → List ℕ → ℕ → Output → Type 0
RunAnswer p start operators cost output =
    (IsStart p start × AnswerFrom p (start_of p start) operators cost output)
    ⊎ ((fault : StartFault) × IsStartFault p start fault × (output ≡ start_refusal fault))
