-- What was read, layered and checked is the same task.
use Rattle.std.proofs.Common.{◌≡◌, ℕ, List, Bor, Option, Some, Result, Ok, Err, IfOk, ap, sym, subst, ◌∙◌}
use Rattle.std.specs.Result.{result_ok}
use Rattle.sas_core.specs.declared.parts.Parts.{Parts}
use Rattle.sas_lines.specs.Device.{Device}
use Rattle.sas_meaning.specs.Layers.{IsLayered}
use Rattle.sas_plan_file.specs.PlanFormat.{plan_format}
use Rattle.sas_reader.proofs.Known.{known_answer}
use Rattle.sas_reader.specs.declared.fault.Fault.{Fault}
use Rattle.sas_reader.specs.Devices.{ReadsAll, ValueOf}
use Rattle.sas_reader.specs.Format.{Format}
use Rattle.sas_reader.specs.Texts.{Reads}
use Rattle.sas_run.specs.Plans.{IsValid}
use Rattle.sas_run.specs.Running.{IsSolution}
use Rattle.sas_task_file.specs.TaskFormat.{task_format}
use Rattle.test_verdicts.proofs.caller.cost_if_valid.Goals as goal

-- what holds of each value of a result holds of its value
given : {A E : Type 0} (P : A → Type 0) (r : Result A E) (a : A) → IfOk r P → Some a ≡ result_ok r → P a
given P (Ok b) a h is = let same : b ≡ a = cc in subst P same h
given P (Err e) a h is = absurd cc

abbrev left : Bor (List ℕ) → Option (List ℕ)
left bytes = Some bytes.now

-- bytes in memory are a text of what was read of them
text_of : {V I S : Type 0} (F : Format V I S) (old new : Device (Bor (List ℕ))) (r : Result V Fault) (v : V) (bytes : Bor (List ℕ)) → ReadsAll left F (ValueOf F) old new r → old.device ≡ bytes → Some v ≡ result_ok r → Reads F.texts bytes.now v
text_of F old new (Ok w) v bytes h from is =
    let same : w ≡ v = cc in
    subst (Reads F.texts bytes.now) same (known_answer left F (ValueOf F) old new w bytes.now h (ap left from)).0
text_of F old new (Err f) v bytes h from is = absurd cc

pub returns : goal.returns
returns c =
    let t = c.in_ok-task.task in
    let p = c.in_ok-plan.plan in
    let layered = c.in_ok-layered.layered in
    let runner = c.in_ok-runner.runner in
    let of_task : layered ≡ t = given (λ l. l ≡ t) c.new-3.result layered c.new-3.ensures.task c.in_ok-layered.ensures.value in
    let of_layered : runner ≡ layered = given (λ r. r ≡ layered) c.new-4.result runner c.new-4.ensures.task c.in_ok-runner.ensures.value in
    let solution = given (IsSolution runner p) c.check_plan.result c.in_ok-valid.valid c.check_plan.ensures.valid c.in_ok-valid.ensures.value in (
      t,
      p,
      c.in_ok-valid.valid.operators.items,
      text_of task_format _ _ c.read_task.result t c.args.task c.read_task.ensures c.new.ensures.device c.in_ok-task.ensures.value,
      subst IsLayered of_task (given IsLayered c.new-3.result layered c.new-3.ensures.layered c.in_ok-layered.ensures.value),
      text_of plan_format _ _ c.read_plan.result p c.args.plan c.read_plan.ensures c.new-2.ensures.device c.in_ok-plan.ensures.value,
      subst (λ (x : Parts). IsValid x p c.in_ok-valid.valid.operators.items) (of_layered ∙ of_task) solution.valid,
      sym solution.cost,
    )
