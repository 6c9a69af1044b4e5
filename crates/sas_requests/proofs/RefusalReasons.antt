-- Why a file is refused: one set of lines, and always some; and behind which refusal they stand.
use Rattle.sas_requests.proofs.Imports.{arith, ◌≡◌, ◌⊎◌, ℕ, Bool, List, [], codes, append-nil, ap, sym, subst, inl, inr, Option, Some, Result, Ok, Err, option_map, none-some, Parts, PlanParts, Fault, Format, Laws, most_bytes, plan_format, plan_laws_hold, task_format, task_laws_hold, FileLine, Output, with_reasons, why_refusal, WhyCheckAnswer, WhyMutexAnswer, VerdictWith, Request, Show, Print, ReadReasons, FileReasons, AreTaskReasons, ArePlanReasons, TaskFileReasons, PlanFileReasons, RefusalReasons, true, false, explained_by, ReasonedBy, OutOfRead, Steps, Check, Plan, Mutex, refusal, IsAnswerOrRefusal, FileOut, TaskOut, UnlayeredAnswer, ShowAnswer, PrintAnswer}
use Rattle.sas_requests.proofs.PlanOutputs.{not_refused}

-- ---- an output with reasons behind

pub no_reasons : (o : Output) → with_reasons [] o ≡ o
no_reasons o = ap (λ (t : List ℕ). let x : Output = record { text = t; status = o.status } in x) (append-nil o.text)

-- it is one that was there, with them
pub some_of : (reasons : List ℕ) (p : Option Output) (o : Output) → Some o ≡ option_map (with_reasons reasons) p → (plain : Output) × (p ≡ Some plain) × (o ≡ with_reasons reasons plain)
some_of reasons h1 o e = grind (arith, none-some, with_reasons)

-- an output with such reasons behind it, at each explains
pub reasoned_by : (explains : Bool) (IsOut : Option Output → Type 0) (AreReasons : List FileLine → Type 0) (q o : Option Output) (reasons : List FileLine) → IsOut q → AreReasons reasons → o ≡ explained_by explains reasons q → ReasonedBy explains IsOut AreReasons o
reasoned_by true IsOut AreReasons q o reasons out why is = record { of_read = q; reasons = reasons; is_out = out; are_reasons = why; whole = is }
reasoned_by false IsOut AreReasons q o reasons out why is = subst IsOut (sym is) out

-- others that follow
pub more_reasoned : (explains : Bool) (A B : Option Output → Type 0) (R S : List FileLine → Type 0) → ((o : Option Output) → A o → B o) → ((o : Option Output) (reasons : List FileLine) → A o → R reasons → S reasons) → (o : Option Output) → ReasonedBy explains A R o → ReasonedBy explains B S o
more_reasoned true A B R S to behind o out = record {
  of_read = out.of_read;
  reasons = out.reasons;
  is_out = to out.of_read out.is_out;
  are_reasons = behind out.of_read out.reasons out.is_out out.are_reasons;
  whole = out.whole;
}
more_reasoned false A B R S to behind o out = to o out

-- no reasons change nothing
pub reported_alone : (explains : Bool) (o : Option Output) → o ≡ explained_by explains [] o
reported_alone h1 h2 = grind (arith, no_reasons)

-- ---- behind which refusal they stand

-- there are no reasons, or this refuses a file
abbrev pub IsFileRefusal : Option Output → Type 0
IsFileRefusal o = (fault : Fault) × ((o ≡ refusal (codes "task") fault) ⊎ (o ≡ refusal (codes "plan") fault))

abbrev pub StandBehind : List FileLine → Option Output → Type 0
StandBehind reasons o = (reasons ≡ []) ⊎ IsFileRefusal o

module _ {V I S : Type 0} (F : Format V I S) (Reports : List ℕ → Fault → List (List ℕ) → List ℕ → List FileLine → Type 0) (laws : Laws F) (name : List ℕ) (IsAnswer : V → Output → Type 0) (is_file : (fault : Fault) (o : Option Output) → o ≡ refusal name fault → IsFileRefusal o) where
  by_reading : (bytes : List ℕ) (r : Result V Fault) (o : Option Output) (reasons : List FileLine) → IsAnswerOrRefusal name IsAnswer r o → ReadReasons F Reports bytes r reasons → StandBehind reasons o
  by_reading bytes (Ok v) o reasons out why = inl why
  by_reading bytes (Err fault) o reasons out why = inr (is_file fault o out)

  file_behind : (bytes : List ℕ) (o : Option Output) (reasons : List FileLine) → FileOut F name IsAnswer bytes o → FileReasons F Reports bytes reasons → StandBehind reasons o
  file_behind bytes o reasons out why = grind (arith, most_bytes, by_reading)

of_task : (fault : Fault) (o : Option Output) → o ≡ refusal (codes "task") fault → IsFileRefusal o
of_task fault o is = (fault, inl is)

of_plan : (fault : Fault) (o : Option Output) → o ≡ refusal (codes "plan") fault → IsFileRefusal o
of_plan fault o is = (fault, inr is)

of_tasks : (IsAnswer : Parts → Output → Type 0) (b : List ℕ) (o : Option Output) (reasons : List FileLine) → TaskOut IsAnswer b o → TaskFileReasons b reasons → StandBehind reasons o
of_tasks IsAnswer = file_behind task_format AreTaskReasons task_laws_hold (codes "task") IsAnswer of_task

of_plans : (IsAnswer : PlanParts → Output → Type 0) (c : List ℕ) (o : Option Output) (reasons : List FileLine) → FileOut plan_format (codes "plan") IsAnswer c o → PlanFileReasons c reasons → StandBehind reasons o
of_plans IsAnswer = file_behind plan_format ArePlanReasons plan_laws_hold (codes "plan") IsAnswer of_plan

pub stand_behind : (trace : Bool) (request : Request) (b c : List ℕ) (o : Option Output) (reasons : List FileLine) → OutOfRead (record { reasons = true; trace = trace }) request b c o → RefusalReasons request b c reasons → StandBehind reasons o
stand_behind trace Show b c o reasons out why = of_tasks ShowAnswer b o reasons out why
stand_behind trace Print b c o reasons out why = of_tasks (PrintAnswer task_format) b o reasons out why
stand_behind trace Steps b c o reasons out why = of_plans (PrintAnswer plan_format) c o reasons out why
stand_behind trace Check b c o reasons out why = of_tasks WhyCheckAnswer b o reasons out why
stand_behind trace Plan b c o reasons (inl out) (inl why) = absurd (not_refused why_refusal b o out why.0)
stand_behind trace Plan b c o reasons (inl out) (inr why) = of_tasks (UnlayeredAnswer why_refusal) b o reasons out why.1
stand_behind trace Plan b c o reasons (inr (p, reads, layered, out)) (inl why) = of_plans (VerdictWith trace true p) c o reasons out why.1
stand_behind trace Plan b c o reasons (inr (p, reads, layered, out)) (inr why) = absurd (why.0 (p, reads, layered))
stand_behind trace Mutex b c o reasons out why = of_tasks WhyMutexAnswer b o reasons out why
