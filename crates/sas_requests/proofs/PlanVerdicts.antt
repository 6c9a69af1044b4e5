-- The verdict on one plan, by what was read of it.
use Rattle.sas_requests.proofs.Imports.{arith, ◌≡◌, ℕ, Bool, true, false, List, codes, refl, sym, ap, ◌∙◌, Option, Some, None, Result, Ok, Err, IfOk, IfErr, IsErrOf, Parts, PlanParts, Device, Fault, ValueOf, ReadsAll, ReadsPlan, ReadsAs, most_bytes, known_answer, plan_format, PlanRefusal, ArePlanReasons, FileLine, file_text, Status, No, ToolFault, Output, output_of, IsWrite, VerdictWith, refusal, refusal_by, refusal_line, plan_refusal_lines, word_of, PlanAnswer, PlanSaid, HasCost, HoldsOf, WasRead, IsJudged, cost_if, judged_of, Judges, worded}
use Rattle.sas_requests.proofs.FileEnds.{value_by, plan_refused_as, plan_too_long}
use Rattle.sas_requests.proofs.RefusalReasons.{some_of}
use Rattle.sas_reader.specs.declared.fault.Kind.TheVariants as kinds
use Rattle.sas_answers.specs.declared.ending.ToolFault.TheVariants as tool_fault

-- ---- a plan that was read

cost_of : (c : List ℕ) (plan : PlanParts) (s : Status) (cost : Option ℕ) → ReadsAs plan_format most_bytes c (Ok plan) → cost ≡ cost_if s plan.cost → HasCost c s cost
cost_of c plan h1 cost reads e = grind arith

read_verdict : (reasons : Bool) (p : Parts) (c : List ℕ) (plan : PlanParts) (v : PlanAnswer) → ReadsAs plan_format most_bytes c (Ok plan) → VerdictWith false reasons p plan (output_of v.answer) → v.cost ≡ cost_if v.answer.status plan.cost → IsJudged reasons p c (judged_of v)
read_verdict reasons p c plan v reads answer cost = (value_by plan_format ArePlanReasons (codes "plan") reasons (VerdictWith false reasons p) c plan (output_of v.answer) reads answer, cost_of c plan v.answer.status v.cost reads cost)

-- ---- a plan file that is refused

no_cost : (c : List ℕ) (s : Status) (cost : Option ℕ) → s ≡ No → cost ≡ None → HasCost c s cost
no_cost c h1 cost e none = grind arith

-- its refusal says no
refusal_no : (reasons : Bool) (f : Fault) (lines : List FileLine) (o : Output) → Some o ≡ refusal_by reasons (codes "plan") f lines → o.status ≡ No
refusal_no false f lines o is = (worded (word_of f.kind) (refusal_line (codes "plan") f.line) o (sym is)).status
refusal_no true f lines o is =
    let (plain, refused, same) = some_of (file_text lines) (refusal (codes "plan") f) o is in
    ap (λ (x : Output). x.status) same ∙ (worded (word_of f.kind) (refusal_line (codes "plan") f.line) plain refused).status

-- ---- as it is read from a device

holds_more : (known : Option (List ℕ)) (A B : List ℕ → Type 0) → ((c : List ℕ) → A c → B c) → HoldsOf known A → HoldsOf known B
holds_more known A B to h = (λ c is. to c (h.0 c is), (h.1.0, h.1.1, to h.1.0 h.1.2))

-- what holds of the bytes of an input holds of those of its plan, where these are known
was_read : (known now : Option (List ℕ)) (c : List ℕ) → ((whole : List ℕ) → known ≡ Some whole → now ≡ Some whole) → WasRead now c → WasRead known c
was_read h1 now c same was = grind arith

pub holds_known : (known now input : Option (List ℕ)) (Holds : List ℕ → Type 0) → HoldsOf now Holds → ((whole : List ℕ) → known ≡ Some whole → input ≡ Some whole) → now ≡ input → HoldsOf known Holds
holds_known known now input h1 h same e = grind (arith, was_read)

module _ {D : Type 0} (left : D → Option (List ℕ)) (reasons : Bool) (p : Parts) (old new : Device D) where
  pub judges_read : (plan : PlanParts) (v : PlanAnswer) → ReadsAll left plan_format (ValueOf plan_format) old new (Ok plan) → VerdictWith false reasons p plan (output_of v.answer) → v.cost ≡ cost_if v.answer.status plan.cost → Judges reasons p (left old.device) (Ok v)
  judges_read plan v h answer cost = (
    λ c known. read_verdict reasons p c plan v (known_answer left plan_format (ValueOf plan_format) old new plan c h known) answer cost,
    (let got = h.read in (got.0, (left new.device, got.1.0), read_verdict reasons p got.0 plan v got.2 answer cost)),
  )

  -- the refusal is reported, or the run ends at it
  pub judges_refused : (f : PlanRefusal) (r : Result PlanAnswer ToolFault) → ReadsPlan left (ValueOf plan_format) old new (Err f)
      → IfOk r (λ v. (refusal_by reasons (codes "plan") f.fault (plan_refusal_lines f) ≡ Some (output_of v.answer)) × (v.cost ≡ None)) → (IsErrOf r tool_fault.TooLong → (f.fault).kind ≡ kinds.TooLong) → IfErr r (λ e. IsWrite e → ⊥)
      → Judges reasons p (left old.device) r
  judges_refused f (Ok v) h ok long writes =
      let Said = PlanSaid reasons p in
      let no = refusal_no reasons f.fault (plan_refusal_lines f) (output_of v.answer) (sym ok.0) in
      holds_more (left old.device) (λ c. Said c (Some (output_of v.answer))) (λ c. IsJudged reasons p c (judged_of v)) (λ c said. (said, no_cost c v.answer.status v.cost no ok.1))
      (plan_refused_as left (ValueOf plan_format) reasons old new (VerdictWith false reasons p) f h (output_of v.answer) (sym ok.0))
  judges_refused f (Err tool_fault.TooLong) h ok long writes = plan_too_long left (ValueOf plan_format) reasons old new (VerdictWith false reasons p) f h (long refl)
  judges_refused f (Err tool_fault.Memory) h ok long writes = tt
  judges_refused f (Err tool_fault.Read) h ok long writes = tt
  judges_refused f (Err (tool_fault.Write n)) h ok long writes = absurd (writes tt)
