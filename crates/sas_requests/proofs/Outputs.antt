-- Outputs about one file.
use Rattle.std.proofs.lemmas.Grind.{common_steps}
use Rattle.sas_requests.proofs.Imports.{◌≡◌, ◌≢◌, ℕ, ◌+◌, ◌<◌, List, codes, length, length-append, arith, refl, sym, ◌∙◌, Option, Some, None, Result, Ok, Err, option_map, none-some, Parts, PlanParts, Fault, Kind, TooLong, Read, Memory, most_bytes, Format, FaultOf, KindAt, ReadsAs, Laws, plan_format, PlanKind, word_of, refusal, IsAnswerOrRefusal, FileOut, TaskOut, HasOneOutput, task_format, TaskSlot, NumbersKind, plan_laws_hold, task_laws_hold, Refuses, Output, OneAnswer, SomeAnswer}

-- outputs are equal if their texts and statuses are
pub same_output : (o q : Output) → o.text ≡ q.text → o.status ≡ q.status → o ≡ q
same_output o q text status = grind arith

-- no output is made only of nothing
pub none_made : {A : Type 0} (make : A → Output) (found : Option A) → None ≡ option_map make found → found ≡ None
none_made make h1 e = grind (arith, none-some)

-- a kind that is refused has a word
pub refused_kind : (k : Kind) (other : Kind) (said : List ℕ → Output) (o : Output) → word_of other ≡ None → option_map said (word_of k) ≡ Some o → k ≢ other
refused_kind k other said o none e same = grind (arith, none-some, option_map, word_of)

pub too_long_else : (k : Kind) (other : Kind) → k ≡ TooLong → (TooLong ≡ other → ⊥) → k ≢ other
too_long_else k other e apart same = apart (sym e ∙ same)

-- the fault of bytes that were read from a device
pub reading_of_refusal : {V I S : Type 0} (F : Format V I S) (bytes : List ℕ) (At_end : Type 0) (f : Fault) → Refuses F bytes At_end f → f.kind ≢ Read → ReadsAs F most_bytes bytes (Err f)
reading_of_refusal F bytes At_end f why other = grind (arith, common_steps)

-- the fault is that of the input, unless memory ran out or a read failed
abbrev pub IsFaultOf : {V I S : Type 0} → Format V I S → List ℕ → Fault → Type 0
IsFaultOf F input f = f.kind ≢ Memory → f.kind ≢ Read → ReadsAs F most_bytes input (Err f)

-- every kind of a wrong line has a word
abbrev pub Worded : {V I S : Type 0} → Format V I S → Type 0
Worded F = (s : _) (line : List ℕ) (k : Kind) → F.KindOf s line k → word_of k ≡ None → ⊥

plan_kind_worded : (line : List ℕ) (k : Kind) → PlanKind line k → word_of k ≡ None → ⊥
plan_kind_worded line k why none = grind (arith, common_steps, none-some)

pub plan_worded : Worded plan_format
plan_worded s line k = plan_kind_worded line k

numbers_worded : (s : TaskSlot) (line : List ℕ) (k : Kind) → NumbersKind s line k → word_of k ≡ None → ⊥
numbers_worded s line k h none = grind (arith, common_steps, none-some)

pub task_worded : Worded task_format
task_worded s line k h none = grind (arith, common_steps, none-some, numbers_worded)

module _ {V I S : Type 0} (F : Format V I S) (name : List ℕ) (IsAnswer : V → Output → Type 0) (bytes : List ℕ) where
  pub file_refused : (f : Fault) (o : Output) → refusal name f ≡ Some o → IsFaultOf F bytes f → FileOut F name IsAnswer bytes (Some o)
  file_refused f o e fault = (Err f, fault (refused_kind f.kind Memory _ o refl e) (refused_kind f.kind Read _ o refl e), sym e)

  pub file_too_long : (f : Fault) → f.kind ≡ TooLong → IsFaultOf F bytes f → FileOut F name IsAnswer bytes None
  file_too_long f e fault = (Err f, fault (too_long_else f.kind Memory e (λ h. absurd cc)) (too_long_else f.kind Read e (λ h. absurd cc)), rw e refl)

  one_reading : OneAnswer IsAnswer → (r : Result V Fault) (o p : Option Output) → IsAnswerOrRefusal name IsAnswer r o → IsAnswerOrRefusal name IsAnswer r p → o ≡ p
  one_reading one h1 o p a b = grind arith

  pub one_file : Laws F → OneAnswer IsAnswer → (o p : Option Output) → FileOut F name IsAnswer bytes o → FileOut F name IsAnswer bytes p → o ≡ p
  one_file laws one o p a b = grind (arith, one_reading, most_bytes)

  some_reading : SomeAnswer IsAnswer → (r : Result V Fault) → ((o : Option Output) → IsAnswerOrRefusal name IsAnswer r o → ⊥) → ⊥
  some_reading some (Ok value) none = some value (λ answer is. none (Some answer) (answer, is, refl))
  some_reading some (Err fault) none = none (refusal name fault) refl

  too_long_at : Worded F → (before : List ℕ) (byte : ℕ) (k : Kind) → KindAt F most_bytes before byte k → word_of k ≡ None → most_bytes < length before + 1
  too_long_at worded before byte k at none = grind (arith, common_steps, none-some, worded)

  too_long_fault : Worded F → (f : Fault) → FaultOf F most_bytes bytes f → word_of f.kind ≡ None → most_bytes < length bytes
  too_long_fault worded f fault none = grind (arith, too_long_at, length-append)

  long_reading : Worded F → (r : Result V Fault) → ReadsAs F most_bytes bytes r → IsAnswerOrRefusal name IsAnswer r None → most_bytes < length bytes
  long_reading worded r reads e = grind (arith, common_steps, none-some, too_long_fault, worded, none_made)

  pub long_file : Worded F → FileOut F name IsAnswer bytes None → most_bytes < length bytes
  long_file worded out = long_reading worded out.0 out.1 out.2

  -- the bytes of a file have one output if each value has one answer
  pub file_output : Laws F → Worded F → OneAnswer IsAnswer → SomeAnswer IsAnswer → HasOneOutput (FileOut F name IsAnswer bytes) (most_bytes < length bytes)
  file_output laws worded one some = record {
    one = one_file laws one;
    some = λ none. laws.some_reading most_bytes bytes (λ r reads. some_reading some r (λ o is. none o (r, reads, is)));
    long = long_file worded;
  }

-- an answer that is made of the value
pub one_made : {V : Type 0} (answer : V → Output) → OneAnswer (λ v o. o ≡ answer v)
one_made answer v o p a b = a ∙ sym b

pub some_made : {V : Type 0} (answer : V → Output) → SomeAnswer (λ v o. o ≡ answer v)
some_made answer v none = none (answer v) refl

module _ (b : List ℕ) where
  pub task_output : (IsAnswer : Parts → Output → Type 0) → OneAnswer IsAnswer → SomeAnswer IsAnswer → HasOneOutput (TaskOut IsAnswer b) (most_bytes < length b)
  task_output IsAnswer = file_output task_format (codes "task") IsAnswer b task_laws_hold task_worded

  pub plan_output : (IsAnswer : PlanParts → Output → Type 0) → OneAnswer IsAnswer → SomeAnswer IsAnswer → HasOneOutput (FileOut plan_format (codes "plan") IsAnswer b) (most_bytes < length b)
  plan_output IsAnswer = file_output plan_format (codes "plan") IsAnswer b plan_laws_hold plan_worded
