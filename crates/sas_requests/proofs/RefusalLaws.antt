-- Why a file is refused: one list of reasons, and always some.
use Rattle.std.proofs.Common.{arith}
use Rattle.std.proofs.lemmas.Grind.{common_steps}
use Rattle.sas_requests.proofs.Imports.{◌≡◌, ◌≢◌, ◌↔◌, ℕ, Bool, true, false, IsTrue, false≢true, List, [], ◌∷◌, refl, sym, subst, ◌∙◌, inl, inr, Result, Ok, Err, lines, unfinished, Fault, Kind, Format, FaultOf, KindAt, too_long, trailing, wrong, ReadsAs, Laws, most_bytes, IsAbout, of_line, of_byte, of_end, AboutLaws, about_laws_of, plan_format, PlanLineFits, plan_node, plan_start, plan_grammar, FaultReasons, reported, past_limit, ReadReasons, FileReasons, AreTaskReasons, ArePlanReasons, TaskFileReasons, PlanFileReasons, RefusalReasons, plan_laws_hold, table_node, task_format, TaskLineFits, table_start, one_task_reason, some_task_reason, one_count, some_count, IsBegun, LacksLineEnd, LacksCostLine, EndsUnended, EndsWithoutCost, ends_unended, ends_without_cost, PlanKind, TaskSlot, NumbersKind, task_grammar, task_laws_hold, FileLine, Request, Steps, Plan, IsLayeredText}
use Rattle.sas_requests.proofs.Outputs.{Worded, plan_worded, task_worded}
use Rattle.sas_reader.specs.declared.fault.Kind.TheVariants as kinds

pub task_reporting : AboutLaws task_format
task_reporting = about_laws_of task_format TaskLineFits table_node table_start task_grammar

pub plan_reporting : AboutLaws plan_format
plan_reporting = about_laws_of plan_format PlanLineFits plan_node plan_start plan_grammar

-- ---- bytes that lack only a line end, or only a cost line

abbrev pub Unended : {V I S : Type 0} → Format V I S → Type 0
Unended F = (bytes : List ℕ) (f : Fault) (begun : List (List ℕ)) (found : List ℕ) → f.kind ≢ kinds.TooLong → IsAbout F most_bytes bytes f begun found → LacksLineEnd F bytes ↔ EndsUnended F f.kind begun found

no_end_of_plan : (line : List ℕ) (k : Kind) → PlanKind line k → k ≢ kinds.End
no_end_of_plan line k h e = grind (arith, common_steps)

pub plan_without_cost : (bytes : List ℕ) (f : Fault) (begun : List (List ℕ)) (found : List ℕ) → f.kind ≢ kinds.TooLong → IsAbout plan_format most_bytes bytes f begun found → LacksCostLine bytes ↔ EndsWithoutCost f.kind begun found
plan_without_cost bytes f begun found short = ends_without_cost plan_laws_hold.fault_is_no_text most_bytes bytes f short begun found

pub plan_unended : Unended plan_format
plan_unended = ends_unended plan_format plan_laws_hold.fault_is_no_text (λ s line k h. no_end_of_plan line k h) most_bytes

no_end_of_numbers : (s : TaskSlot) (line : List ℕ) (k : Kind) → NumbersKind s line k → k ≢ kinds.End
no_end_of_numbers s line k h e = grind (arith, common_steps)

no_end_of_task : (s : TaskSlot) (line : List ℕ) (k : Kind) → task_format.KindOf s line k → k ≢ kinds.End
no_end_of_task s line k h e = grind (arith, common_steps, no_end_of_numbers)

pub task_unended : Unended task_format
task_unended = ends_unended task_format task_laws_hold.fault_is_no_text no_end_of_task most_bytes

-- ---- one file

-- exactly one list of reasons has this property
pub record HasOneList (AreReasons : List FileLine → Type 0) : Type 0 where
  pub one : (r s : List FileLine) → AreReasons r → AreReasons s → r ≡ s
  pub some : ((r : List FileLine) → AreReasons r → ⊥) → ⊥

-- a truth is told in one way, and can be told
one_truth : (P : Type 0) (a b : Bool) → IsTrue a ↔ P → IsTrue b ↔ P → a ≡ b
one_truth P true b f g = sym (g.1 (f.0 refl))
one_truth P false true f g = f.1 (g.0 refl)
one_truth P false false f g = refl

told : (P : Type 0) → ((b : Bool) → (IsTrue b ↔ P) → ⊥) → ⊥
told P none = none false ((λ t. absurd (false≢true t)), λ p. absurd (none true ((λ t. p), λ q. refl)))

-- what a fault is about is reported in one way, and can be reported
module _ {V I S : Type 0} (F : Format V I S) (Reports : List ℕ → Fault → List (List ℕ) → List ℕ → List FileLine → Type 0) (laws : Laws F) (reporting : AboutLaws F) (worded : Worded F) (bytes : List ℕ)
    (one : (f : Fault) (begun : List (List ℕ)) (found : List ℕ) (r s : List FileLine) → Reports bytes f begun found r → Reports bytes f begun found s → r ≡ s)
    (some : (f : Fault) (begun : List (List ℕ)) (found : List ℕ) → IsAbout F most_bytes bytes f begun found → ((r : List FileLine) → Reports bytes f begun found r → ⊥) → ⊥) where
  -- what a fault is about has a word
  about_short : (f : Fault) (begun : List (List ℕ)) (found : List ℕ) → IsAbout F most_bytes bytes f begun found → f.kind ≢ kinds.TooLong
  about_short f begun found h1 e = grind (arith, of_line, of_byte, of_end)

  one_fault : (f : Fault) (r s : List FileLine) → FaultReasons F Reports bytes f r → FaultReasons F Reports bytes f s → r ≡ s
  one_fault f r s (reported a t h x) (reported b u j y) =
      let same = reporting.one_about most_bytes bytes f a b t u h j in
      one f b u r s (subst (λ (k : List (List ℕ)). Reports bytes f k u r) same.0 (subst (λ (w : List ℕ). Reports bytes f a w r) same.1 x)) y
  one_fault f r s (reported a t h x) (past_limit k e) = absurd (about_short f a t h k)
  one_fault f r s (past_limit k e) (reported b u j y) = absurd (about_short f b u j k)
  one_fault f r s (past_limit k e) (past_limit l d) = e ∙ sym d

  one_read : (read : Result V Fault) (r s : List FileLine) → ReadReasons F Reports bytes read r → ReadReasons F Reports bytes read s → r ≡ s
  one_read (Ok v) r s x y = x ∙ sym y
  one_read (Err f) r s x y = one_fault f r s x y

  about_reasons : (f : Fault) (a : List (List ℕ)) (t : List ℕ) → IsAbout F most_bytes bytes f a t → ((r : List FileLine) → FaultReasons F Reports bytes f r → ⊥) → ⊥
  about_reasons f a t h none = some f a t h (λ r x. none r (reported a t h x))

  some_at : (f : Fault) (h : FaultOf F most_bytes bytes f) → KindAt F most_bytes h.before h.byte f.kind → ((r : List FileLine) → FaultReasons F Reports bytes f r → ⊥) → ⊥
  some_at f h (too_long long k) none = none [] (past_limit k refl)
  some_at f h (trailing short v reads k) none = about_reasons f (lines h.before) (h.byte ∷ []) (of_byte h refl refl v reads k) none
  some_at f h (wrong short line is s next k) none = about_reasons f (lines h.before) line (of_line h refl is s next k) none

  some_read : (read : Result V Fault) → ReadsAs F most_bytes bytes read → ((r : List FileLine) → ReadReasons F Reports bytes read r → ⊥) → ⊥
  some_read (Ok v) reads none = none [] refl
  some_read (Err f) (inl h) none = some_at f h h.kind none
  some_read (Err f) (inr h) none = about_reasons f (lines bytes) (unfinished bytes) (of_end h refl refl) none

  file_list : HasOneList (FileReasons F Reports bytes)
  file_list = record {
    one = λ r s (read, reads, x) (other, other_reads, y).
        one_read read r s x (subst (λ (q : Result V Fault). ReadReasons F Reports bytes q s) (laws.one_reading most_bytes bytes other read other_reads reads) y);
    some = λ none. laws.some_reading most_bytes bytes (λ read reads. some_read read reads (λ r why. none r (read, reads, why)));
  }

-- ---- what is reported of a task, and of a plan

one_task_reporting : (bytes : List ℕ) (f : Fault) (begun : List (List ℕ)) (found : List ℕ) (r s : List FileLine) → AreTaskReasons bytes f begun found r → AreTaskReasons bytes f begun found s → r ≡ s
one_task_reporting bytes f begun found r s x y =
    let same = one_task_reason f.kind begun found x.mark y.mark x.word y.word x.reason y.reason in
    let count = one_count begun x.count y.count x.counted y.counted in
    let lacks = one_truth (LacksLineEnd task_format bytes) x.line_end y.line_end x.lacks y.lacks in
    rw (x.lines, y.lines, same.0, same.1, count, lacks) refl

one_plan_reporting : (bytes : List ℕ) (f : Fault) (begun : List (List ℕ)) (found : List ℕ) (r s : List FileLine) → ArePlanReasons bytes f begun found r → ArePlanReasons bytes f begun found s → r ≡ s
one_plan_reporting bytes f begun found r s x y =
    let line_end = one_truth (LacksLineEnd plan_format bytes) x.line_end y.line_end x.lacks_line_end y.lacks_line_end in
    let cost_line = one_truth (LacksCostLine bytes) x.cost_line y.cost_line x.lacks_cost_line y.lacks_cost_line in
    rw (x.lines, y.lines, line_end, cost_line) refl

begun_at : (bytes : List ℕ) (f : Fault) (begun : List (List ℕ)) (found : List ℕ) → IsAbout task_format most_bytes bytes f begun found → IsBegun task_format begun
begun_at bytes f begun found h = grind (arith, common_steps)

some_task_reporting : (bytes : List ℕ) (f : Fault) (begun : List (List ℕ)) (found : List ℕ) → IsAbout task_format most_bytes bytes f begun found → ((r : List FileLine) → AreTaskReasons bytes f begun found r → ⊥) → ⊥
some_task_reporting bytes f begun found h none =
    let (m, w, reason) = some_task_reason bytes f begun found h in
    let (c, counted) = some_count begun (begun_at bytes f begun found h) in
    told (LacksLineEnd task_format bytes) (λ lacks tells. none _ (record { mark = m; word = w; count = c; line_end = lacks; reason = reason; counted = counted; lacks = tells; lines = refl }))

some_plan_reporting : (bytes : List ℕ) (f : Fault) (begun : List (List ℕ)) (found : List ℕ) → ((r : List FileLine) → ArePlanReasons bytes f begun found r → ⊥) → ⊥
some_plan_reporting bytes f begun found none =
    told (LacksLineEnd plan_format bytes) (λ line_end ends. told (LacksCostLine bytes) (λ cost_line costs. none _ (record { line_end = line_end; cost_line = cost_line; lacks_line_end = ends; lacks_cost_line = costs; lines = refl })))

-- ---- the files of a request

of_task : (b : List ℕ) → HasOneList (TaskFileReasons b)
of_task b = file_list task_format AreTaskReasons task_laws_hold task_reporting task_worded b (one_task_reporting b) (some_task_reporting b)

of_plan : (c : List ℕ) → HasOneList (PlanFileReasons c)
of_plan c = file_list plan_format ArePlanReasons plan_laws_hold plan_reporting plan_worded c (one_plan_reporting c) (λ f begun found about. some_plan_reporting c f begun found)

one_of_both : (b c : List ℕ) (r s : List FileLine) → RefusalReasons Plan b c r → RefusalReasons Plan b c s → r ≡ s
one_of_both b c r s (inl x) (inl y) = (of_plan c).one r s x.1 y.1
one_of_both b c r s (inl x) (inr y) = absurd (y.0 x.0)
one_of_both b c r s (inr x) (inl y) = absurd (x.0 y.0)
one_of_both b c r s (inr x) (inr y) = (of_task b).one r s x.1 y.1

some_of_both : (b c : List ℕ) → ((r : List FileLine) → RefusalReasons Plan b c r → ⊥) → ⊥
some_of_both b c none =
    let other : IsLayeredText b → ⊥ = λ layered. (of_plan c).some (λ r why. none r (inl (layered, why))) in
    (of_task b).some (λ r why. none r (inr (other, why)))

pub reasons_of : (request : Request) (b c : List ℕ) → HasOneList (RefusalReasons request b c)
reasons_of Steps b c = of_plan c
reasons_of Plan b c = record { one = one_of_both b c; some = some_of_both b c }
reasons_of _ b c = of_task b
