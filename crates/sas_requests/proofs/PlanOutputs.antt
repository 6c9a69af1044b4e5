-- A request has exactly one output.
use Rattle.sas_requests.proofs.Imports.{arith, ◌≡◌, ◌≢◌, ℕ, ◌<◌, Bool, true, false, ◌⊎◌, List, ◌++◌, length, codes, append-nil, refl, sym, subst, ◌∙◌, inl, inr, Option, Some, None, Result, Ok, Err, ◌↔◌, ◌||◌, IsTrue, none-some, Parts, PlanParts, first_fault, WellRanged, LayerFault, IsLayered, layer_checks, checks_are_rules, Fault, most_bytes, ReadsAs, plan_format, task_format, task_laws_hold, refusal, ShowAnswer, PrintAnswer, TaskOut, UnlayeredAnswer, LayeredOut, VerdictOut, PlanOutBy, OutOf, plain_refusal, why_refusal, TaskBy, UnlayeredBy, IsLayeredText, IsLong, HasOneOutput, Request, Show, Print, Steps, Check, Plan, Mutex, layers_refusal, layers_verdict, Output, some_check_answer, OneAnswer, SomeAnswer}
use Rattle.sas_meaning.specs.declared.layered.LayerFault.TheVariants as layer_fault
use Rattle.sas_requests.proofs.Outputs.{one_file, long_file, task_worded, one_made, some_made, task_output, plan_output}

-- ---- lemmas for all answers about a plan

-- such a fault is one of the task
pub reported_fault : (fault : LayerFault) (o : Output) → layers_refusal fault ≡ Some o → fault ≢ layer_fault.Memory
reported_fault fault o reported is = none-some o (subst (λ (f : LayerFault). layers_refusal f ≡ Some o) is reported)

-- of two alternatives one is true if the other is false
pub first_alone : (a b : Bool) → b ≡ false → IsTrue (a || b) ↔ IsTrue a
first_alone true b e = (λ t. refl, λ t. refl)
first_alone false b e = (λ t. sym e ∙ t, λ t. e ∙ t)

pub second_alone : (a b : Bool) → (IsTrue a → ⊥) → IsTrue (a || b) ↔ IsTrue b
second_alone true b e = absurd (e refl)
second_alone false b e = (λ t. t, λ t. t)

-- there is exactly one answer about a plan of a layered task
abbrev pub OneVerdictAnswer : (Parts → PlanParts → Output → Type 0) → Type 0
OneVerdictAnswer Verdict = (p : Parts) → IsLayered p → OneAnswer (Verdict p)

abbrev pub SomeVerdictAnswer : (Parts → PlanParts → Output → Type 0) → Type 0
SomeVerdictAnswer Verdict = (p : Parts) → WellRanged p → IsLayered p → SomeAnswer (Verdict p)

-- the output begins with the refusal without reasons for this fault
pub record IsRefusal (fault : LayerFault) (o : Output) : Type 0 where
  pub plain : Output
  pub is : layers_refusal fault ≡ Some plain
  pub status : o.status ≡ plain.status
  pub behind : List ℕ
  pub text : o.text ≡ plain.text ++ behind

-- these refusals do so, and there is one for each fault that is refused without reasons
pub record Refuses (refused : Parts → LayerFault → Option Output) : Type 0 where
  pub some : (p : Parts) (fault : LayerFault) (plain : Output) → layers_refusal fault ≡ Some plain → (o : Output) × (refused p fault ≡ Some o)
  pub reported : (p : Parts) (fault : LayerFault) (o : Output) → refused p fault ≡ Some o → IsRefusal fault o

pub plain_refuses : Refuses plain_refusal
plain_refuses = grind (arith, append-nil)

-- ---- the output about a task for which something is judged

-- a layered task isn't refused
pub not_refused : (refused : Parts → LayerFault → Option Output) (b : List ℕ) (o : Option Output) → TaskOut (UnlayeredAnswer refused) b o → IsLayeredText b → ⊥
not_refused refused b o (Err f, reads_f, is) (p, reads, layered) = absurd (let e : Err f ≡ Ok p = task_laws_hold.one_reading most_bytes b (Err f) (Ok p) reads_f reads in cc)
not_refused refused b o (Ok q, reads_q, (out, (fault, is, reported), same)) (p, reads, layered) =
    let e : Ok p ≡ Ok q = task_laws_hold.one_reading most_bytes b (Ok p) (Ok q) reads reads_q in
    let equal : p ≡ q = cc in
    let none : None ≡ Some fault = sym ((checks_are_rules q).1 (subst IsLayered equal layered)) ∙ is in
    absurd cc

-- with reasons or without
pub not_refused_by : (reasons : Bool) (b : List ℕ) (o : Option Output) → TaskBy reasons (UnlayeredBy reasons) b o → IsLayeredText b → ⊥
not_refused_by true b o out layered = not_refused why_refusal b out.of_read out.is_out layered
not_refused_by false b o out layered = not_refused plain_refusal b o out layered

module _ (refused : Parts → LayerFault → Option Output) (refuses : Refuses refused) (IsOut : Parts → Option Output → Type 0) (Long : Type 0) (b : List ℕ) (each : (p : Parts) → WellRanged p → IsLayered p → HasOneOutput (IsOut p) Long) where
  one_unlayered : OneAnswer (UnlayeredAnswer refused)
  one_unlayered p o q h1 h2 = grind arith

  one_layered : (o q : Option Output) → LayeredOut refused IsOut b o → LayeredOut refused IsOut b q → o ≡ q
  one_layered o q (inl x) (inl y) = one_file task_format (codes "task") (UnlayeredAnswer refused) b task_laws_hold one_unlayered o q x y
  one_layered o q (inl x) (inr (p, reads, layered, is)) = absurd (not_refused refused b o x (p, reads, layered))
  one_layered o q (inr (p, reads, layered, is)) (inl y) = absurd (not_refused refused b q y (p, reads, layered))
  one_layered o q (inr (p, reads, layered, is)) (inr (other, reads_other, _, is_other)) =
      let same : Ok other ≡ Ok p = task_laws_hold.one_reading most_bytes b (Ok other) (Ok p) reads_other reads in
      let equal : other ≡ p = cc in
      (each p reads.0.good layered).one o q is (subst (λ (x : Parts). IsOut x q) equal is_other)

  some_checked : (p : Parts) → ReadsAs task_format most_bytes b (Ok p) → (first : Option LayerFault) → first_fault (layer_checks p) ≡ first → ((o : Option Output) → LayeredOut refused IsOut b o → ⊥) → ⊥
  some_checked p reads None is none =
      let layered = (checks_are_rules p).0 is in
      (each p reads.0.good layered).some (λ o out. none o (inr (p, reads, layered, out)))
  some_checked p reads (Some fault) is none = some_check_answer p (λ plain answer.
      let (o, reported) = refuses.some p fault plain (subst (λ (first : Option LayerFault). layers_verdict first ≡ Some plain) is answer) in
      none (Some o) (inl (Ok p, reads, (o, (fault, is, reported), refl))))

  some_read : (r : Result Parts Fault) → ReadsAs task_format most_bytes b r → ((o : Option Output) → LayeredOut refused IsOut b o → ⊥) → ⊥
  some_read (Err fault) reads none = none (refusal (codes "task") fault) (inl (Err fault, reads, refl))
  some_read (Ok p) reads none = some_checked p reads (first_fault (layer_checks p)) refl none

  long_layered : LayeredOut refused IsOut b None → (most_bytes < length b) ⊎ (IsLayeredText b × Long)
  long_layered (inl x) = inl (long_file task_format (codes "task") (UnlayeredAnswer refused) b task_worded x)
  long_layered (inr (p, reads, layered, is)) = inr ((p, reads, layered), (each p reads.0.good layered).long is)

  -- it has one output if what is judged for a layered task has one
  pub layered_output : HasOneOutput (LayeredOut refused IsOut b) ((most_bytes < length b) ⊎ (IsLayeredText b × Long))
  layered_output = record {
    one = one_layered;
    some = λ none. task_laws_hold.some_reading most_bytes b (λ r reads. some_read r reads none);
    long = long_layered;
  }

-- ---- the outputs of requests

module _ (Verdict : Parts → PlanParts → Output → Type 0) (one : OneVerdictAnswer Verdict) (some : SomeVerdictAnswer Verdict) where
  pub verdict_output : (p : Parts) (c : List ℕ) → WellRanged p → IsLayered p → HasOneOutput (VerdictOut Verdict p c) (most_bytes < length c)
  verdict_output p c ranged layered = plan_output c (Verdict p) (one p layered) (some p ranged layered)

  pub judged_output : (refused : Parts → LayerFault → Option Output) → Refuses refused → (b c : List ℕ) → HasOneOutput (PlanOutBy Verdict refused b c) (IsLong Plan b c)
  judged_output refused refuses b c = layered_output refused refuses (λ p. VerdictOut Verdict p c) (most_bytes < length c) b (λ p. verdict_output p c)

  module _ (OfLayers OfGroups : Parts → Output → Type 0) (one_of_layers : OneAnswer OfLayers) (some_of_layers : SomeAnswer OfLayers) (one_of_groups : OneAnswer OfGroups) (some_of_groups : SomeAnswer OfGroups)
      (refused : Parts → LayerFault → Option Output) (refuses : Refuses refused) where
    -- each request has one output if each task and each plan has one answer
    pub output_for : (request : Request) (b c : List ℕ) → HasOneOutput (OutOf OfLayers OfGroups Verdict refused request b c) (IsLong request b c)
    output_for Show b c = task_output b ShowAnswer (one_made _) (some_made _)
    output_for Print b c = task_output b (PrintAnswer task_format) (one_made _) (some_made _)
    output_for Steps b c = plan_output c (PrintAnswer plan_format) (one_made _) (some_made _)
    output_for Check b c = task_output b OfLayers one_of_layers some_of_layers
    output_for Plan b c = judged_output refused refuses b c
    output_for Mutex b c = task_output b OfGroups one_of_groups some_of_groups
