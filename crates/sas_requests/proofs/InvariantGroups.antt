-- A group that is reported as exclusive is an invariant of a task that the bytes are a text of.
use Rattle.std.proofs.lemmas.Grind.{common_steps}
use Rattle.sas_requests.proofs.Imports.{◌≡◌, ℕ, suc, ◌+◌, ◌<◌, ◌^◌, List, [], ◌∷◌, ◌++◌, length, get_or, drop, codes, append_assoc, append-nil, ◌⊎◌, refl, sym, ap, subst, ◌∙◌, arith, Option, Some, None, Result, Ok, Err, inl, inr, Contains, Appends, AllByRecursion, append_cancel_left, Parts, first_fault, WellRanged, LayerFault, IsLayered, layer_checks, checks_are_rules, contains_cases, contains_none, lines, Plain, lines-text, same_first, NoSpace-decimal, own_decimal, Fault, most_bytes, Reads, ReadsAs, task_texts, task_format, Verdict, Exclusive, AreJointVerdicts, listed_invariants, HasInvariant, Invariants, verdict_words, group_line, verdict_lines, verdict_lines_from, layer_words, layers_line, layers_refusal, GroupsAnswer, LayeredGroupsAnswer, MutexAnswer, Output, word_of, refusal, refusal_line, IsAnswerOrRefusal, FileOut, worded}
use Rattle.sas_requests.proofs.Headlines.{sent_same}
use Rattle.sas_requests.proofs.PlainLines.{file_words, file_plain, kind_plain}
use Rattle.std.specs.Fmt.{decimal}
use Rattle.sas_requests.proofs.PlainAnswers.{IsReported, lines_of_first, layer_reported, group_reported}
use Rattle.sas_requests.proofs.PlainAnswers.{plain_reported as line_plain}

-- ---- which line says that a group is exclusive

words_exclusive : (verdict : Verdict) → verdict_words verdict ≡ codes "exclusive" → verdict ≡ Exclusive
words_exclusive verdict e = grind (arith, common_steps)

same_line : (m n : ℕ) (verdict : Verdict) → m < 2 ^ 64 → group_line m verdict ≡ group_line n Exclusive → (m ≡ n) × (verdict ≡ Exclusive)
same_line m n verdict few e =
    let behind : decimal m ++ 32 ∷ verdict_words verdict ≡ decimal n ++ 32 ∷ codes "exclusive" =
    sym (append_assoc (decimal m) (32 ∷ []) (verdict_words verdict)) ∙ ap (drop 6) e ∙ append_assoc (decimal n) (32 ∷ []) (codes "exclusive") in
    let first = same_first (decimal m) (decimal n) (verdict_words verdict) (codes "exclusive") (NoSpace-decimal m) (NoSpace-decimal n) behind in
    let here : decimal n ++ 32 ∷ verdict_words verdict ≡ decimal n ++ 32 ∷ codes "exclusive" = ap (λ (x : List ℕ). x ++ 32 ∷ verdict_words verdict) (sym first.0) ∙ behind in
    (own_decimal m n few first.0, words_exclusive verdict (ap (drop 1) (append_cancel_left (decimal n) (32 ∷ verdict_words verdict) (32 ∷ codes "exclusive") here)))

-- if the line is one of those of the verdicts from place n on, the verdict of its group is that
pub record IsSaid (n place : ℕ) (verdicts : List Verdict) : Type 0 where
  pub behind : ℕ
  pub is : place ≡ n + behind
  pub below : behind < length verdicts
  pub exclusive : get_or verdicts behind Exclusive ≡ Exclusive

said_later : (n place : ℕ) (v : Verdict) (verdicts : List Verdict) → IsSaid (n + 1) place verdicts → IsSaid n place (v ∷ verdicts)
said_later n place v verdicts s = record { behind = suc s.behind; is = omega (arith, s.is); below = omega (arith, s.below); exclusive = s.exclusive }

-- ---- which groups a text calls exclusive

-- each line of the text that says that a group is exclusive is one of these verdicts
pub record ReportsVerdicts (p : Parts) (out : List ℕ) : Type 0 where
  pub verdicts : List Verdict
  pub are : AreJointVerdicts p verdicts
  pub said : (place : ℕ) → Contains (lines out) (group_line place Exclusive) → IsSaid 0 place verdicts

-- ---- a refusal has no such line

-- none of the text's lines says that a group is exclusive
abbrev pub SaysNone : List ℕ → Type 0
SaysNone out = (place : ℕ) → Contains (lines out) (group_line place Exclusive) → ⊥

first_apart : (words : List ℕ) (place : ℕ) → codes "task refused: " ++ words ≡ group_line place Exclusive → ⊥
first_apart words place e = (let same : get_or (group_line place Exclusive) 0 0 ≡ get_or (codes "task refused: " ++ words) 0 0 = ap (λ (t : List ℕ). get_or t 0 0) (sym e) in omega arith)

alone_says_none : (line : List ℕ) → IsReported line → ((place : ℕ) → line ≡ group_line place Exclusive → ⊥) → (out : List ℕ) → out ≡ line ++ 10 ∷ [] → SaysNone out
alone_says_none line reported apart out is place has =
    let one : lines out ≡ line ∷ [] = ap lines (is ∙ sym (append-nil (line ++ 10 ∷ []))) ∙ lines_of_first line [] reported tt in
    elim (contains_cases line [] (group_line place Exclusive) (subst (λ (ls : List (List ℕ)). Contains ls (group_line place Exclusive)) one has)) [
      | inl here ↦ apart place here
      | inr behind ↦ contains_none (group_line place Exclusive) behind
    ]

verdicts_said_from : (n place : ℕ) (verdicts : List Verdict) → n + length verdicts < 2 ^ 64 → Contains (verdict_lines_from n verdicts) (group_line place Exclusive) → IsSaid n place verdicts
verdicts_said_from n place [] few h = absurd (contains_none (group_line place Exclusive) h)
verdicts_said_from n place (v ∷ verdicts) few h = elim (contains_cases (group_line n v) (verdict_lines_from (n + 1) verdicts) (group_line place Exclusive) h) [
  | inl here ↦
      (let same = same_line n place v (omega arith) here in
      record { behind = 0; is = omega (arith, same.0); below = omega arith; exclusive = same.1 })
  | inr later ↦ said_later n place v verdicts (verdicts_said_from (n + 1) place verdicts (omega arith) later)
]

plain_lines : (n : ℕ) (verdicts : List Verdict) → AllByRecursion Plain (verdict_lines_from n verdicts)
plain_lines n [] = tt
plain_lines n (v ∷ verdicts) = (line_plain (group_line n v) (group_reported n v), plain_lines (n + 1) verdicts)

plain_verdicts : (p : Parts) (o : Output) → WellRanged p → GroupsAnswer p o → ReportsVerdicts p o.text
plain_verdicts p o ranged (verdicts, joint, e) =
    let few = ranged.groups.count in
    let one_each = joint.one_each in
    let are_lines : lines o.text ≡ verdict_lines verdicts = ap (λ (x : Output). lines x.text) e ∙ lines-text (verdict_lines verdicts) (plain_lines 0 verdicts) in
    record {
      verdicts = verdicts;
      are = joint;
      said = λ place has. verdicts_said_from 0 place verdicts (omega arith) (subst (λ (ls : List (List ℕ)). Contains ls (group_line place Exclusive)) are_lines has);
    }

-- the refusal of a file
file_says_none : (fault : Fault) (o : Output) → Some o ≡ refusal (codes "task") fault → SaysNone o.text
file_says_none fault o is =
    let w = worded (word_of fault.kind) (refusal_line (codes "task") fault.line) o (sym is) in
    let reported : IsReported (file_words (codes "task") fault.line w.said) = record {
      plain = file_plain (codes "task") fault.line w.said refl (kind_plain fault.kind w.said w.among);
      no_reason = refl;
    } in
    alone_says_none (file_words (codes "task") fault.line w.said) reported (first_apart (drop 14 (file_words (codes "task") fault.line w.said))) o.text w.text

-- the refusal of a task that isn't layered
layers_say_none : (fault : LayerFault) (o : Output) → layers_refusal fault ≡ Some o → SaysNone o.text
layers_say_none fault o is =
    let w = worded (layer_words fault) layers_line o is in
    alone_says_none (codes "task refused: " ++ w.said) (layer_reported fault w.said w.among) (first_apart w.said) o.text w.text

-- ---- answers about groups

-- an answer reports the verdicts on the groups of a layered task, or says of no group that it is exclusive
abbrev Reports : Parts → Output → Type 0
Reports p o = (IsLayered p × ReportsVerdicts p o.text) ⊎ SaysNone o.text

groups_by : (p : Parts) (first : Option LayerFault) (o : Output) → WellRanged p → (first ≡ None → IsLayered p) → LayeredGroupsAnswer p first o → Reports p o
groups_by p (Some fault) o ranged layered refused = inr (layers_say_none fault o refused)
groups_by p None o ranged layered answer = inl (layered refl, plain_verdicts p o ranged answer)

-- ---- what was printed of the bytes

module _ (b : List ℕ) (o : Output) (place : ℕ) (has : Contains (lines o.text) (group_line place Exclusive)) where
  groups_have : (p : Parts) → Reads task_texts b p → IsLayered p → ReportsVerdicts p o.text → HasInvariant b place
  groups_have p is layered reported =
      let one_each = reported.are.one_each in
      let said = reported.said place has in
      let same : place ≡ said.behind = omega (arith, said.is) in
      let exists : place < length p.groups = omega (arith, same, said.below) in
      record {
        task = p;
        is_task = is;
        layered = layered;
        exists = exists;
        invariant = listed_invariants p reported.verdicts reported.are place exists (ap (λ (k : ℕ). get_or reported.verdicts k Exclusive) same ∙ said.exclusive);
      }

  answer_has : (p : Parts) → Reads task_texts b p → Reports p o → HasInvariant b place
  answer_has p is reported = elim reported [
    | inl groups ↦ groups_have p is groups.0 groups.1
    | inr none ↦ absurd (none place has)
  ]

  read_have : (r : Result Parts Fault) → ReadsAs task_format most_bytes b r → IsAnswerOrRefusal (codes "task") MutexAnswer r (Some o) → HasInvariant b place
  read_have (Ok p) reads (answer, reported, is) =
      let same : answer ≡ o = cc in
      answer_has p reads.0 (groups_by p (first_fault (layer_checks p)) o reads.0.good (checks_are_rules p).0 (subst (λ (x : Output). MutexAnswer p x) same reported))
  read_have (Err fault) reads is = absurd (file_says_none fault o is place has)

pub invariants_of : (b : List ℕ) (o : Output) → FileOut task_format (codes "task") MutexAnswer b (Some o)
    → (old new : Option (List ℕ)) (before : List ℕ) → old ≡ Some before → Appends old new o.text → Invariants b (Appends old new)
invariants_of b o out old new before known sent = record {
  line = λ place printed sent_too has.
      read_have b o place (subst (λ (t : List ℕ). Contains (lines t) (group_line place Exclusive)) (sent_same old new before printed o.text known sent_too sent) has) out.0 out.1 out.2;
}
