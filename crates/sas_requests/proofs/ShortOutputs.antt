-- Each output without reasons is shorter than 2 ^ 64 bytes.
use Rattle.std.proofs.lemmas.Grind.{common_steps}
use Rattle.sas_requests.proofs.Imports.{◌≡◌, ℕ, ◌+◌, ◌*◌, ◌^◌, ◌<◌, ◌≤◌, List, [], ◌∷◌, ◌++◌, length, codes, length-append, arith, refl, sym, subst, inl, inr, Option, Some, None, Result, decimal, option_map, none-some, Parts, PlanParts, first_fault, text, LayerFault, layer_checks, Verdict, PlanFault, Fault, Kind, ValueOf, Format, ReadsAs, most_bytes, plan_format, task_format, outline_of, Yes, No, Output, layers_refusal, layers_verdict, CheckAnswer, LayeredGroupsAnswer, MutexAnswer, valid_answer, VerdictAnswer, words_at_part, layer_words, layers_line, step_words, fault_words, verdict_words, group_line, verdict_lines_from, Show, Print, Steps, Check, Plan, Mutex, word_of, refusal, IsAnswerOrRefusal, ShowAnswer, PrintAnswer, FileOut, UnlayeredAnswer, plain_refusal, ShortOutput}
use Rattle.sas_requests.proofs.Lengths.{decimal_short, text_short}
use Rattle.sas_meaning.specs.declared.layered.LayerFault.TheVariants as layer_fault
use Rattle.sas_requests.proofs.SummaryLengths.{summary_fits}

-- ---- lines of words

-- these words, if there are any, are short
abbrev AreShort : Option (List ℕ) → Type 0
AreShort found = (words : List ℕ) → found ≡ Some words → length words ≤ 200

some_short : (words : List ℕ) → length words ≤ 200 → AreShort (Some words)
some_short words short other is = subst (λ (w : List ℕ). length w ≤ 200) (let same : words ≡ other = cc in same) short

none_short : AreShort None
none_short words is = absurd (none-some words is)

-- so is what is made of them
line_short : (line_of : List ℕ → Output) → ((words : List ℕ) → length (line_of words).text ≤ length words + 200) → (found : Option (List ℕ)) → AreShort found
    → (o : Output) → option_map line_of found ≡ Some o → length o.text < 2 ^ 64
line_short line_of longer h1 short o is = grind (arith, none-some)

-- ---- the refusal of a file

kind_short : (kind : Kind) → AreShort (word_of kind)
kind_short kind = grind (arith, common_steps, some_short, none_short)

refusal_short : (name : List ℕ) → length name ≤ 9 → (fault : Fault) (o : Output) → refusal name fault ≡ Some o → length o.text < 2 ^ 64
refusal_short name named fault = grind (arith, common_steps, line_short, decimal_short, kind_short)

-- ---- the refusal of a task

part_short : (part : List ℕ) (place : ℕ) (what : List ℕ) → length part + length what ≤ 100 → AreShort (Some (words_at_part part place what))
part_short part place what short = grind (arith, common_steps, some_short, decimal_short)

layer_words_short : (fault : LayerFault) → AreShort (layer_words fault)
layer_words_short (layer_fault.EffectOnDerived operator effect) = part_short (codes "operator") operator (codes "effect on derived variable") (omega arith)
layer_words_short (layer_fault.RuleOnBasic rule) = part_short (codes "rule") rule (codes "not on a derived variable") (omega arith)
layer_words_short (layer_fault.OldValue rule) = part_short (codes "rule") rule (codes "old value") (omega arith)
layer_words_short (layer_fault.TwoValues rule) = part_short (codes "rule") rule (codes "two values") (omega arith)
layer_words_short (layer_fault.LayerOrder rule condition) = part_short (codes "rule") rule (codes "layer order") (omega arith)
layer_words_short layer_fault.Memory = none_short

layers_short : (fault : LayerFault) (o : Output) → layers_refusal fault ≡ Some o → length o.text < 2 ^ 64
layers_short fault =
    line_short (λ words. record { text = layers_line words; status = No })
    (λ words. omega (arith, length-append (codes "task refused: " ++ words) (codes "\n"), length-append (codes "task refused: ") words)) (layer_words fault) (layer_words_short fault)

layered_short : (first : Option LayerFault) (o : Output) → layers_verdict first ≡ Some o → length o.text < 2 ^ 64
layered_short None o is = let same : (record { text = codes "task layered\n"; status = Yes }) ≡ o = cc in subst (λ (x : Output). length x.text < 2 ^ 64) same (omega arith)
layered_short (Some fault) o is = layers_short fault o is

-- ---- the verdict on a plan

step_short : (step : ℕ) (what : List ℕ) → length what ≤ 100 → AreShort (Some (step_words step what))
step_short step what short = grind (arith, common_steps, some_short, decimal_short)

fault_words_short : (cost : ℕ) (fault : PlanFault) → AreShort (fault_words cost fault)
fault_words_short cost fault = grind (arith, common_steps, step_short, none_short, some_short, decimal_short)

valid_short : (plan : PlanParts) → length (valid_answer plan).text < 2 ^ 64
valid_short plan = grind (arith, common_steps, decimal_short)

verdict_short : (p : Parts) (plan : PlanParts) (o : Output) → VerdictAnswer p plan o → length o.text < 2 ^ 64
verdict_short p plan o h1 = grind (arith, common_steps, length, text, valid_short, line_short, fault_words_short)

-- ---- mutex groups

words_short : (verdict : Verdict) → length (verdict_words verdict) ≤ 100
words_short h1 = grind (arith, length-append, codes, decimal, decimal_short)

groups_short : (place : ℕ) (verdicts : List Verdict) → length (text (verdict_lines_from place verdicts)) ≤ length verdicts * 200
groups_short place [] = omega arith
groups_short place (verdict ∷ verdicts) = omega (
  arith,
  groups_short (place + 1) verdicts,
  length-append (group_line place verdict ++ 10 ∷ []) (text (verdict_lines_from (place + 1) verdicts)),
  length-append (group_line place verdict) (10 ∷ []),
  length-append (codes "group " ++ decimal place ++ codes " ") (verdict_words verdict),
  length-append (codes "group " ++ decimal place) (codes " "),
  length-append (codes "group ") (decimal place),
  decimal_short place,
  words_short verdict,
)

mutex_short : (b : List ℕ) (p : Parts) → ValueOf task_format b p → (first : Option LayerFault) (o : Output) → LayeredGroupsAnswer p first o → length o.text < 2 ^ 64
mutex_short b p value (Some fault) o is = layers_short fault o is
mutex_short b p value None o (verdicts, joint, is) =
    subst (λ (x : Output). length x.text < 2 ^ 64) (sym is) (omega (arith, groups_short 0 verdicts, joint.one_each, value.0.good.groups.count))

-- ---- the output about one file

module _ {V I S : Type 0} (F : Format V I S) (name : List ℕ) (named : length name ≤ 9) (IsAnswer : V → Output → Type 0) (b : List ℕ) (short : (v : V) → ValueOf F b v → (o : Output) → IsAnswer v o → length o.text < 2 ^ 64) where
  reading_short : (r : Result V Fault) → ReadsAs F most_bytes b r → (o : Output) → IsAnswerOrRefusal name IsAnswer r (Some o) → length o.text < 2 ^ 64
  reading_short h1 value o h2 = grind (arith, refusal_short)

  file_short : (o : Output) → FileOut F name IsAnswer b (Some o) → length o.text < 2 ^ 64
  file_short o (r, reads, is) = reading_short r reads o is

printed_short : {V I S : Type 0} (F : Format V I S) (b : List ℕ) (v : V) → ValueOf F b v → (o : Output) → PrintAnswer F v o → length o.text < 2 ^ 64
printed_short h1 b v value o is = grind (arith, length, text, text_short)

-- ---- each output

pub short_output : ShortOutput
short_output Show b c = file_short task_format (codes "task") (omega arith) ShowAnswer b (λ p value o is. subst (λ (x : Output). length x.text < 2 ^ 64) (sym is) (summary_fits b (outline_of p) (p, value, refl)))
short_output Print b c = file_short task_format (codes "task") (omega arith) (PrintAnswer task_format) b (printed_short task_format b)
short_output Steps b c = file_short plan_format (codes "plan") (omega arith) (PrintAnswer plan_format) c (printed_short plan_format c)
short_output Check b c = file_short task_format (codes "task") (omega arith) CheckAnswer b (λ p value. layered_short (first_fault (layer_checks p)))
short_output Plan b c = λ o out. elim out [
  | inl refused ↦ file_short task_format (codes "task") (omega arith) (UnlayeredAnswer plain_refusal) b (λ p value o (fault, first, reported). layers_short fault o reported) o refused
  | inr (p, reads, layered, judged) ↦ file_short plan_format (codes "plan") (omega arith) (VerdictAnswer p) c (λ plan value. verdict_short p plan) o judged
]
short_output Mutex b c = file_short task_format (codes "task") (omega arith) MutexAnswer b (λ p value. mutex_short b p value (first_fault (layer_checks p)))
