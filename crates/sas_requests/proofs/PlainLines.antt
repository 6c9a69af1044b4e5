-- Lines that refuse a file or a task, and verdicts on a plan, contain no line end.
use Rattle.std.proofs.Common.{arith}
use Rattle.std.proofs.lemmas.Grind.{common_steps}
use Rattle.sas_requests.proofs.Imports.{◌≡◌, ℕ, List, ◌++◌, codes, refl, subst, Some, decimal, none-some, LayerFault, Kind, IsPlain, plain-decimal, plain-append, PlanFault, layer_words, words_at_part, fault_words, step_words, word_of}
use Rattle.sas_meaning.specs.declared.layered.LayerFault.TheVariants as layer_fault

some_words : (x w : List ℕ) → Some x ≡ Some w → IsPlain x → IsPlain w
some_words x w e h = subst IsPlain (let same : x ≡ w = cc in same) h

-- ---- refusals of files

-- the line of a refusal without its end
abbrev pub file_words : List ℕ → ℕ → List ℕ → List ℕ
file_words name line w = name ++ codes " refused: line " ++ decimal line ++ codes ": " ++ w

pub kind_plain : (kind : Kind) (w : List ℕ) → word_of kind ≡ Some w → IsPlain w
kind_plain kind w e = grind (arith, common_steps, some_words, none-some)

pub file_plain : (name : List ℕ) (line : ℕ) (w : List ℕ) → IsPlain name → IsPlain w → IsPlain (file_words name line w)
file_plain name line w h g = grind (arith, plain-append, codes, decimal, plain-decimal)

-- ---- refusals of layers

part_plain : (part : List ℕ) (place : ℕ) (what : List ℕ) → IsPlain part → IsPlain what → IsPlain (words_at_part part place what)
part_plain part place what h g = grind (arith, plain-append, codes, decimal, plain-decimal)

rule_plain : (rule : ℕ) (what w : List ℕ) → IsPlain what → Some (words_at_part (codes "rule") rule what) ≡ Some w → IsPlain w
rule_plain rule what w h e = some_words (words_at_part (codes "rule") rule what) w e (part_plain (codes "rule") rule what refl h)

pub layer_plain : (fault : LayerFault) (w : List ℕ) → layer_words fault ≡ Some w → IsPlain w
layer_plain (layer_fault.EffectOnDerived operator effect) w e =
    let what = codes "effect on derived variable" in
    some_words (words_at_part (codes "operator") operator what) w e (part_plain (codes "operator") operator what refl refl)
layer_plain (layer_fault.RuleOnBasic rule) w e = rule_plain rule (codes "not on a derived variable") w refl e
layer_plain (layer_fault.OldValue rule) w e = rule_plain rule (codes "old value") w refl e
layer_plain (layer_fault.TwoValues rule) w e = rule_plain rule (codes "two values") w refl e
layer_plain (layer_fault.LayerOrder rule condition) w e = rule_plain rule (codes "layer order") w refl e
layer_plain layer_fault.Memory w e = absurd (none-some w e)

-- ---- the verdict on a plan

step_plain : (step : ℕ) (what w : List ℕ) → IsPlain what → Some (step_words step what) ≡ Some w → IsPlain w
step_plain step what w h e = grind (arith, some_words, step_words, plain-append, codes, decimal, plain-decimal)

fault_plain : (cost : ℕ) (fault : PlanFault) (w : List ℕ) → fault_words cost fault ≡ Some w → IsPlain w
fault_plain cost fault w e = grind (arith, common_steps, step_plain, some_words, plain-append, plain-decimal, none-some)

-- a verdict with the answer no, without its line end
pub invalid_plain : (cost : ℕ) (fault : PlanFault) (w : List ℕ) → fault_words cost fault ≡ Some w → IsPlain (codes "plan invalid: " ++ w)
invalid_plain cost fault w e = plain-append (codes "plan invalid: ") w refl (fault_plain cost fault w e)
