-- Each line of reasons begins with two spaces, and contains neither LF nor CR.
use Rattle.std.proofs.lemmas.Grind.{common_steps}
use Rattle.std.specs.Prelude.{[], codes, decimal}
use Rattle.sas_answers.specs.Shown.{shown}
use Rattle.sas_core.specs.Plain.{IsPlain}
use Rattle.sas_requests.specs.FileLine.{At, Expected, ExpectedInPlan, NumberMustBe, Counted, Found, Hinted}
use Rattle.sas_task_file.specs.declared.counts.ListCount.{ListCount}
use Rattle.sas_task_file.specs.declared.marks.WrongWord.{WrongWord}
use Rattle.sas_requests.proofs.Imports.{ℕ, Bool, List, ◌∷◌, ◌++◌, arith, Kind, fixed_word_bytes, Due, FixedWord, Location, What, what_words, number, number_then, two, location_words, due_words, plan_due_words, least_words, empty_words, found_word, joined, FileLine, file_line_bytes, IsReasonLine, Hint, hint_words, shown_plain}
use Rattle.sas_core.proofs.Plain.{plain-append}

-- ---- the location of a line, and what is expected there

location_plain : (at : Location) → IsPlain (location_words at)
location_plain at = grind (arith, number)

word_plain : (w : FixedWord) → IsPlain (fixed_word_bytes w)
word_plain w = grind arith

what_plain : (its : What) → IsPlain (what_words its)
what_plain its = grind (arith, number)

due_plain : (d : Due) → IsPlain (due_words d)
due_plain d = grind (arith, common_steps, word_plain, plain-append, number_then, number, what_plain)

plan_due_plain : (kind : Kind) → IsPlain (plan_due_words kind)
plan_due_plain kind = grind arith

least_plain : (may_be_none : Bool) → IsPlain (least_words may_be_none)
least_plain may_be_none = grind arith

empty_plain : (kind : Kind) → IsPlain (empty_words kind)
empty_plain kind = grind arith

hint_plain : (h : Hint) → IsPlain (hint_words h)
hint_plain h = grind arith

word_then : (kind : Kind) (bytes : List ℕ) → IsPlain bytes → IsPlain (found_word kind ++ 32 ∷ bytes)
word_then kind bytes plain = grind arith

must_be_plain : (w : WrongWord) → IsPlain (joined (codes "number" ∷ decimal w.word ∷ codes "must be" ∷ least_words w.may_be_none ∷ codes "to" ∷ decimal w.most ∷ []))
must_be_plain w =
    let least = least_words w.may_be_none in
    number_then w.word (32 ∷ joined (codes "must be" ∷ least ∷ codes "to" ∷ decimal w.most ∷ [])) (plain-append least (32 ∷ joined (codes "to" ∷ decimal w.most ∷ [])) (least_plain w.may_be_none) (number w.most))

counted_plain : (c : ListCount) → IsPlain (joined (codes "line" ∷ decimal c.line ∷ codes "counts" ∷ decimal c.number ∷ []))
counted_plain c = number_then c.line (32 ∷ joined (codes "counts" ∷ decimal c.number ∷ [])) (number c.number)

-- ---- each line

pub file_lines_are_reasons : (l : FileLine) → IsReasonLine (file_line_bytes l)
file_lines_are_reasons (At at) = two _ (location_plain at)
file_lines_are_reasons (Expected due) = two _ (due_plain due)
file_lines_are_reasons (ExpectedInPlan kind) = two _ (plan_due_plain kind)
file_lines_are_reasons (NumberMustBe wrong) = two _ (must_be_plain wrong)
file_lines_are_reasons (Counted count) = two _ (counted_plain count)
file_lines_are_reasons (Found kind []) = two _ (empty_plain kind)
file_lines_are_reasons (Found kind (b ∷ bytes)) = two _ (word_then kind (shown 64 (b ∷ bytes)) (shown_plain 64 (b ∷ bytes)))
file_lines_are_reasons (Hinted h) = two _ (hint_plain h)
