-- Hints: what may have gone wrong with a file that is refused.
use Rattle.std.specs.Prelude.{ℕ, ◌==◌, nat_eq, bytes_eq, Bool, ◌&&◌, ◌||◌, not, List, [], ◌∷◌, ◌++◌, length, codes, Option, option_map}
use Rattle.std.specs.List.{find, starts_with}
use Rattle.sas_reader.specs.Faults.{is_keyword, is_value, is_end, is_trailing}
use Rattle.sas_reader.specs.Found.{Kept}
use Rattle.sas_reader.specs.declared.fault.Fault.{Fault}
use Rattle.sas_requests.specs.declared.hint.Hint.{Hint}
use Rattle.sas_requests.specs.declared.hint.Hint.TheVariants as hint
use Rattle.sas_requests.specs.declared.hint.Lacks.{Lacks}

-- the words of a hint
abbrev pub hint_words : Hint → List ℕ
hint_words hint.Empty = codes "the file is empty"
hint_words hint.Compressed = codes "the file is compressed"
hint_words hint.ByteOrderMark = codes "the file begins with a byte order mark"
hint_words hint.ReturnsAlone = codes "line ends are CR alone"
hint_words hint.TaskForPlan = codes "this is a task: the order is TASK PLAN"
hint_words hint.PlanForTask = codes "this is a plan or PDDL: the task is the file output.sas"
hint_words hint.OtherVersion = codes "only version 3 is read"
hint_words hint.CostForm = codes "this isn't the form of a cost line"
hint_words hint.Comment = codes "comments aren't read"
hint_words hint.CostNotLast = codes "the cost line must be the last line"
hint_words hint.EmptyLine = codes "an empty line follows the last line"
hint_words hint.OtherPlanner = codes "plan.awk of the examples converts plans of other planners"
hint_words hint.NoLineEnd = codes "only the last line end is missing"
hint_words hint.NoCostLine = codes "the cost line is missing"
hint_words hint.CutOff = codes "the file is cut off"

-- the bytes begin with these
abbrev pub begins : List ℕ → List ℕ → Bool
begins front bytes = starts_with nat_eq bytes front

-- the bytes begin like a file that gzip, bzip2, xz or Zstandard wrote
abbrev pub is_compressed : List ℕ → Bool
is_compressed bytes =
    begins (31 ∷ 139 ∷ []) bytes || begins (codes "BZh") bytes
    || begins (253 ∷ codes "7zXZ" ++ 0 ∷ []) bytes || begins (40 ∷ 181 ∷ 47 ∷ 253 ∷ []) bytes

-- the bytes begin with a byte order mark: that of UTF-8, or one of UTF-16
abbrev pub has_mark : List ℕ → Bool
has_mark bytes =
    begins (239 ∷ 187 ∷ 191 ∷ []) bytes || begins (255 ∷ 254 ∷ []) bytes
    || begins (254 ∷ 255 ∷ []) bytes

-- Where each hint applies, for a fault of a task, or else of a plan: by what is kept of the text
-- there, and by what alone is missing.
abbrev pub hints : Bool → Fault → Kept → Lacks → List (Hint × Bool)
hints task fault kept lacks =
    let plan = not task in
    let first = fault.line == 1 in
    let keyword = is_keyword fault.kind in
    let trailing = is_trailing fault.kind in
    let end = is_end fault.kind in
    let text = kept.front in
    (hint.Empty, first && end && (length text == 0))
    ∷ (hint.Compressed, first && is_compressed text)
    ∷ (hint.ByteOrderMark, first && has_mark text)
    ∷ (hint.ReturnsAlone, first && end && kept.inner_return)
    ∷ (hint.TaskForPlan, plan && first && keyword && bytes_eq text (codes "begin_version"))
    ∷ (
      hint.PlanForTask,
      task && first && keyword && (begins (codes "(") text || begins (codes ";") text),
    )
    ∷ (hint.OtherVersion, task && is_value fault.kind && (fault.line == 2))
    ∷ (hint.CostForm, plan && keyword && kept.cost)
    ∷ (
      hint.Comment,
      plan && (((keyword || trailing) && begins (codes ";") text) || kept.semicolon),
    )
    ∷ (hint.CostNotLast, plan && trailing && begins (codes "(") text)
    ∷ (hint.EmptyLine, trailing && (begins (codes "\n") text || begins (codes "\r") text))
    ∷ (hint.OtherPlanner, plan && keyword)
    ∷ (hint.NoLineEnd, end && lacks.line_end)
    ∷ (hint.NoCostLine, plan && end && lacks.cost_line)
    ∷ (hint.CutOff, end)
    ∷ []

-- the first hint that applies
abbrev pub first_hint : List (Hint × Bool) → Option Hint
first_hint rows = option_map (λ h. h.0) (find (λ h. h.1) rows)

abbrev pub hint_for : Bool → Fault → Kept → Lacks → Option Hint
hint_for task fault kept lacks = first_hint (hints task fault kept lacks)
