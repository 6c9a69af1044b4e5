-- A step on the first line of some bytes.
use Rattle.sas_plan_file.proofs.Imports.{◌≡◌, ℕ, suc, ◌+◌, ◌<◌, List, [], ◌∷◌, ◌++◌, length, get_or, take, refl, subst, sym, ap, ◌∙◌, inl, inr, length-append, arith, codes, length-take-le, get_or-take, take_at, get_or-append, StandsBefore, EndedLines, ended_line, front_of_lines, step, plan_line_bytes, plan_format, PlanLineFits, plan_line_ok, StepStandsFirst, IsName, LinesAccepted, one_more, plain, IsAllowed}
use Rattle.sas_reader.proofs.PlainBytes.{plain_name}
use Rattle.sas_plan_file.proofs.PlanGrammar.{plain-step}

-- each byte before the end of the line is above 13
module _ (bytes : List ℕ) (end : ℕ) (first : (end < length bytes) × ((k : ℕ) → k < end → 13 < get_or bytes k 0)) where
  module _ (name : List ℕ) (line : take end bytes ≡ codes "(" ++ (name ++ codes ")")) where
    inside : length name + 2 ≡ end
    inside = omega (arith, ap length line, length-append name (codes ")"), length-take-le end bytes (omega (arith, first.0)))

    at_place : (k : ℕ) → k < length name → get_or name k 0 ≡ get_or bytes (suc k) 0
    at_place k low =
        sym (get_or-append name (codes ")") 0 k low)
        ∙ sym (ap (λ (x : List ℕ). get_or x (suc k) 0) line)
        ∙ get_or-take end bytes (suc k) 0 (omega (arith, inside))

    names : 0 < length name → IsName name
    names some = plain_name name some (λ k low. subst (λ (b : ℕ). 13 < b) (sym (at_place k low)) (first.1 (suc k) (omega (arith, inside))))

    -- so bytes in parentheses before a line end are a step
    pub step_before_end : 0 < length name → (rest : List ℕ) → StandsBefore (take end bytes) 10 rest bytes → StepStandsFirst bytes name rest
    step_before_end some rest ends = record {
      is_name = names some;
      are = subst (λ (w : List ℕ). EndedLines (w ∷ []) rest bytes) line (ended_line (take end bytes) rest bytes ends);
    }

module _ (bytes name rest : List ℕ) (h : StepStandsFirst bytes name rest) where
  abbrev line_bytes : List ℕ
  line_bytes = plan_line_bytes (step name)

  long : length line_bytes ≡ length name + 2
  long = omega (arith, length-append name (codes ")"))

  before_end : (end : List ℕ) → 0 < length end → bytes ≡ line_bytes ++ end → (take (length name + 2) bytes ≡ line_bytes) × (length name + 2 < length bytes)
  before_end end some e = (ap (take (length name + 2)) e ∙ take_at line_bytes end (length name + 2) long, omega (arith, some, long, ap length e, length-append line_bytes end))

  -- its line
  pub bytes_of_line : (take (length name + 2) bytes ≡ line_bytes) × (length name + 2 < length bytes)
  bytes_of_line = elim h.are.1 [ inl e ↦ before_end (10 ∷ h.are.0) (omega arith) e | inr e ↦ before_end (13 ∷ 10 ∷ h.are.0) (omega arith) e ]

  pub step_ahead_taken : IsAllowed plan_format PlanLineFits tt plan_line_ok (step name)
  step_ahead_taken = record { slot = refl; fits = tt; good = h.is_name }

  -- a machine that adds the step accepts its line after others
  pub next_step : {M : Type 0} (led_by : List (List ℕ) → M → Type 0) (start : M) (all : List ℕ) (old : M) (count : ℕ) → LinesAccepted led_by start all old count bytes → (new : M)
      → ((before : List (List ℕ)) → led_by before old → led_by (before ++ plan_line_bytes (step name) ∷ []) new) → LinesAccepted led_by start all new (count + 1) rest
  next_step led_by start all old count so_far new on =
      one_more led_by start all old count bytes so_far new line_bytes rest (front_of_lines (line_bytes ∷ []) rest bytes (plain line_bytes (plain-step name h.is_name), tt) h.are) on
