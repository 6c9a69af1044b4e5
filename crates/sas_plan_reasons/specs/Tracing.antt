-- What a trace has of the steps that were made.
use Rattle.std.specs.Prelude.{◌≡◌, ℕ, List, length, take, flat_map, Option}
use Rattle.std.specs.List.{range_with_len}
use Rattle.sas_core.specs.declared.parts.Parts.{Parts}
use Rattle.sas_lines.specs.Lines.{text}
use Rattle.sas_answers.specs.Sink.{Pushes}
use Rattle.sas_answers.specs.declared.sink.Sink.{Sink}
use Rattle.sas_run.specs.ByNumbers.{GoesThroughFrom}
use Rattle.sas_run.specs.Runs.{Run, IsRunFrom}
use Rattle.sas_plan_reasons.specs.Noting.{CanList}
use Rattle.sas_plan_reasons.specs.Trace.{step_lines}
use Rattle.sas_plan_reasons.specs.declared.tracing.Tracer.{Tracer}

-- the sink of a trace
abbrev pub sink_of : {W : Type 0} → Tracer W → Sink W
sink_of t = record { out = t.out; pieces = t.pieces; short = t.short; status = t.status }

-- The steps of these operators lead from `start` to the values that were printed. Of each run from
-- there that begins with these operators, the lines of these steps were added to the text.
pub record HasTraced {W : Type 0} (contents : W → Option (List ℕ)) (p : Parts)
    (start : List ℕ) (first now : Tracer W) (operators : List ℕ) : Type 0 where
  pub listing : CanList p now.printed.now.listing
  pub through : GoesThroughFrom p start operators now.printed.now.values
  pub pushes : (run : Run) → IsRunFrom p start run
      → operators ≡ take (length operators) run.operators
      → Pushes contents (sink_of first) (sink_of now)
      (text (flat_map (step_lines p run) (range_with_len 0 (length operators))))
