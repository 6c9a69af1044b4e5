-- The trace of steps that are made once more, and the answer that follows it.
use Rattle.std.specs.Prelude.{◌++◌}
use Rattle.sas_lines.specs.Lines.{text}
use Rattle.sas_run.specs.Runs.{Run}
use Rattle.sas_answers.specs.Ending.{Output}
use Rattle.sas_answers.specs.Line.{reasons_text}
use Rattle.sas_answers.specs.Wording.{steps_of}
use Rattle.sas_plan_reasons.specs.Trace.{run_lines}
use Rattle.sas_plan_reasons.specs.declared.replays.Replay.{Replay}

-- the answer with its reasons
abbrev pub answer_behind : Replay → Output
answer_behind its = record {
  text = its.verdict.now.text.items
      ++ reasons_text its.task.now (steps_of its.plan) its.reasons.now;
  status = its.verdict.now.status;
}

-- the lines of the run, and after them this answer
abbrev pub traced_answer : Replay → Run → Output
traced_answer its run = record {
  text = text (run_lines its.task.now run) ++ (answer_behind its).text;
  status = (answer_behind its).status;
}
