-- The outline of a task, and what is stored for it.
use Rattle.std.specs.Prelude.{ℕ, ◌-◌, ◌^◌, min, List, [], length, ◌≡◌}
use Rattle.sas_core.specs.declared.parts.Parts.{Parts}
use Rattle.sas_flat.specs.declared.outline.Outline.{Outline}
use Rattle.sas_flat.specs.Outlines.{outline_of}
use Rattle.sas_task_file.specs.declared.so_far.SoFar.{SoFar}
use Rattle.sas_task_reader.specs.declared.task_outline.OutlineSoFar.{OutlineSoFar}
use Rattle.sas_reader.specs.Devices.{ValueOf}
use Rattle.sas_task_file.specs.TaskFormat.{task_format}

-- the number of items, up to the greatest 32-bit number; no task has more
abbrev pub as_far_as_counted : {A : Type 0} → List A → ℕ
as_far_as_counted items = min (length items) (2 ^ 32 - 1)

-- what is stored of the content read so far
abbrev pub kept_of : SoFar → OutlineSoFar
kept_of s = record {
  rest = record s {
    parts = record s.parts { groups = []; operators = []; rules = [] };
    facts = [];
    effects = [];
  };
  groups = as_far_as_counted s.parts.groups;
  operators = as_far_as_counted s.parts.operators;
  rules = as_far_as_counted s.parts.rules;
}

-- the outline of these parts, with these numbers of groups, operators and rules
abbrev pub outline_with : Parts → ℕ → ℕ → ℕ → Outline
outline_with p groups operators rules =
    record (outline_of p) { groups = groups; operators = operators; rules = rules }

-- the stored outline
abbrev pub outline_in : OutlineSoFar → Outline
outline_in kept = outline_with kept.rest.parts kept.groups kept.operators kept.rules

-- the bytes are a text of a task with this outline
abbrev pub OutlineOf : List ℕ → Outline → Type 0
OutlineOf bytes outline = (p : Parts) × ValueOf task_format bytes p × (outline ≡ outline_of p)
