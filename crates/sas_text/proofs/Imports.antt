-- What the proofs use of other crates, and of the definitions of this one.
pub use Rattle.std.proofs.Common.{◌≡◌, ℕ, List, [], ◌∷◌, ◌++◌, length, map, refl, sym, ap, ◌∙◌, append_assoc, Result, Ok, Err, codes, take, zero, suc, ◌+◌, ◌<◌, get_or, append-nil, arith}
pub use Rattle.std.proofs.lemmas.Grind.{flat_map-append}
pub use Rattle.std.proofs.lemmas.List.{map-append}
pub use Rattle.std.specs.Fmt.{decimal}
pub use Rattle.std.specs.List.{flat_map}
pub use Rattle.std.specs.Result.{OnOk}
pub use Rattle.sas_core.specs.declared.parts.Effect.{Effect}
pub use Rattle.sas_core.specs.declared.parts.Parts.{Parts}
pub use Rattle.sas_lines.specs.Spelling.{signed_decimal, joined}
pub use Rattle.sas_task_file.specs.TaskFormat.{TaskLine, word, effect, head, fact_words, task_line_bytes, single_line, between, fact, counted, name, number, task_layout, version_lines, metric_lines, variable_lines, group_lines, state_lines, goal_lines, operator_lines, rule_lines}
pub use Rattle.sas_text.specs.TaskText.{text_of, spaced}
