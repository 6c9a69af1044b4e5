-- What the proofs use of other crates, and of the definitions of this one.
pub use lib.Count.{count_trailing_zeros}
pub use lib.Lanes.{chunk, mask_l, put_chunk}
pub use lib.Seq.{paste}
pub use mir.Syntax.{w8}
pub use Rattle.std.proofs.Common.{◌≡◌, ℕ, ◌+◌, List, [], ◌∷◌, ◌++◌, length, length-append, take, refl, sym, ap, ap₂, ◌∙◌, append_assoc, arith, zero, suc, ◌*◌, ◌-◌, ◌/◌, ◌%◌, ◌<◌, ◌≤◌, ◌^◌, get_or, subst, rules, inl, inr, Bool, true, false, not, eqb, ◌⊎◌, if◌then◌else◌, ◌==◌, drop, ◌≢◌, Option, cond, Some, None, nat_lt, IfSome, map}
pub use Rattle.std.proofs.KnownBytes.{Appends-trans}
pub use Rattle.std.proofs.Math.Seq.{take-add, take-append-add}
pub use Rattle.std.proofs.lemmas.Bool.{cases_lt, eqb-true, eq-eqb, ne_eqb, eqb-false}
pub use Rattle.std.proofs.lemmas.Bool.Decides.{eqb_tells}
pub use Rattle.std.proofs.lemmas.Fmt.{decimal_nonempty, length-decimal-le, first_decimal, digits_decimal, digits_value-decimal, decimal-digits_value, decimal_injective, decimal_digit, decimal_step, decimal_is_IsNumeral, decimal_is_IsNumeral_wide, decimal_step_wide}
pub use Rattle.std.proofs.lemmas.Grind.{flat_map-append}
pub use Rattle.std.proofs.lemmas.Int.Digits.{digits_more, digits_value_more}
pub use Rattle.std.proofs.lemmas.List.{take_at, length_push, length-take, take_all, take_more, get_or_at, get_or-take, get_or-drop, take-append-drop, drop_more, take_rest, append-nil, take-take, length-take-le, length-drop, drop-drop, drop_all}
pub use Rattle.std.proofs.lemmas.List.Edits.{take-paste, drop-paste, length-paste}
pub use Rattle.std.proofs.lemmas.List.Elements.{filter-append}
pub use Rattle.std.proofs.lemmas.Simd.{bitmask_splat, length-chunk, put_chunk_is, trailing_mask_l, none_from_empty_mask, run_in_chunk_le, run_in_chunk_fails, run_in_chunk_stops}
pub use Rattle.std.proofs.lemmas.Str.Parse.{IsNumeralModel, numerals_by_value, tells_digits, digits_value_short, digit_at, digit_from_value}
pub use Rattle.std.specs.Char.{digit_value}
pub use Rattle.std.specs.Fmt.{decimal, digits_onto, digit_glyph}
unfoldable pub use Rattle.std.specs.Fmt.{digits}
pub use Rattle.std.specs.Int.{IsInRange}
pub use Rattle.std.specs.Io.KnownBytes.{Appends}
pub use Rattle.std.specs.List.{AllByRecursion, prefix_len}
pub use Rattle.std.specs.Option.{IfNone}
pub use Rattle.std.specs.Str.Parse.{AllDigits, digits_value}
pub use Rattle.memchr.specs.Find.{Nowhere, NoneBefore, Passes, is_byte}
pub use Rattle.sas_lines.specs.FirstLines.{LinesStandFirst, TakesLine, AreLines, EndedLines, NoEnd}
pub use Rattle.sas_lines.specs.Lines.{text, without_return, without_returns, lines_among, rest_among}
pub use Rattle.sas_lines.specs.Segments.{onto_first}
pub use Rattle.sas_lines.specs.Separators.{StandsFirst, Without}
pub use Rattle.sas_lines.specs.Packing.{InText, Packs, packed}
pub use Rattle.sas_lines.specs.Progress.{Progress}
pub use Rattle.sas_lines.specs.Spelling.{signed_decimal, joined}
unfoldable pub use Rattle.sas_lines.specs.Lines.{lines, unfinished}
unfoldable pub use Rattle.sas_lines.specs.Segments.{segments}
