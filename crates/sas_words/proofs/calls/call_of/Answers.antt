-- Clap takes the words exactly if they are a call.
use Rattle.std.proofs.Common.{◌≡◌, ◌∙◌, ◌≤◌, inl, inr, [], length, sym, ap, subst, arith}
use Rattle.std.proofs.lemmas.List.{length-map}
use Rattle.std.specs.String.{string_bytes}
use Rattle.clap.specs.Lexer.{usize_max}
use Rattle.clap.specs.Words.{HasKind, fault_of, is_simple, is_simple_and_free, subcommand_of, subcommand_rows_of}
use Rattle.sas_words.specs.Calls.{IsFor, bytes_of_words}
use Rattle.sas_words.specs.Grammar.{HasFound, sas_app}
use Rattle.sas_words.proofs.Options.{characters}
use Rattle.sas_words.proofs.Understood.{call_is_taken, taken_is_call}
use Rattle.sas_words.proofs.Readings.{ok_of}
use Rattle.sas_words.proofs.calls.call_of.Goals as goal

pub returns-in-Ok-clause-taken : goal.returns-in-Ok-clause-taken
returns-in-Ok-clause-taken c = λ request why files call.
    let words = bytes_of_words c.args.words.now in
    let is = c.in_ok-program.ensures.0 in
    let few : length words ≤ usize_max = omega (arith, length-map c.args.words.now string_bytes, c.count.ensures, c.count.type_inv) in
    let met : subcommand_rows_of c.in-Ok.matches ≡ subcommand_of sas_app words = (c.in-Ok.ensures.matches (ap is_simple is)).1 ∙ ap (λ a. subcommand_of a words) is in
    c.found_call.ensures request why files (subst (HasFound request why files) (sym met) (call_is_taken words (characters c.args.words.now) few request why files call).1)

pub returns-in-Ok-clause-only : goal.returns-in-Ok-clause-only
returns-in-Ok-clause-only c =
    let words = bytes_of_words c.args.words.now in
    let is = c.in_ok-program.ensures.0 in
    let met : subcommand_rows_of c.in-Ok.matches ≡ subcommand_of sas_app words = (c.in-Ok.ensures.matches (ap is_simple is)).1 ∙ ap (λ a. subcommand_of a words) is in
    let few : length words ≤ usize_max = omega (arith, length-map c.args.words.now string_bytes, c.count.ensures, c.count.type_inv) in
    let well : fault_of sas_app words ≡ [] = subst (λ a. fault_of a words ≡ []) is (c.in-Ok.ensures.kinds (ap is_simple_and_free is)) in
    let s = taken_is_call words (characters c.args.words.now) few well in
    ok_of c.found_call.result (IsFor s.0 s.1 s.2) _ _ (λ call its. (s.0, s.1, s.2, s.3, its)) (c.found_call.ensures s.0 s.1 s.2 (subst (HasFound s.0 s.1 s.2) (sym met) s.4))

pub returns-in-Err-clause-taken : goal.returns-in-Err-clause-taken
returns-in-Err-clause-taken c = λ request why files call.
    let words = bytes_of_words c.args.words.now in
    let is = c.in_ok-program.ensures.0 in
    let few : length words ≤ usize_max = omega (arith, length-map c.args.words.now string_bytes, c.count.ensures, c.count.type_inv) in
    let taken = call_is_taken words (characters c.args.words.now) few request why files call in
    let kinds = subst (λ ks. HasKind ks c.in-Err.error) (ap (λ a. fault_of a words) is ∙ taken.0) (c.in-Err.ensures.kinds (ap is_simple_and_free is)) in
    elim kinds [
      | inl memory ↦ c.words_fault.ensures memory
      | inr other ↦ absurd other
    ]
