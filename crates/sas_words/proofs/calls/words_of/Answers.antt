-- The words are the names that were given, in order.
use Rattle.std.proofs.Common.{◌≡◌, ◌<◌, ℕ, List, [], ◌∷◌, ◌++◌, length, map, take, get_or, Bor, Some, None, sym, ap, ◌∙◌}
use Rattle.std.proofs.lemmas.List.{map-append, map_more, take_all}
use Rattle.std.specs.Option.{option_map}
use Rattle.std.specs.String.{string_bytes}
use Rattle.clap.specs.Words.{found_of, matched_of, raw_values}
use Rattle.sas_words.specs.Calls.{bytes_of_words}
use Rattle.sas_words.proofs.Readings.{mapped}
use Rattle.sas_words.proofs.calls.words_of.Goals as goal
use Rattle.sas_words.proofs.calls.words_of.Goals.{in-Some+else-loop-name-test, in_default}

-- the bytes of a name
abbrev now_of : Bor (List ℕ) → List ℕ
now_of name = name.now

pub loop-name-preserved : goal.loop-name-preserved
loop-name-preserved c =
    let l = c.loop-name in
    let names = c.in-Some.names.now in
    let word = c.in_ok-from_str.field-0 in
    let none : Bor (List ℕ) = record { ref_ptr = (0, 0); now = [] } in
    let less : l.name-index < length names = c.loop-name-test.true in
    let more = map_more now_of names l.name-index none less in
    let pushed = ap bytes_of_words c.in_ok-push.ensures.items ∙ map-append string_bytes l.words.items (word ∷ []) in
    let before : bytes_of_words l.words.items ≡ map now_of (take l.name-index names) = l.invariant in
    let same : string_bytes word ∷ [] ≡ now_of (get_or names l.name-index none) ∷ [] = ap (λ b. b ∷ []) c.in_ok-from_str.ensures.ok in
    pushed ∙ ap (λ front. front ++ string_bytes word ∷ []) before ∙ ap (λ last. map now_of (take l.name-index names) ++ last) same ∙ sym more

pub returns : goal.returns
returns c =
    let found = matched_of (found_of c.args.matches.now) c.args.id.now in
    elim c.match-get_strs.branch [
      | in-Some+else-loop-name-test w ↦
          let names = w.in-Some.names.now in
          let given : Some (map now_of names) ≡ option_map raw_values found = ap (option_map (λ (s : Bor (List (Bor (List ℕ)))). map now_of s.now)) (sym w.in-Some.is) ∙ c.get_strs.ensures in
          ap (λ words. bytes_of_words words.items) w.words-is ∙ w.loop-name.invariant ∙ ap (map now_of) (take_all w.loop-name.name-index names w.loop-name-test.false) ∙ mapped raw_values found (Some (map now_of names)) [] given
      | in_default w ↦
          let given : None ≡ option_map raw_values found = ap (option_map (λ (s : Bor (List (Bor (List ℕ)))). map now_of s.now)) (sym w.in_default.is) ∙ c.get_strs.ensures in
          ap (λ words. bytes_of_words words.items) w.words-is ∙ ap bytes_of_words c.new-words.ensures.items ∙ mapped raw_values found None [] given
    ]
