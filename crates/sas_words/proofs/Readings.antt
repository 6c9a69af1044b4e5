-- What is read of what clap found.
use Rattle.std.proofs.Common.{◌≡◌, ◌∙◌, inl, inr, Bool, true, false, true≢false, cond, refl, sym, ap, subst, List, [], ◌∷◌, take, Option, Some, None, is_some, unwrap_or, codes, bytes_eq, find, slice_get, option_and_then, option_map, String, string_bytes, Result, Ok, Err, IfOk, MatchResult}
use Rattle.std.specs.Option.{option_map_or}
use Rattle.clap.proofs.WalkLemmas.{first_value-rows, raw_values-rows}
use Rattle.clap.specs.Walk.{Row, Text, all_of, first_of}
use Rattle.clap.specs.Words.{first_value, matched_of, raw_values, rows_of}
use Rattle.clap.specs.declared.parser.matches.Found.{Found}
use Rattle.sas_words.specs.Calls.{words_in}
use Rattle.sas_words.specs.Grammar.{HasFound, HasRows, IsFlag, task_words}

-- what an option is mapped to, or else the default
pub mapped : {A B : Type 0} (f : A → B) (found : Option A) (given : Option B) (d : B) → given ≡ option_map f found → unwrap_or given d ≡ option_map_or f found d
mapped f None given d e = ap (λ o. unwrap_or o d) e
mapped f (Some a) given d e = ap (λ o. unwrap_or o d) e

pub some_inj : {A : Type 0} (a b : A) → Some a ≡ Some b → a ≡ b
some_inj a b e = ap (λ o. unwrap_or o a) e

pub none_some : {A : Type 0} (a : A) → None ≡ Some a → ⊥
none_some a e = true≢false (ap is_some (sym e))

-- the flag reads as it was found
pub flag_is : (r why : Bool) (o : Option Text) → IsFlag why o → (o ≡ None → r ≡ false) → (o ≡ Some (codes "true") → r ≡ true) → (o ≡ Some (codes "false") → r ≡ false) → r ≡ why
flag_is r true o (inl found) none at_true at_false = at_true found
flag_is r false o (inl found) none at_true at_false = at_false found
flag_is r why o (inr (found, none_asked)) none at_true at_false = none found ∙ sym none_asked

-- the first of the values is the only one
first_in : (id : Text) (rows : List Row) → first_of id rows ≡ slice_get (unwrap_or (all_of id rows) []) 0
first_in id rows = go (find (λ r. bytes_eq r.id id) rows)
  where
    go : (o : Option Row) → option_and_then (λ (r : Row). slice_get r.values 0) o ≡ slice_get (unwrap_or (option_map (λ (r : Row). r.values) o) []) 0
    go None = refl
    go (Some r) = refl

only : {Z : Type 0} (b : Bool) (files : List Text) (word : Option (String Z)) → option_map string_bytes word ≡ slice_get (cond b [] (take 1 files)) 0 → words_in word ≡ cond b [] (take 1 files)
only true files None e = refl
only true files (Some w) e = absurd (none_some _ (sym e))
only false [] None e = refl
only false [] (Some w) e = absurd (none_some _ (sym e))
only false (x ∷ xs) None e = absurd (none_some _ e)
only false (x ∷ xs) (Some w) e = ap (λ y. y ∷ []) (some_inj _ _ e)

pub task_is : {Z : Type 0} (request : Text) (files : List Text) (found : Found) (word : Option (String Z)) → option_map string_bytes word ≡ first_value found (codes "TASK")
    → unwrap_or (all_of (codes "TASK") (rows_of found)) [] ≡ task_words request files → words_in word ≡ task_words request files
task_is request files found word is rows = only (bytes_eq request (codes "steps")) files word
    (is ∙ first_value-rows found (codes "TASK") ∙ first_in (codes "TASK") (rows_of found) ∙ ap (λ l. slice_get l 0) rows)

pub plans_are : (request : Text) (found : Found) → option_map_or raw_values (matched_of found (codes "PLAN")) [] ≡ unwrap_or (all_of (codes "PLAN") (rows_of found)) []
plans_are request found = sym (mapped raw_values (matched_of found (codes "PLAN")) (all_of (codes "PLAN") (rows_of found)) [] (sym (raw_values-rows found (codes "PLAN"))))

-- of a subcommand that was met
pub met_is : (request : Text) (why : Bool) (files : List Text) (o : Option (Text × List Row)) (name : Text) (rows : List Row)
    → Some name ≡ option_map (λ (p : Text × List Row). p.0) o → Some rows ≡ option_map (λ (p : Text × List Row). p.1) o → HasFound request why files o → (name ≡ request) × HasRows request why files rows
met_is request why files None name rows en er found = absurd (none_some name (sym en))
met_is request why files (Some met) name rows en er found = (some_inj _ _ en ∙ found.0, subst (HasRows request why files) (sym (some_inj _ _ er)) found.1)

pub none_is : (request : Text) (why : Bool) (files : List Text) (o : Option (Text × List Row)) → is_some o ≡ false → HasFound request why files o → HasFound request why files None
none_is request why files None e found = found
none_is request why files (Some met) e found = absurd (true≢false e)

pub ok_of : {A E : Type 0} (r : Result A E) (P Q : A → Type 0) (M : E → Type 0) → ((a : A) → P a → Q a) → MatchResult r P M → IfOk r Q
ok_of (Ok a) P Q M weaker is = weaker a is
ok_of (Err e) P Q M weaker is = tt
