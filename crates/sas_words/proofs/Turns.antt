-- What clap makes of one word behind a request.
use Rattle.std.proofs.Common.{◌≡◌, ℕ, Bool, true, false, refl, List, [], ◌∷◌, None, bytes_eq, if◌then◌else◌, codes, ◌==◌}
use Rattle.clap.specs.Lexer.{long_of, short_of}
use Rattle.clap.specs.Walk.{Held, Rule, Text, Walk, Waiting, idle, positional, arg_by_index, to_positional, walked, value, subcommand_met}
use Rattle.clap.specs.Simple.{Shape}
use Rattle.clap.specs.Faults.{turn_fault, step_fault}
use Rattle.sas_words.specs.Usage.{is_option}

-- clap takes the word for a value
pub record IsValue (t : Text) : Type 0 where
  pub dashes : bytes_eq t (codes "--") ≡ false
  pub long : long_of t ≡ None
  pub short : short_of t ≡ None

-- a word that is neither an option nor `--` is one
pub is_value : (t : Text) → is_option t ≡ false → bytes_eq t (codes "--") ≡ false → IsValue t
is_value [] is d = record { dashes = refl; long = refl; short = refl }
is_value (x ∷ []) is d = go (x == 45) refl
  where
    go : (b : Bool) → (x == 45) ≡ b → IsValue (x ∷ [])
    go true e = record { dashes = d; long = rw e refl; short = rw e refl }
    go false e = record { dashes = d; long = rw e refl; short = rw e refl }
is_value (x ∷ y ∷ rest) is d = record { dashes = d; long = rw is refl; short = rw is refl }

-- between two words; `more` says whether the last positional may have more values
abbrev pub waiting_for : Bool → Waiting
waiting_for more = if more then positional else idle

abbrev pub standing : Bool → ℕ → Bool → Held → Walk
standing more k trailing h = record { held = h; waiting = waiting_for more; position = k; is_trailing = trailing; stopped = None }

-- a value goes to the positional whose turn it is
pub value_walked : (c : List Rule) (more : Bool) (k : ℕ) (h : Held) (t : Text) → IsValue t
    → walked c [] (standing more k false h) t ≡ to_positional c (arg_by_index c k) t (standing more k false h) h
unfolding walked
value_walked c true k h t is = rw (is.dashes, is.long, is.short) refl
value_walked c false k h t is = rw (is.dashes, is.long, is.short) refl

pub value_fault : (s : Shape) (more : Bool) (k : ℕ) (h : Held) (t : Text) → IsValue t
    → turn_fault s [] (standing more k false h) t ≡ step_fault s k h value
value_fault s true k h t is = rw (is.dashes, is.long, is.short) refl
value_fault s false k h t is = rw (is.dashes, is.long, is.short) refl

pub trailing_walked : (c : List Rule) (more : Bool) (k : ℕ) (h : Held) (t : Text)
    → walked c [] (standing more k true h) t ≡ to_positional c (arg_by_index c k) t (standing more k true h) h
unfolding walked
trailing_walked c more k h t = refl

pub dashes_walked : (c : List Rule) (more : Bool) (k : ℕ) (h : Held) → walked c [] (standing more k false h) (codes "--") ≡ standing more k true h
unfolding walked
dashes_walked c true k h = refl
dashes_walked c false k h = refl

pub dashes_fault : (s : Shape) (more : Bool) (k : ℕ) (h : Held) → turn_fault s [] (standing more k false h) (codes "--") ≡ []
dashes_fault s true k h = refl
dashes_fault s false k h = refl

pub none_met : (more : Bool) (t : Text) → subcommand_met [] (waiting_for more) t ≡ None
none_met true t = refl
none_met false t = refl
