-- An option other than `--why` is refused.
use Rattle.std.proofs.Common.{◌≡◌, ◌∙◌, ◌⊎◌, ◌<◌, ◌||◌, ◌&&◌, ◌==◌, not, one-add, arith, get_or, inl, inr, IsUtf8, encode_utf8_all, is_some, ℕ, Bool, true, false, true≢false, cond, refl, sym, ap, subst, List, [], ◌∷◌, take, drop, length, encode_utf8, Option, Some, None, codes, eqb-true, bytes_eq, chars, slice_get, find, map, String, string_bytes}
use Rattle.std.specs.Prelude.{⊤}
use Rattle.std.specs.Option.{option_map_or}
use Rattle.std.specs.List.{list_any, before_first, position_or_len}
use Rattle.std.proofs.lemmas.Slice.Eq.{bytes_eq-Decides}
use Rattle.std.proofs.lemmas.Str.{IsCharBoundary-after_ascii, IsUtf8-drop, IsUtf8-string_bytes, encodes-chars}
use Rattle.clap.specs.Lexer.{long_of, short_of, has_byte}
use Rattle.clap.specs.Walk.{Held, Names, Rule, Text, arg_by_long, arg_by_short, has_long, has_short, subcommand_met, takes_values, attached_value, reacted}
use Rattle.clap.specs.Simple.{Shape, filled}
use Rattle.clap.specs.Faults.{turn_fault, other_fault, flags_fault, bundle_fault, bundle_step_fault, flag_word_fault, word_fault, long_fault, option_fault, short_fault, react_fault}
use Rattle.clap.specs.Kinds.{Kinds, or_else}
use Rattle.clap.specs.declared.error.kind.ErrorKind.TheVariants as kind
use Rattle.sas_words.specs.Grammar.{why_rule}
use Rattle.sas_words.specs.Usage.{is_option}
use Rattle.sas_words.proofs.Turns.{standing, waiting_for}

abbrev is_cons : {A : Type 0} → List A → Bool
is_cons [] = false
is_cons (x ∷ xs) = true

pub cons≢nil : {A : Type 0} (x : A) (xs : List A) → x ∷ xs ≡ [] → ⊥
cons≢nil x xs e = true≢false (ap is_cons e)

pub first : (a b : Kinds) → or_else a b ≡ [] → a ≡ []
first [] b e = refl
first (k ∷ ks) b e = e

pub second : (a b : Kinds) → or_else a b ≡ [] → b ≡ []
second [] b e = e
second (k ∷ ks) b e = absurd (cons≢nil k ks e)

-- ---- the rules of a command

abbrev pub why_here : Rule
why_here = filled why_rule

-- Of an argument of a command: it is a positional, or the flag for reasons, or it asks for help or for the version.
abbrev pub IsHarmless : Shape → Rule → Type 0
IsHarmless s a = (is_some a.index ≡ true) ⊎ (a ≡ why_here)
    ⊎ ((takes_values a ≡ false) × ((h : Held) → react_fault s.rules s.args_override_self a [] h ≡ [] → ⊥))

abbrev pub AreHarmless : Shape → List Rule → Type 0
AreHarmless s [] = ⊤
AreHarmless s (a ∷ rest) = IsHarmless s a × AreHarmless s rest

abbrev IsFound : Shape → (Rule → Bool) → Option Rule → Type 0
IsFound s p None = ⊤
IsFound s p (Some a) = IsHarmless s a × (p a ≡ true)

found : (s : Shape) (p : Rule → Bool) (rules : List Rule) → AreHarmless s rules → IsFound s p (find p rules)
found s p [] all = tt
found s p (a ∷ rest) all = go (p a) refl (found s p rest all.1)
  where
    go : (b : Bool) → p a ≡ b → IsFound s p (find p rest) → IsFound s p (cond b (Some a) (find p rest))
    go true e later = (all.0, e)
    go false e later = later

-- what a command makes of an option
abbrev named_by : (Rule → Bool) → Rule → Bool
named_by named a = not (is_some a.index) && named a

indexed_no : (named : Rule → Bool) (a : Rule) → is_some a.index ≡ true → named_by named a ≡ true → ⊥
indexed_no named a is e = true≢false (sym e ∙ ap (λ b. not b && named a) is)

or_false : (b : Bool) → b || false ≡ true → b ≡ true
or_false true e = refl
or_false false e = e

module _ (s : Shape) (all : AreHarmless s s.rules) (h : Held) where
  abbrev LongFault : Option Rule → Option Text → Kinds
  LongFault o v = long_fault s.rules s.args_override_self o v h

  why_alone : (v : Option Text) → LongFault (Some why_here) v ≡ [] → v ≡ None
  why_alone None e = refl
  why_alone (Some x) e = absurd (cons≢nil _ _ e)

  long_reacts : (a : Rule) (v : Option Text) → (react_fault s.rules s.args_override_self a [] h ≡ [] → ⊥)
      → cond false (option_fault s.rules s.args_override_self a v h)
      (cond (is_some v) (kind.TooManyValues ∷ []) (react_fault s.rules s.args_override_self a [] h)) ≡ [] → ⊥
  long_reacts a None reacts e = reacts e
  long_reacts a (Some x) reacts e = cons≢nil _ _ e

  pub long_no : (n : Text) (v : Option Text) → (codes "why" ≡ n → v ≡ None → ⊥) → LongFault (arg_by_long s.rules n) v ≡ [] → ⊥
  long_no n v other e = go (arg_by_long s.rules n) (found s (named_by (λ a. has_long a n)) s.rules all) e
    where
      go : (o : Option Rule) → IsFound s (named_by (λ a. has_long a n)) o → LongFault o v ≡ [] → ⊥
      go None is bad = cons≢nil _ _ bad
      go (Some a) (inl indexed, named) bad = indexed_no (λ b. has_long b n) a indexed named
      go (Some a) (inr (inl same), named) bad =
          let why : bytes_eq (codes "why") n || false ≡ true = subst (λ b. named_by (λ c. has_long c n) b ≡ true) same named in
          other ((bytes_eq-Decides (codes "why") n).0 (or_false _ why)) (why_alone v (subst (λ b. LongFault (Some b) v ≡ []) same bad))
      go (Some a) (inr (inr asks), named) bad = long_reacts a v (asks.1 h)
          (subst (λ b. cond b (option_fault s.rules s.args_override_self a v h)
          (cond (is_some v) (kind.TooManyValues ∷ []) (react_fault s.rules s.args_override_self a [] h)) ≡ []) asks.0 bad)

  pub short_no : (c : ℕ) (rest : Text) (next : Held → Kinds) → short_fault s.rules s.args_override_self (arg_by_short s.rules c) rest h next ≡ [] → ⊥
  short_no c rest next e = go (arg_by_short s.rules c) (found s (named_by (λ a. has_short a c)) s.rules all) e
    where
      go : (o : Option Rule) → IsFound s (named_by (λ a. has_short a c)) o → short_fault s.rules s.args_override_self o rest h next ≡ [] → ⊥
      go None is bad = cons≢nil _ _ bad
      go (Some a) (inl indexed, named) bad = indexed_no (λ b. has_short b c) a indexed named
      go (Some a) (inr (inl same), named) bad = true≢false (sym (subst (λ b. named_by (λ d. has_short d c) b ≡ true) same named))
      go (Some a) (inr (inr asks), named) bad = asks.1 h (first _ _ (subst (λ b. cond b (option_fault s.rules s.args_override_self a (attached_value rest) h)
          (or_else (react_fault s.rules s.args_override_self a [] h) (next (reacted s.rules a [] h))) ≡ []) asks.0 bad))

-- ---- the words

no_equals : (xs : Text) → list_any (λ x. x == 61) xs ≡ false → before_first (λ x. x == 61) xs ≡ xs
no_equals [] e = refl
no_equals (x ∷ xs) e = go (x == 61) refl (no_equals xs)
  where
    go : (b : Bool) → (x == 61) ≡ b → (list_any (λ y. y == 61) xs ≡ false → before_first (λ y. y == 61) xs ≡ xs)
        → before_first (λ y. y == 61) (x ∷ xs) ≡ x ∷ xs
    go true is below = absurd (true≢false (sym (ap (λ b. b || list_any (λ y. y == 61) xs) is) ∙ e))
    go false is below =
        let rest : list_any (λ y. y == 61) xs ≡ false = sym (ap (λ b. b || list_any (λ y. y == 61) xs) is) ∙ e in
        rw is (ap (λ n. take n (x ∷ xs)) (one-add (position_or_len (λ y. y == 61) xs)) ∙ ap (λ ys. x ∷ ys) (below rest))

-- what follows the hyphen of a short option has a first character
abbrev pub HasCharacter : Text → Type 0
HasCharacter [] = ⊤
HasCharacter (x ∷ rest) = x ≡ 45 → slice_get (chars rest) 0 ≡ None → rest ≡ []

abbrev pub HaveCharacters : List Text → Type 0
HaveCharacters [] = ⊤
HaveCharacters (v ∷ vs) = HasCharacter v × HaveCharacters vs

nothing : (cs : List ℕ) → slice_get cs 0 ≡ None → cs ≡ []
nothing [] e = refl
nothing (c ∷ cs) e = absurd (true≢false (ap is_some e))

-- a text has one
pub has_character : (word : Text) → IsUtf8 word → HasCharacter word
has_character [] u = tt
has_character (x ∷ rest) u = λ x-is none.
    let small : get_or (x ∷ rest) 0 0 < 128 = omega (arith, x-is) in
    let later : IsUtf8 rest = IsUtf8-drop (x ∷ rest) 1 u (IsCharBoundary-after_ascii (x ∷ rest) 0 u (omega (arith)) small) in
    sym (encodes-chars rest later) ∙ ap encode_utf8_all (nothing (chars rest) none)

pub characters : {Z : Type 0} (words : List (String Z)) → HaveCharacters (map string_bytes words)
characters [] = tt
characters (w ∷ ws) = (has_character (string_bytes w) (IsUtf8-string_bytes w), characters ws)

value_after : (b : Bool) (x : Text) → cond b (Some x) None ≡ None → b ≡ false
value_after true x e = absurd (true≢false (ap is_some e))
value_after false x e = refl

module _ (s : Shape) (all : AreHarmless s s.rules) (h : Held) where
  abbrev flag_fault : Text → Kinds
  flag_fault t = flag_word_fault s.rules s.args_override_self (long_of t) t h

  long_refused : (z : ℕ) (zs : Text) → bytes_eq (45 ∷ 45 ∷ z ∷ zs) (codes "--why") ≡ false → flag_fault (45 ∷ 45 ∷ z ∷ zs) ≡ [] → ⊥
  long_refused z zs other e = long_no s all h (before_first (λ x. x == 61) (z ∷ zs)) _ (λ is none.
      let whole = no_equals (z ∷ zs) (value_after (has_byte 61 (z ∷ zs)) _ none) in
      let same : codes "--why" ≡ 45 ∷ 45 ∷ z ∷ zs = ap (λ w. 45 ∷ 45 ∷ w) (is ∙ whole) in
      true≢false (sym ((bytes_eq-Decides (45 ∷ 45 ∷ z ∷ zs) (codes "--why")).1 (sym same)) ∙ other)) e

  short_refused : h ≡ record h { skip = 0 } → (y : ℕ) (rest : Text) → (y == 45) ≡ false → HasCharacter (45 ∷ y ∷ rest) → flag_fault (45 ∷ y ∷ rest) ≡ [] → ⊥
  unfolding flags_fault
  short_refused none_skipped y rest is has e =
      let no_long : long_of (45 ∷ y ∷ rest) ≡ None = rw is refl in
      let short : short_of (45 ∷ y ∷ rest) ≡ Some (y ∷ rest) = ap (λ b. cond b None (Some (y ∷ rest))) is in
      let bundled : option_map_or (λ flags. bundle_fault s.rules s.args_override_self flags h) (short_of (45 ∷ y ∷ rest)) [] ≡ [] =
      subst (λ o. flag_word_fault s.rules s.args_override_self o (45 ∷ y ∷ rest) h ≡ []) no_long e in
      let bundle : bundle_fault s.rules s.args_override_self (y ∷ rest) h ≡ [] =
      subst (λ o. option_map_or (λ flags. bundle_fault s.rules s.args_override_self flags h) o [] ≡ []) short bundled in
      let here : bundle_fault s.rules s.args_override_self (y ∷ rest) (record h { skip = 0 }) ≡ [] =
      subst (λ g. bundle_fault s.rules s.args_override_self (y ∷ rest) g ≡ []) none_skipped bundle in
      go (slice_get (chars (y ∷ rest)) 0) refl here
    where
      go : (o : Option ℕ) → slice_get (chars (y ∷ rest)) 0 ≡ o → bundle_fault s.rules s.args_override_self (y ∷ rest) (record h { skip = 0 }) ≡ [] → ⊥
      go None o-is b = cons≢nil y rest (has refl o-is)
      go (Some c) o-is b =
          short_no s all (record h { skip = 0 }) c (drop (length (encode_utf8 c)) (y ∷ rest))
          (flags_fault s.rules s.args_override_self (length rest) (drop (length (encode_utf8 c)) (y ∷ rest)) 0)
          (subst (λ o. bundle_step_fault s.rules s.args_override_self o (y ∷ rest) 0 (record h { skip = 0 })
          (flags_fault s.rules s.args_override_self (length rest)) ≡ []) o-is b)

  flag_refused : h ≡ record h { skip = 0 } → (t : Text) → is_option t ≡ true → bytes_eq t (codes "--") ≡ false → bytes_eq t (codes "--why") ≡ false → HasCharacter t
      → flag_fault t ≡ [] → ⊥
  flag_refused skip [] is d w has e = true≢false (sym is)
  flag_refused skip (x ∷ []) is d w has e = true≢false (sym is)
  flag_refused skip (x ∷ y ∷ rest) is d w has e = hyphen x (eqb-true x 45 is) d w has e
    where
      after : (b : Bool) (zs : Text) → (y == 45) ≡ b → bytes_eq (45 ∷ y ∷ zs) (codes "--") ≡ false → bytes_eq (45 ∷ y ∷ zs) (codes "--why") ≡ false
          → HasCharacter (45 ∷ y ∷ zs) → flag_fault (45 ∷ y ∷ zs) ≡ [] → ⊥
      after false zs y-is d' w' has' e' = short_refused skip y zs y-is has' e'
      after true [] y-is d' w' has' e' = true≢false (subst (λ b. b ≡ false) (rw y-is refl) d')
      after true (z ∷ zs) y-is d' w' has' e' =
          let y-45 : y ≡ 45 = eqb-true y 45 y-is in
          long_refused z zs (subst (λ v. bytes_eq (45 ∷ v ∷ z ∷ zs) (codes "--why") ≡ false) y-45 w')
          (subst (λ v. flag_fault (45 ∷ v ∷ z ∷ zs) ≡ []) y-45 e')

      hyphen : (v : ℕ) → v ≡ 45 → bytes_eq (v ∷ y ∷ rest) (codes "--") ≡ false → bytes_eq (v ∷ y ∷ rest) (codes "--why") ≡ false
          → HasCharacter (v ∷ y ∷ rest) → flag_fault (v ∷ y ∷ rest) ≡ [] → ⊥
      hyphen v v-is d' w' has' e' = after (y == 45) rest refl (subst (λ u. bytes_eq (u ∷ y ∷ rest) (codes "--") ≡ false) v-is d')
          (subst (λ u. bytes_eq (u ∷ y ∷ rest) (codes "--why") ≡ false) v-is w') (λ e. has' v-is)
          (subst (λ u. flag_fault (u ∷ y ∷ rest) ≡ []) v-is e')

-- a word that is an option, and no subcommand, is refused
pub option_refused : (s : Shape) → AreHarmless s s.rules → (names : Names) (more : Bool) (k : ℕ) (h : Held) → h ≡ record h { skip = 0 } → (t : Text)
    → subcommand_met names (waiting_for more) t ≡ None → is_option t ≡ true → bytes_eq t (codes "--") ≡ false → bytes_eq t (codes "--why") ≡ false → HasCharacter t
    → turn_fault s names (standing more k false h) t ≡ [] → ⊥
option_refused s all names more k h skip t met is d w has e =
    let refused : word_fault s names false (waiting_for more) t h ≡ [] = first _ _ e in
    let other : other_fault s None t h ≡ [] = subst (λ o. other_fault s o t h ≡ []) met refused in
    flag_refused s all h skip t is d w has (subst (λ b. cond b [] (flag_word_fault s.rules s.args_override_self (long_of t) t h) ≡ []) d other)
