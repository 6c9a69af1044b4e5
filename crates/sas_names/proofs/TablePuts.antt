-- The value of each name in a table after one value was put.
use Rattle.sas_names.proofs.Imports.{◌≡◌, ℕ, ◌≢◌, Bool, true, false, List, nat_eq, Option, None, Some, refl, sym, ap, subst, ◌∙◌, if◌then◌else◌, true≢false, BTreeMap, is_at, nat_eq_equiv, pointwise, slice_cmp, lists_equiv, bytes_decides, Vec, IsKeyTest, AreApart, KeepsOthers, eq_by_cmp, nat_cmp, eqb-true, eq-eqb, none-some, is_eq-slice_cmp, IndexMap, get, UpdatesBy, NameTable, digest_of, IsEmptyTable, Exist, PutsName, PutsDigest, PutsOther, value_of, other_of, own_else}
use Rattle.std.specs.BTreeMap as tree

-- ---- the two maps

-- different digests are different keys
digests_apart : (digest other : ℕ) → nat_eq digest other ≡ false → AreApart (nat_eq digest) (nat_eq other)
digests_apart digest other differs = λ key is.
    let same : digest ≡ key = eqb-true digest key is in
    subst (λ k. nat_eq other k ≡ false) same (nat_eq_equiv.symm other digest ∙ differs)

module _ {V S : Type 0} (m n : IndexMap ℕ V S) (value : V) where
  pub PutsDigest-write : (digest : ℕ) → UpdatesBy nat_eq (nat_eq digest) m n (Some value) → PutsDigest digest value m n
  unfolding KeepsOthers
  PutsDigest-write digest updates other = by (nat_eq digest other) refl
    where
      by : (b : Bool) → nat_eq digest other ≡ b
          → get nat_eq n other ≡ (if b then Some value else get nat_eq m other)
      by true is = ap (λ d. get nat_eq n d) (sym (eqb-true digest other is)) ∙ updates.1
      by false differs =
          updates.3 (nat_eq other) (nat_eq_equiv.congr other) (digests_apart digest other differs)

-- which keys equal this name
abbrev asks : List ℕ → Vec ℕ → Bool
asks name = is_at (λ key. slice_cmp nat_cmp name key.items)

asks-bytes : (name : List ℕ) (key : Vec ℕ) → asks name key ≡ pointwise nat_eq name key.items
asks-bytes name key = is_eq-slice_cmp name key.items

asks-tests : (name : List ℕ) → IsKeyTest (eq_by_cmp (λ (x y : Vec ℕ). slice_cmp nat_cmp x.items y.items)) (asks name)
asks-tests name = λ x y is.
    let same : name ≡ x.items = (bytes_decides name x.items).0 (sym (asks-bytes name x) ∙ is) in
    ap (λ bytes. asks bytes y) same

asks-apart : (name other : List ℕ) → pointwise nat_eq name other ≡ false → AreApart (asks name) (asks other)
asks-apart name other differs = λ key is.
    let same : name ≡ key.items = (bytes_decides name key.items).0 (sym (asks-bytes name key) ∙ is) in
    asks-bytes other key
    ∙ (ap (pointwise nat_eq other) (sym same) ∙ ((lists_equiv nat_eq_equiv).symm other name ∙ differs))

module _ {V : Type 0} (m n : BTreeMap (Vec ℕ) V) (key : Vec ℕ) (value : V) where
  pub PutsOther-write : tree.Updates (λ (x y : Vec ℕ). slice_cmp nat_cmp x.items y.items) m n key (Some value) → PutsOther key.items value m n
  unfolding KeepsOthers
  PutsOther-write updates other = by (pointwise nat_eq key.items other) refl
    where
      by : (b : Bool) → pointwise nat_eq key.items other ≡ b
          → other_of n other ≡ (if b then Some value else other_of m other)
      by true is = ap (other_of n) (sym ((bytes_decides key.items other).0 is)) ∙ updates.1
      by false differs =
          updates.3 (asks other) (asks-tests other) (asks-apart key.items other differs)

-- ---- the table

-- an empty table has no value
pub Exist-empty : {V : Type 0} (exists : V → Type 0) (table : NameTable V) → IsEmptyTable table → Exist exists table
Exist-empty exists table empty = λ digest value is. absurd (none-some value (sym (empty.first digest) ∙ is))

-- so no name has a value
pub value_of-empty : {V : Type 0} (names : V → List ℕ) (table : NameTable V) → IsEmptyTable table → (name : List ℕ) → value_of names table name ≡ None
value_of-empty names table empty name =
    ap (λ had. own_else names name had (other_of table.others name)) (empty.first (digest_of name)) ∙ empty.others name

module _ {V : Type 0} (names : V → List ℕ) (value : V) (old new : NameTable V) where
  abbrev own : List ℕ
  own = names value

  -- the digest has a value of this name, or none
  abbrev pub IsFree : Option V → Type 0
  IsFree None = Unit {0}
  IsFree (Some k) = names k ≡ own

  -- the digest has a value of another name, or none
  abbrev pub IsAnothers : Option V → Type 0
  IsAnothers None = Unit {0}
  IsAnothers (Some k) = names k ≢ own

  -- other names aren't found at a digest that is free
  passed : (other : List ℕ) → own ≢ other → (had : Option V) → IsFree had → (d : Option V) → own_else names other had d ≡ d
  passed other apart None free d = refl
  passed other apart (Some k) free d = by (pointwise nat_eq (names k) other) refl
    where
      by : (b : Bool) → pointwise nat_eq (names k) other ≡ b → (if b then Some k else d) ≡ d
      by true is = absurd (apart (sym free ∙ (bytes_decides (names k) other).0 is))
      by false is = refl

  found : (d : Option V) → own_else names own (Some value) d ≡ Some value
  found d = ap (λ b. if b then Some value else d) ((bytes_decides own own).1 refl)

  not_found : (had : Option V) → IsAnothers had → (d : Option V) → own_else names own had d ≡ d
  not_found None others d = refl
  not_found (Some k) others d = by (pointwise nat_eq (names k) own) refl
    where
      by : (b : Bool) → pointwise nat_eq (names k) own ≡ b → (if b then Some k else d) ≡ d
      by true is = absurd (others ((bytes_decides (names k) own).0 is))
      by false is = refl

  -- into the map of digests
  pub Puts-digest : IsFree (get nat_eq old.first (digest_of own)) → PutsDigest (digest_of own) value old.first new.first
      → new.others ≡ old.others → PutsName names value old new
  Puts-digest free puts same other = by (pointwise nat_eq own other) refl
    where
      rest : Option V
      rest = other_of old.others other

      now : value_of names new other ≡ own_else names other (get nat_eq new.first (digest_of other)) rest
      now = ap (λ others. own_else names other (get nat_eq new.first (digest_of other)) (other_of others other)) same

      by_digest : own ≢ other → (b : Bool) → nat_eq (digest_of own) (digest_of other) ≡ b
          → own_else names other (if b then Some value else get nat_eq old.first (digest_of other)) rest ≡ value_of names old other
      by_digest apart true is =
          passed other apart (Some value) refl rest
          ∙ sym (passed other apart (get nat_eq old.first (digest_of other)) (subst (λ d. IsFree (get nat_eq old.first d)) (eqb-true (digest_of own) (digest_of other) is) free) rest)
      by_digest apart false is = refl

      by : (b : Bool) → pointwise nat_eq own other ≡ b → value_of names new other ≡ (if b then Some value else value_of names old other)
      by true is =
          let same_name : own ≡ other = (bytes_decides own other).0 is in
          subst (λ name. value_of names new name ≡ Some value) same_name
          (ap (λ had. own_else names own had (other_of new.others own))
          (puts (digest_of own) ∙ ap (λ b. if b then Some value else get nat_eq old.first (digest_of own)) (eq-eqb (digest_of own) (digest_of own) refl))
          ∙ found (other_of new.others own))
      by false differs =
          let apart : own ≢ other = λ same_name. true≢false (sym ((bytes_decides own other).1 same_name) ∙ differs) in
          now ∙ (ap (λ had. own_else names other had rest) (puts (digest_of other))
          ∙ by_digest apart (nat_eq (digest_of own) (digest_of other)) refl)

  -- into the ordered map
  pub Puts-other : IsAnothers (get nat_eq old.first (digest_of own)) → PutsOther own value old.others new.others
      → new.first ≡ old.first → PutsName names value old new
  Puts-other others puts same other = by (pointwise nat_eq own other) refl
    where
      now : value_of names new other ≡ own_else names other (get nat_eq old.first (digest_of other)) (other_of new.others other)
      now = ap (λ first. own_else names other (get nat_eq first (digest_of other)) (other_of new.others other)) same

      by : (b : Bool) → pointwise nat_eq own other ≡ b → value_of names new other ≡ (if b then Some value else value_of names old other)
      by true is =
          let same_name : own ≡ other = (bytes_decides own other).0 is in
          subst (λ name. value_of names new name ≡ Some value) same_name
          (ap (λ first. own_else names own (get nat_eq first (digest_of own)) (other_of new.others own)) same
          ∙ (not_found (get nat_eq old.first (digest_of own)) others (other_of new.others own)
          ∙ (puts own ∙ ap (λ b. if b then Some value else other_of old.others own) ((bytes_decides own own).1 refl))))
      by false differs =
          now ∙ ap (own_else names other (get nat_eq old.first (digest_of other)))
          (puts other ∙ ap (λ b. if b then Some value else other_of old.others other) differs)
