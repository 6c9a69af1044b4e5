-- A format of lines: which byte lists can become texts of a value, and what is wrong with all
-- others.
use Rattle.std.specs.Prelude.{◌≡◌, ℕ, ◌<◌, ◌≤◌, ◌+◌, List, [], ◌∷◌, ◌++◌, length, map, ◌⊎◌, Result, Ok, Err}
use Rattle.sas_lines.specs.Lines.{lines, unfinished}
use Rattle.sas_reader.specs.Texts.{Texts, lines_of, Reads}
use Rattle.sas_reader.specs.declared.fault.Fault.{Fault}
use Rattle.sas_reader.specs.declared.fault.Kind.{Kind}
use Rattle.sas_reader.specs.declared.fault.Kind.TheVariants.{End, Trailing, TooLong}

-- A format for values V. Each line belongs to one of the slots S.
pub record Format (V I S : Type 0) : Type 1 where
  -- the texts of its values
  pub texts : Texts V I
  -- the slot to which a line belongs
  pub slot_of : I → S
  -- the kind of fault of a line that may not stand at a slot
  pub KindOf : S → List ℕ → Kind → Type 0

module _ {V I S : Type 0} (F : Format V I S) where
  -- the lines of some value begin with these lines
  abbrev pub IsBegun : List (List ℕ) → Type 0
  IsBegun begun = (v : V) × (more : List (List ℕ)) × F.texts.Good v
      × (lines_of F.texts v ≡ begun ++ more)

  -- these are all lines of some value
  abbrev pub AreAllLines : List (List ℕ) → Type 0
  AreAllLines ls = (v : V) × F.texts.Good v × (lines_of F.texts v ≡ ls)

  -- the bytes are a text of some value
  abbrev pub IsText : List ℕ → Type 0
  IsText bytes = (v : V) × Reads F.texts bytes v

  -- only a line end is missing: the bytes and an LF are a text
  abbrev pub LacksLineEnd : List ℕ → Type 0
  LacksLineEnd bytes = IsText (bytes ++ 10 ∷ [])

  -- No fault so far: the bytes are within the limit, some value's lines begin with their complete
  -- lines and, if these are all lines of a value, nothing follows. Otherwise anything may follow
  -- the last line end, until that line ends as well.
  pub record Live (limit : ℕ) (bytes : List ℕ) : Type 0 where
    pub short : length bytes ≤ limit
    pub begun : IsBegun (lines bytes)
    pub whole : (v : V) → F.texts.Good v → lines_of F.texts v ≡ lines bytes
        → unfinished bytes ≡ []

  -- after these lines some value has a line that belongs to the slot
  pub record MayFollow (begun : List (List ℕ)) (s : S) : Type 0 where
    pub value : V
    pub before : List I
    pub item : I
    pub more : List I
    pub good : F.texts.Good value
    pub layout : F.texts.layout value ≡ before ++ item ∷ more
    pub spells : map F.texts.spelled before ≡ begun
    pub slot : F.slot_of item ≡ s

  -- why the byte is a fault after these live bytes: it exceeds the limit; or it follows a whole
  -- text; or it completes a line that is not allowed there
  pub data KindAt (limit : ℕ) (bytes : List ℕ) (byte : ℕ) (kind : Kind) : Type 0 where
    too_long : limit < length bytes + 1 → kind ≡ TooLong → KindAt limit bytes byte kind
    trailing : length bytes + 1 ≤ limit → (v : V) → Reads F.texts bytes v → kind ≡ Trailing
        → KindAt limit bytes byte kind
    wrong : length bytes + 1 ≤ limit → (line : List ℕ)
        → lines (bytes ++ byte ∷ []) ≡ lines bytes ++ line ∷ []
        → (s : S) → MayFollow (lines bytes) s → F.KindOf s line kind → KindAt limit bytes byte kind

  -- the fault of bytes that aren't live: they are live before some byte but not with it, and the
  -- fault is on the line after those that were complete before this byte
  pub record FaultOf (limit : ℕ) (bytes : List ℕ) (f : Fault) : Type 0 where
    pub before : List ℕ
    pub byte : ℕ
    pub after : List ℕ
    pub whole : bytes ≡ before ++ byte ∷ after
    pub live : Live limit before
    pub dead : Live limit (before ++ byte ∷ []) → ⊥
    pub line : f.line ≡ length (lines before) + 1
    pub kind : KindAt limit before byte f.kind

  -- the fault at the end of bytes that are live but no text: they end early
  pub record EndOf (limit : ℕ) (bytes : List ℕ) (f : Fault) : Type 0 where
    pub live : Live limit bytes
    pub none : (v : V) → Reads F.texts bytes v → ⊥
    pub line : f.line ≡ length (lines bytes) + 1
    pub kind : f.kind ≡ End

  -- More bytes are expected within the piece: after some proper prefix of it, the bytes are live,
  -- no text, and below the limit.
  pub record MoreIsDue (limit : ℕ) (bytes piece : List ℕ) : Type 0 where
    pub front : List ℕ
    pub rest : List ℕ
    pub whole : piece ≡ front ++ rest
    pub some : 0 < length rest
    pub live : Live limit (bytes ++ front)
    pub none : (v : V) → Reads F.texts (bytes ++ front) v → ⊥
    pub room : length (bytes ++ front) < limit

  -- the result of reading the bytes: the value that they are a text of, or their fault
  abbrev pub ReadsAs : ℕ → List ℕ → Result V Fault → Type 0
  ReadsAs limit bytes (Ok v) = Reads F.texts bytes v × (length bytes ≤ limit)
  ReadsAs limit bytes (Err f) = FaultOf limit bytes f ⊎ EndOf limit bytes f
