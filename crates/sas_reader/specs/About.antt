-- What a fault is about: the lines that were accepted before it, and the text at the fault.
use Rattle.std.specs.Prelude.{◌≡◌, ◌≢◌, ℕ, List, [], ◌∷◌, ◌++◌, ◌⊎◌}
use Rattle.sas_lines.specs.Lines.{without_return, lines, unfinished}
use Rattle.sas_reader.specs.declared.fault.Fault.{Fault}
use Rattle.sas_reader.specs.declared.fault.Kind.{Kind}
use Rattle.sas_reader.specs.declared.fault.Kind.TheVariants as kinds
use Rattle.sas_reader.specs.Texts.{Reads}
use Rattle.sas_reader.specs.Format.{Format, AreAllLines, MayFollow, FaultOf, EndOf}

-- a fault of this kind is about a text; one of kind `Read`, `TooLong` or `Memory` is not
abbrev pub ConcernsText : Kind → Type 0
ConcernsText k = (k ≢ kinds.Read) × (k ≢ kinds.TooLong) × (k ≢ kinds.Memory)

module _ {V I S : Type 0} (F : Format V I S) where
  -- what the fault of these bytes is about
  pub data IsAbout (limit : ℕ) (bytes : List ℕ) (f : Fault) (accepted : List (List ℕ))
      (text : List ℕ) : Type 0 where
    -- a complete line that may not follow the accepted lines
    of_line : (h : FaultOf F limit bytes f) → accepted ≡ lines h.before
        → lines (h.before ++ h.byte ∷ []) ≡ accepted ++ text ∷ []
        → (s : S) → MayFollow F accepted s → F.KindOf s text f.kind
        → IsAbout limit bytes f accepted text
    -- the byte after a whole text
    of_byte : (h : FaultOf F limit bytes f) → accepted ≡ lines h.before → text ≡ h.byte ∷ []
        → (v : V) → Reads F.texts h.before v → f.kind ≡ kinds.Trailing
        → IsAbout limit bytes f accepted text
    -- an early end: the text is what follows the last line end
    of_end : EndOf F limit bytes f → accepted ≡ lines bytes → text ≡ unfinished bytes
        → IsAbout limit bytes f accepted text

  -- The same, by what the fault of the bytes is about. They end early, and the accepted lines and
  -- the unfinished one, without a CR at its end, are all lines of some value.
  abbrev pub EndsUnended : Kind → List (List ℕ) → List ℕ → Type 0
  EndsUnended kind accepted text =
      (kind ≡ kinds.End) × AreAllLines F (accepted ++ without_return text ∷ [])

  -- laws
  pub record AboutLaws : Type 0 where
    -- a fault is about at most one text, and about at least one if its kind has a text
    pub one_about : (limit : ℕ) (bytes : List ℕ) (f : Fault) (a b : List (List ℕ)) (t u : List ℕ)
        → IsAbout limit bytes f a t → IsAbout limit bytes f b u → (a ≡ b) × (t ≡ u)
    pub some_about : (limit : ℕ) (bytes : List ℕ) (f : Fault) → ConcernsText f.kind
        → FaultOf F limit bytes f ⊎ EndOf F limit bytes f
        → (a : List (List ℕ)) × (t : List ℕ) × IsAbout limit bytes f a t
    -- more bytes after the fault don't change what it is about
    pub about_stays : (limit : ℕ) (bytes more : List ℕ) (f : Fault) (a : List (List ℕ)) (t : List ℕ)
        → FaultOf F limit bytes f → IsAbout limit bytes f a t → IsAbout limit (bytes ++ more) f a t
