-- Bytes that lack only a line end, by their lines.
use Rattle.sas_reader.proofs.Imports.{◌≡◌, ◌≢◌, ◌↔◌, ℕ, List, [], ◌∷◌, ◌++◌, sym, ◌∙◌, lines, unfinished, without_return, lines-end, unfinished-end, Fault, Kind, Format, AreAllLines, LacksLineEnd, EndsUnended, IsAbout, of_line, of_byte, of_end, FaultIsNoText}
use Rattle.sas_reader.specs.declared.fault.Kind.TheVariants as kinds

module _ {V I S : Type 0} (F : Format V I S) where
  -- the lines with the unfinished one are all lines of some value
  pub lacks_line_end : (bytes : List ℕ) (accepted : List (List ℕ)) (text : List ℕ) → accepted ≡ lines bytes → text ≡ unfinished bytes → LacksLineEnd F bytes ↔ AreAllLines F (accepted ++ without_return text ∷ [])
  lacks_line_end bytes accepted text a t =
      let ended : lines (bytes ++ 10 ∷ []) ≡ accepted ++ without_return text ∷ [] = rw (a, t) (lines-end bytes) in
      (λ (v, r). (v, r.good, sym r.lines ∙ ended), λ (v, good, e). (v, record { good = good; lines = ended ∙ sym e; rest = unfinished-end bytes }))

  -- what the fault of bytes is about tells whether they lack only a line end, where no wrong line has the kind of an early end
  pub ends_unended : FaultIsNoText F → ((s : S) (line : List ℕ) (k : Kind) → F.KindOf s line k → k ≢ kinds.End) → (limit : ℕ) (bytes : List ℕ) (f : Fault) (accepted : List (List ℕ)) (text : List ℕ) → f.kind ≢ kinds.TooLong → IsAbout F limit bytes f accepted text
      → LacksLineEnd F bytes ↔ EndsUnended F f.kind accepted text
  ends_unended no_text other limit bytes f accepted text short (of_line h ha ht s n k) =
      (λ (v, r). absurd (no_text limit bytes (10 ∷ []) f v h short r), λ (e, all). absurd (other s text f.kind k e))
  ends_unended no_text other limit bytes f accepted text short (of_byte h ha ht v r k) =
      (λ (w, q). absurd (no_text limit bytes (10 ∷ []) f w h short q), λ (e, all). absurd (let apart : kinds.Trailing ≡ kinds.End = sym k ∙ e in cc))
  ends_unended no_text other limit bytes f accepted text short (of_end h ha ht) =
      let same = lacks_line_end bytes accepted text ha ht in
      (λ lacks. (h.kind, same.0 lacks), λ (e, all). same.1 all)
