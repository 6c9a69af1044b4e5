-- What a fault is about, for any format.
use Rattle.sas_reader.proofs.Imports.{◌≡◌, ◌≢◌, ℕ, List, [], ◌∷◌, ◌++◌, refl, sym, ap, ◌∙◌, same_from_push, ◌⊎◌, inl, inr, lines, unfinished, Fault, Format, KindAt, too_long, trailing, wrong, FaultOf, EndOf, Node, Grammar, IsAbout, of_line, of_byte, of_end, ConcernsText, AboutLaws}
use Rattle.sas_reader.specs.declared.fault.Kind.TheVariants as kinds
use Rattle.sas_reader.proofs.Live.{fault_stays}
use Rattle.sas_reader.proofs.Whole.{fault_is_dead, no_slot_at_end, one_place}

about_of : {V I S : Type 0} (F : Format V I S) (limit : ℕ) (bytes : List ℕ) (f : Fault) → f.kind ≢ kinds.TooLong → (h : FaultOf F limit bytes f) → KindAt F limit h.before h.byte f.kind → (a : List (List ℕ)) × (t : List ℕ) × IsAbout F limit bytes f a t
about_of F limit bytes f ne h (too_long l k) = absurd (ne k)
about_of F limit bytes f ne h (trailing l v r k) = (lines h.before, h.byte ∷ [], of_byte h refl refl v r k)
about_of F limit bytes f ne h (wrong l line e s n k) = (lines h.before, line, of_line h refl e s n k)

some_about : {V I S : Type 0} (F : Format V I S) (limit : ℕ) (bytes : List ℕ) (f : Fault) → ConcernsText f.kind → FaultOf F limit bytes f ⊎ EndOf F limit bytes f → (a : List (List ℕ)) × (t : List ℕ) × IsAbout F limit bytes f a t
some_about F limit bytes f reported (inl h) = about_of F limit bytes f reported.1 h h.kind
some_about F limit bytes f reported (inr h) = (lines bytes, unfinished bytes, of_end h refl refl)

module _ {T V I S : Type 0} (F : Format V I S) (Fits : I → Type 0) (node : T → Node T V I S) (start : T) (g : Grammar F Fits node start) where
  one_about : (limit : ℕ) (bytes : List ℕ) (f : Fault) (a b : List (List ℕ)) (t u : List ℕ) → IsAbout F limit bytes f a t → IsAbout F limit bytes f b u → (a ≡ b) × (t ≡ u)
  one_about limit bytes f a b t u (of_line h ha ht s n k) (of_line j ja jt r m l) =
      let p = one_place F Fits node start g limit bytes f h j in
      let front : h.before ++ h.byte ∷ [] ≡ j.before ++ j.byte ∷ [] = ap (λ (x : List ℕ). x ++ h.byte ∷ []) p.0 ∙ ap (λ (y : ℕ). j.before ++ y ∷ []) p.1 in
      same_from_push a b t u (sym ht ∙ ap lines front ∙ jt)
  one_about limit bytes f a b t u (of_line h ha ht s n k) (of_byte j ja jt v r l) =
      let p = one_place F Fits node start g limit bytes f h j in
      absurd (no_slot_at_end F Fits node start g a s v n r.good (sym r.lines ∙ ap lines (sym p.0) ∙ sym ha))
  one_about limit bytes f a b t u (of_byte j ja jt v r l) (of_line h ha ht s n k) =
      let p = one_place F Fits node start g limit bytes f h j in
      absurd (no_slot_at_end F Fits node start g b s v n r.good (sym r.lines ∙ ap lines (sym p.0) ∙ sym ha))
  one_about limit bytes f a b t u (of_byte h ha ht v r k) (of_byte j ja jt w q l) =
      let p = one_place F Fits node start g limit bytes f h j in
      (ha ∙ ap lines p.0 ∙ sym ja, ht ∙ ap (λ (x : ℕ). x ∷ []) p.1 ∙ sym jt)
  one_about limit bytes f a b t u (of_end h ha ht) (of_end j ja jt) = (ha ∙ sym ja, ht ∙ sym jt)
  one_about limit bytes f a b t u (of_end h ha ht) (of_line j ja jt s n k) = absurd (fault_is_dead F Fits node start g limit bytes f j h.live)
  one_about limit bytes f a b t u (of_end h ha ht) (of_byte j ja jt v r k) = absurd (fault_is_dead F Fits node start g limit bytes f j h.live)
  one_about limit bytes f a b t u (of_line j ja jt s n k) (of_end h ha ht) = absurd (fault_is_dead F Fits node start g limit bytes f j h.live)
  one_about limit bytes f a b t u (of_byte j ja jt v r k) (of_end h ha ht) = absurd (fault_is_dead F Fits node start g limit bytes f j h.live)

  pub about_stays : (limit : ℕ) (bytes more : List ℕ) (f : Fault) (a : List (List ℕ)) (t : List ℕ) → FaultOf F limit bytes f → IsAbout F limit bytes f a t → IsAbout F limit (bytes ++ more) f a t
  unfolding fault_stays
  about_stays limit bytes more f a t d (of_line h ha ht s n k) = of_line (fault_stays F limit bytes more f h) ha ht s n k
  about_stays limit bytes more f a t d (of_byte h ha ht v r k) = of_byte (fault_stays F limit bytes more f h) ha ht v r k
  about_stays limit bytes more f a t d (of_end h ha ht) = absurd (fault_is_dead F Fits node start g limit bytes f d h.live)

  pub about_laws_of : AboutLaws F
  about_laws_of = record { one_about = one_about; some_about = some_about F; about_stays = about_stays }
