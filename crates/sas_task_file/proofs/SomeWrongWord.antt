-- If a fact, a head or an effect is expected, a refused line of its shape has a wrong number, which
-- the reason names.
use Rattle.sas_task_file.proofs.Imports.{ranges_of, ◌≡◌, ℕ, ◌≤◌, List, [], ◌∷◌, ◌++◌, length, length-append, map, refl, sym, ap, subst, ◌∙◌, inl, inr, arith, Option, Some, None, IsSome, eqb_tells, lines, unfinished, lines-plain, unfinished-end, Fault, Kind, lines_of, Format, IsBegun, KindAt, too_long, trailing, wrong, FaultOf, most_bytes, of_line, of_byte, of_end, Due, Mark, WrongWord, TaskSlot, word_slot, name_slot, number_slot, signed_slot, fact_slot, effect_slot, head_slot, task_slot, task_line_bytes, HasShape, NumbersKind, no_shape, no_value, TaskKind, task_texts, task_format, IsDue, slot_of_due, Bounded, first_wrong, line_bounds, IsFirstWrong, IsTaskReason, SpeaksOfFacts, SomeWrongWord, WrongWordIsNamed}
use Rattle.sas_reader.proofs.Paths.{map-append}
use Rattle.sas_reader.specs.declared.fault.Kind.TheVariants as kinds
use Rattle.sas_task_file.proofs.DueBehind.{belongs_behind, HasFacts, standing}
use Rattle.sas_task_file.proofs.MarkLaws.{one_due, some_due, one_wrong_word, same_ranges}
use Rattle.sas_task_file.proofs.MayStand.{goes_on}
use Rattle.sas_task_file.proofs.WrongWords.{AllStand, all_stand, HasBounds, same_bounds}

-- ---- a wrong number

has_bounds : (d : Due) → SpeaksOfFacts d → HasBounds (slot_of_due d)
has_bounds d (inl e) = subst HasFacts (sym e) tt
has_bounds d (inr (inl e)) = subst HasFacts (sym e) tt
has_bounds d (inr (inr e)) = subst HasFacts (sym e) tt

module _ (begun : List (List ℕ)) (line : List ℕ) (m : Mark) (d : IsDue begun m) (speaks : SpeaksOfFacts m.due) (shape : HasShape (slot_of_due m.due) line) (none : IsBegun task_format (begun ++ line ∷ []) → ⊥) where
  abbrev bounds : List Bounded
  bounds = line_bounds (ranges_of d.begins.0.variables) shape.0

  -- if all numbers were allowed, a task would begin with the lines and this line
  not_all : AllStand bounds → ⊥
  not_all all =
      let a = standing begun m d in
      let slot : slot_of_due m.due ≡ task_slot a.item = ap (λ (x : Mark). slot_of_due x.due) a.marked ∙ belongs_behind a.task a.good a.items a.item a.more a.layout in
      let has : HasBounds (task_slot a.item) = subst HasBounds slot (has_bounds m.due speaks) in
      let more : List (List ℕ) = map task_line_bytes (a.item ∷ a.more) in
      let whole : lines_of task_texts a.task ≡ begun ++ more = ap (map task_line_bytes) a.layout ∙ map-append task_line_bytes a.items (a.item ∷ a.more) ∙ ap (λ (x : List (List ℕ)). x ++ more) a.spells in
      let same : bounds ≡ line_bounds (ranges_of a.task.variables) shape.0 = same_bounds (ranges_of d.begins.0.variables) (ranges_of a.task.variables) (slot_of_due m.due) shape.0 shape.1 (same_ranges begun m d d.begins (a.task, more, a.good, whole)) in
      none (subst (λ (x : List ℕ). IsBegun task_format (begun ++ x ∷ [])) shape.3 (goes_on a.task a.good begun a.items a.item a.more a.layout a.spells has shape.0 (shape.1 ∙ slot) shape.2 (subst AllStand same all)))

  first_of : (r : Option WrongWord) → first_wrong 1 bounds ≡ r → (w : WrongWord) × IsFirstWrong begun m line (Some w)
  first_of None e = absurd (not_all (all_stand 1 bounds e))
  first_of (Some w) e = (w, record { due = d; shape = shape; first = sym e })

pub some_wrong_word : SomeWrongWord
some_wrong_word begun line m d speaks shape none = first_of begun line m d speaks shape none (first_wrong 1 (bounds begun line m d speaks shape none)) refl

-- ---- bytes whose last line is refused

longer : (ls : List (List ℕ)) (line : List ℕ) → ls ++ line ∷ [] ≡ ls → ⊥
longer ls line e = omega (arith, length-append ls (line ∷ []), ap length e)

-- the byte that completes a line is LF
completes : (bytes : List ℕ) (byte : ℕ) (line : List ℕ) → lines (bytes ++ byte ∷ []) ≡ lines bytes ++ line ∷ [] → byte ≡ 10
completes bytes byte line e =
    elim (eqb_tells byte 10) [
      | inl y ↦ y.1
      | inr n ↦ absurd (longer (lines bytes) line (sym e ∙ lines-plain bytes byte n.1))
    ]

module _ {V I S : Type 0} (F : Format V I S) (limit : ℕ) where
  short_enough : (bytes : List ℕ) (byte : ℕ) (kind : Kind) → KindAt F limit bytes byte kind → kind ≡ kinds.Value → length (bytes ++ byte ∷ []) ≤ limit
  short_enough bytes byte kind (too_long l k) e = absurd (let other : kinds.TooLong ≡ kinds.Value = sym k ∙ e in cc)
  short_enough bytes byte kind (trailing l v r k) e = omega (arith, length-append bytes (byte ∷ []))
  short_enough bytes byte kind (wrong l line is s n k) e = omega (arith, length-append bytes (byte ∷ []))

  -- no value's lines begin with these lines and a line with a wrong value
  none_begun : (bytes : List ℕ) (f : Fault) (h : FaultOf F limit bytes f) (begun : List (List ℕ)) (line : List ℕ) → f.kind ≡ kinds.Value → begun ≡ lines h.before → lines (h.before ++ h.byte ∷ []) ≡ begun ++ line ∷ [] → IsBegun F (begun ++ line ∷ []) → ⊥
  none_begun bytes f h begun line v a t b =
      let lf : h.byte ≡ 10 = completes h.before h.byte line (t ∙ ap (λ (x : List (List ℕ)). x ++ line ∷ []) a) in
      h.dead (record {
        short = short_enough h.before h.byte f.kind h.kind v;
        begun = subst (IsBegun F) (sym t) b;
        whole = λ w g e. ap (λ (x : ℕ). unfinished (h.before ++ x ∷ [])) lf ∙ unfinished-end h.before;
      })

-- ---- the reason names it

numbers_shape : (s : TaskSlot) (line : List ℕ) (k : Kind) → NumbersKind s line k → k ≡ kinds.Value → HasShape s line
numbers_shape s line k (no_shape h) v = absurd cc
numbers_shape s line k (no_value h) v = h

pub shape_of_value : (s : TaskSlot) (line : List ℕ) (k : Kind) → TaskKind s line k → k ≡ kinds.Value → HasShape s line
shape_of_value (word_slot w) line k h v = absurd (let other : kinds.Keyword ≡ kinds.Value = sym h ∙ v in cc)
shape_of_value name_slot line k h v = absurd (let other : kinds.Name ≡ kinds.Value = sym h ∙ v in cc)
shape_of_value number_slot line k h v = numbers_shape number_slot line k h v
shape_of_value signed_slot line k h v = numbers_shape signed_slot line k h v
shape_of_value fact_slot line k h v = numbers_shape fact_slot line k h v
shape_of_value effect_slot line k h v = numbers_shape effect_slot line k h v
shape_of_value head_slot line k h v = numbers_shape head_slot line k h v

named : (word : Option WrongWord) (w : WrongWord) → word ≡ Some w → IsSome word
named word w e = subst (λ (x : Option WrongWord). IsSome x) (sym e) refl

pub wrong_word_is_named : WrongWordIsNamed
wrong_word_is_named bytes f begun found m word (of_line h a t s n k) r v speaks =
    let reason : IsFirstWrong begun m found word = subst (λ (x : Kind). IsTaskReason x begun found m word) v r in
    let there = some_due begun s n in
    let slot : s ≡ slot_of_due m.due = sym there.2 ∙ ap (λ (x : Mark). slot_of_due x.due) (one_due begun there.0 m there.1 reason.due) in
    let shape : HasShape (slot_of_due m.due) found = subst (λ (x : TaskSlot). HasShape x found) slot (shape_of_value s found f.kind k v) in
    let some = some_wrong_word begun found m reason.due speaks shape (none_begun task_format most_bytes bytes f h begun found v a t) in
    named word some.0 (one_wrong_word begun m m found word (Some some.0) reason some.1)
wrong_word_is_named bytes f begun found m word (of_byte h a t x reads k) r v speaks = absurd (let other : kinds.Trailing ≡ kinds.Value = sym k ∙ v in cc)
wrong_word_is_named bytes f begun found m word (of_end h a t) r v speaks = absurd (let other : kinds.End ≡ kinds.Value = sym h.kind ∙ v in cc)
