-- Why a line may not stand in a task.
use Rattle.sas_task_file.proofs.Imports.{◌≡◌, ◌≢◌, ℕ, Bool, List, refl, sym, ap, subst, ◌∙◌, IsTrue, Option, decimal, Fact, Effect, IsNumber, IsSigned, signed_decimal, Kind, Shape, Value, Memory, IsOfBytes, TaskLine, number, signed, fact, effect, head, TaskSlot, number_slot, signed_slot, fact_slot, effect_slot, head_slot, task_slot, task_line_bytes, TaskLineFits, HasShape, NumbersKind, no_shape, IsOfLine, Spells, no_value, TaskKind, task_format, number_in, signed_in, fact_in, effect_in, head_in, IsRejected}
use Rattle.sas_task_file.proofs.Blocks.{number_is, signed_is, fact_is, effect_is, head_line, head_is}
use Rattle.sas_task_file.proofs.TaskLines.{one_task_line}

abbrev pub Refused : TaskSlot → (TaskLine → Bool) → List ℕ → Kind → Type 0
Refused slot ok line kind = IsOfLine kind × IsRejected task_format TaskLineFits slot ok line kind

shape_of_line : IsOfLine Shape
shape_of_line = ((λ e. cc, λ e. cc), λ e. cc)

value_of_line : IsOfLine Value
value_of_line = ((λ e. cc, λ e. cc), λ e. cc)

-- no line of the slot is spelled like this
refused_shape : (slot : TaskSlot) (ok : TaskLine → Bool) (line : List ℕ) → (NumbersKind slot line Shape → TaskKind slot line Shape) → (HasShape slot line → ⊥) → Refused slot ok line Shape
refused_shape slot ok line up none = (shape_of_line, record { none = λ i t e. none (i, t.slot, t.fits, e); kind = up (no_shape none) })

-- the only line of the slot with this spelling fails the test
refused_value : (i : TaskLine) (ok : TaskLine → Bool) (line : List ℕ) → (NumbersKind (task_slot i) line Value → TaskKind (task_slot i) line Value) → TaskLineFits i → task_line_bytes i ≡ line → (IsTrue (ok i) → ⊥) → Refused (task_slot i) ok line Value
refused_value i ok line up fits e fails = (
  value_of_line,
  record {
    none = λ j t b. fails (subst (λ x. IsTrue (ok x)) (one_task_line j i t.slot t.fits fits (b ∙ sym e)) t.good);
    kind = up (no_value (i, refl, fits, e));
  },
)

-- lines that are the same are spelled alike
spells_back : (i j : TaskLine) (line : List ℕ) → i ≡ j → TaskLineFits j → task_line_bytes j ≡ line → Spells i line
spells_back i j line q f e = (subst TaskLineFits (sym q) f, ap task_line_bytes q ∙ e)

-- no line of a slot is spelled like this if no value of it has such a line
no_line : {A : Type 0} (slot : TaskSlot) (into : A → TaskLine) (back : TaskLine → A) → ((i : TaskLine) → task_slot i ≡ slot → into (back i) ≡ i) → (line : List ℕ) → ((a : A) → Spells (into a) line → ⊥) → HasShape slot line → ⊥
no_line slot into back only line none (i, s, f, e) = none (back i) (spells_back (into (back i)) i line (only i s) f e)

module _ (ok : TaskLine → Bool) (line : List ℕ) where
  pub refused_number_shape : ((n : ℕ) → IsNumber n → line ≡ decimal n → ⊥) → Refused number_slot ok line Shape
  refused_number_shape none = refused_shape number_slot ok line (λ k. k) (no_line number_slot number number_in number_is line (λ n s. none n s.0 (sym s.1)))

  pub refused_number_value : (n : ℕ) → IsNumber n → line ≡ decimal n → (IsTrue (ok (number n)) → ⊥) → Refused number_slot ok line Value
  refused_number_value n fits e fails = refused_value (number n) ok line (λ k. k) fits (sym e) fails

  pub refused_signed_shape : ((n : Option ℕ) → IsSigned n → line ≡ signed_decimal n → ⊥) → Refused signed_slot ok line Shape
  refused_signed_shape none = refused_shape signed_slot ok line (λ k. k) (no_line signed_slot signed signed_in signed_is line (λ n s. none n s.0 (sym s.1)))

  pub refused_fact_shape : ((f : Fact) → Spells (fact f) line → ⊥) → Refused fact_slot ok line Shape
  refused_fact_shape none = refused_shape fact_slot ok line (λ k. k) (no_line fact_slot fact fact_in fact_is line none)

  pub refused_fact_value : (f : Fact) → Spells (fact f) line → (IsTrue (ok (fact f)) → ⊥) → Refused fact_slot ok line Value
  refused_fact_value f s fails = refused_value (fact f) ok line (λ k. k) s.0 s.1 fails

  pub refused_effect_shape : ((e : Effect) → Spells (effect e) line → ⊥) → Refused effect_slot ok line Shape
  refused_effect_shape none = refused_shape effect_slot ok line (λ k. k) (no_line effect_slot effect effect_in effect_is line none)

  pub refused_effect_value : (e : Effect) → Spells (effect e) line → (IsTrue (ok (effect e)) → ⊥) → Refused effect_slot ok line Value
  refused_effect_value e s fails = refused_value (effect e) ok line (λ k. k) s.0 s.1 fails

  pub refused_head_shape : ((var : ℕ) (old : Option ℕ) (new : ℕ) → Spells (head var old new) line → ⊥) → Refused head_slot ok line Shape
  refused_head_shape none = refused_shape head_slot ok line (λ k. k) (no_line head_slot head_line head_in head_is line (λ h s. none h.var h.old h.new s))

  pub refused_head_value : (var : ℕ) (old : Option ℕ) (new : ℕ) → Spells (head var old new) line → (IsTrue (ok (head var old new)) → ⊥) → Refused head_slot ok line Value
  refused_head_value var old new s fails = refused_value (head var old new) ok line (λ k. k) s.0 s.1 fails

-- the same for calls that may be out of memory
pub or_wants : {slot : TaskSlot} {ok : TaskLine → Bool} {line : List ℕ} {kind : Kind} → Refused slot ok line kind → IsOfBytes kind × (kind ≢ Memory → IsRejected task_format TaskLineFits slot ok line kind)
or_wants h = (h.0.0, λ m. h.1)
