-- Inputs whose bytes are known: a refusal explains the fault of all their bytes.
use Rattle.sas_reader.proofs.Imports.{◌≡◌, ◌≢◌, ℕ, List, subst, Err, Option, Some, Consumes, IsAtEnd, Device, Fault, Excerpt, Refuses, unread_at, ended_at, faulty_at, Format, most_bytes, ConcernsText, IsAbout, AboutLaws, ExplainsRefusal, ReadsOrExplains}
use Rattle.sas_reader.specs.declared.fault.Kind.TheVariants as kinds
use Rattle.sas_reader.proofs.Known.{front_read, all_read}

known_about : {V I S : Type 0} (F : Format V I S) → AboutLaws F → (known new : Option (List ℕ)) (input bytes : List ℕ) (f : Fault) (a : List (List ℕ)) (t : List ℕ) → known ≡ Some input → Consumes known new bytes → Refuses F bytes (IsAtEnd new) f → f.kind ≢ kinds.Read → IsAbout F most_bytes bytes f a t → IsAbout F most_bytes input f a t
known_about F laws known new input bytes f a t e c (unread_at l n k) ne about = absurd (ne k)
known_about F laws known new input bytes f a t e c (ended_at d h) ne about = subst (λ (b : List ℕ). IsAbout F most_bytes b f a t) (all_read known new input bytes e c d) about
known_about F laws known new input bytes f a t e c (faulty_at h k) ne about =
    let r = front_read known new input bytes e c in
    subst (λ (b : List ℕ). IsAbout F most_bytes b f a t) r.1 (laws.about_stays most_bytes bytes r.0 f a t h about)

module _ {D V I S A R : Type 0} (left : D → Option (List ℕ)) (F : Format V I S) (fault : R → Fault) (found : R → Excerpt) (Why : List (List ℕ) → List ℕ → R → Type 0) (Gives : List ℕ → A → Type 0) where
  pub known_explained : (old new : Device D) (r : R) (input : List ℕ) → AboutLaws F → ReadsOrExplains F fault found Why left Gives old new (Err r) → left old.device ≡ Some input → ConcernsText (fault r).kind → ExplainsRefusal F fault found Why input r
  known_explained old new r input laws h known reported =
      let t = h.explained reported in
      let e = t.3 in
      record {
        accepted = e.accepted;
        text = e.text;
        about = known_about F laws (left old.device) (left new.device) input t.0 (fault r) e.accepted e.text known t.1 t.2 reported.0 e.about;
        kept = e.kept;
        why = e.why;
      }
