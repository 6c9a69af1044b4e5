-- Inputs whose bytes are known: the bytes read are all of them, or the first of them.
use Rattle.sas_reader.proofs.Imports.{◌≡◌, ◌≢◌, ℕ, List, ◌++◌, sym, ap, subst, ◌∙◌, inl, inr, Ok, Err, Option, Some, None, Consumes, IsAtEnd, append-nil, Device, Fault, Refuses, unread_at, ended_at, faulty_at, ReadsAll, Format, FaultOf, EndOf, ReadsAs, most_bytes}
use Rattle.sas_reader.specs.declared.fault.Kind.TheVariants as kinds
use Rattle.sas_reader.proofs.Live.{fault_stays}

-- the bytes read are the first of them
pub front_read : (known new : Option (List ℕ)) (input bytes : List ℕ) → known ≡ Some input → Consumes known new bytes → (rest : List ℕ) × (bytes ++ rest ≡ input)
front_read None new input bytes e c = absurd cc
front_read (Some x) None input bytes e c = absurd c
front_read (Some x) (Some rest) input bytes e c = (rest, sym c ∙ (let q : x ≡ input = cc in q))

-- at the end, they are all of them
pub all_read : (known new : Option (List ℕ)) (input bytes : List ℕ) → known ≡ Some input → Consumes known new bytes → IsAtEnd new → bytes ≡ input
all_read None new input bytes e c d = absurd cc
all_read (Some x) None input bytes e c d = absurd c
all_read (Some x) (Some rest) input bytes e c d = sym (append-nil bytes) ∙ ap (λ (y : List ℕ). bytes ++ y) (sym d) ∙ sym c ∙ (let q : x ≡ input = cc in q)

known_refusal : {V I S : Type 0} (F : Format V I S) (known new : Option (List ℕ)) (input bytes : List ℕ) (f : Fault) → known ≡ Some input → Consumes known new bytes → Refuses F bytes (IsAtEnd new) f → f.kind ≢ kinds.Read → ReadsAs F most_bytes input (Err f)
known_refusal F known new input bytes f e c (unread_at l n k) ne = absurd (ne k)
known_refusal F known new input bytes f e c (ended_at d h) ne = inr (subst (λ (b : List ℕ). EndOf F most_bytes b f) (all_read known new input bytes e c d) h)
known_refusal F known new input bytes f e c (faulty_at h k) ne = let r = front_read known new input bytes e c in inl (subst (λ (b : List ℕ). FaultOf F most_bytes b f) r.1 (fault_stays F most_bytes bytes r.0 f h))

module _ {D V I S A : Type 0} (left : D → Option (List ℕ)) (F : Format V I S) (Gives : List ℕ → A → Type 0) where
  -- the answer is right for them
  pub known_answer : (old new : Device D) (a : A) (input : List ℕ) → ReadsAll left F Gives old new (Ok a) → left old.device ≡ Some input → Gives input a
  known_answer old new a input h known = let r = h.read in subst (λ (b : List ℕ). Gives b a) (all_read (left old.device) (left new.device) input r.0 known r.1.0 r.1.1) r.2

  -- the fault is theirs
  pub known_fault : (old new : Device D) (f : Fault) (input : List ℕ) → ReadsAll left F Gives old new (Err f) → left old.device ≡ Some input → f.kind ≢ kinds.Memory → f.kind ≢ kinds.Read → ReadsAs F most_bytes input (Err f)
  known_fault old new f input h known memory read = let r = h.fault memory in known_refusal F (left old.device) (left new.device) input r.0 f known r.1 r.2 read
