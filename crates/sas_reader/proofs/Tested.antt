-- The results of a reader's tests, and of its calls that fail.
use Rattle.sas_reader.proofs.Imports.{Behavior, ◌≡◌, ℕ, ◌<◌, ◌∙◌, Bool, true, false, List, [], length, eqb, sym, ap, subst, arith, Result, Ok, Err, IfOk, IsErr, IsErrAnd, eqb-true, eqb-false, false≢true, nil_from_length, append-nil, Progress, Kind, Reader, Reached, Accepted, TookFront, TakesFrontOrStops}
use Rattle.sas_reader.specs.declared.fault.Kind.TheVariants as kinds
use Rattle.sas_reader.proofs.Advancing.{stopped_memory}

-- a list that was tested for emptiness
pub nil_when : (xs : List ℕ) (b : Bool) → b ≡ eqb (length xs) 0 → b ≡ true → xs ≡ []
nil_when xs b is e = nil_from_length xs (eqb-true (length xs) 0 (sym is ∙ e))

pub some_when : (xs : List ℕ) (b : Bool) → b ≡ eqb (length xs) 0 → b ≡ false → 0 < length xs
some_when xs b is e = let apart = eqb-false (length xs) 0 (sym is ∙ e) in omega (arith, apart)

-- an error has no value
pub err_only : {A E : Type 0} (P : A → Type 0) (r : Result A E) → IsErr r → IfOk r P
err_only P (Ok x) h = absurd (false≢true h)
err_only P (Err e) h = tt

-- an error that is passed on is this one
pub err_is : {A E : Type 0} (r : Result A E) (e : E) → IsErr r → IsErrAnd r (λ x. x ≡ e) → r ≡ Err e
err_is (Ok x) e h is = absurd (false≢true h)
err_is (Err x) e h is = ap (λ y. Err y) is

-- and so it is `Memory` if this one is
pub memory_is : {A : Type 0} (r : Result A Kind) (e : Kind) → e ≡ kinds.Memory → IsErrAnd r (λ x. x ≡ e) → IsErrAnd r (λ x. x ≡ kinds.Memory)
memory_is (Ok x) e m is = is
memory_is (Err x) e m is = is ∙ m

module _ {M : Type 0} (B : Behavior M) where
  -- the reader is out of memory while a line is expected
  pub advances_refused : (old new : Reader M) (piece : List ℕ) (r : Result ℕ Kind) → IsErr r → IsErrAnd r (λ k. k ≡ kinds.Memory) → 0 < length piece → (B.ended old.machine → ⊥) → old.taken < old.limit
      → new.fault ≡ old.fault → new.limit ≡ old.limit → TakesFrontOrStops B old piece new r
  advances_refused old new piece (Ok n) is k some going room fault limit = absurd (false≢true is)
  advances_refused old new piece (Err e) is k some going room fault limit = record {
    took = tt;
    stopped = stopped_memory B old new piece e some going room k;
    fault = fault;
    limit = limit;
  }

  -- nothing was taken, and everything relevant is unchanged
  pub took_nothing : (old new : Reader M) (piece : List ℕ) → new.machine ≡ old.machine → new.pending ≡ old.pending → new.lines ≡ old.lines → new.taken ≡ old.taken → TookFront B old new piece 0
  took_nothing old new piece machine pending lines taken = record {
    within = omega arith;
    count = omega (arith, taken);
    accepted = λ bytes h. subst (Accepted B new) (sym (append-nil bytes)) (record {
      reached = subst (λ (m : M). Reached B m bytes) (sym machine) h.reached;
      pending = ap (λ (p : Progress). p.pending) pending ∙ h.pending;
      lines = lines ∙ h.lines;
      taken = taken ∙ h.taken;
    });
  }
