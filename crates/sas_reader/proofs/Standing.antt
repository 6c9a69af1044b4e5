-- What a reader represents, by its fault.
use Rattle.sas_reader.proofs.Imports.{Behavior, ◌≡◌, ◌≢◌, ℕ, List, [], ◌++◌, sym, subst, Some, None, Fault, Reader, Accepted, FaultIn, Stands, StandsAt}
use Rattle.sas_reader.specs.declared.fault.Kind.TheVariants as kinds
use Rattle.sas_reader.proofs.Pieces.{fault_wider}

module _ {M : Type 0} (B : Behavior M) where
  pub accepted_of : (r : Reader M) (bytes : List ℕ) → r.fault ≡ None → Stands B r bytes → Accepted B r bytes
  unfolding Stands
  accepted_of r bytes e s = subst (λ x. StandsAt B x r bytes) e s

  pub stands_accepted : (r : Reader M) (bytes : List ℕ) → r.fault ≡ None → Accepted B r bytes → Stands B r bytes
  unfolding Stands
  stands_accepted r bytes e s = subst (λ x. StandsAt B x r bytes) (sym e) s

  pub fault_of : (r : Reader M) (f : Fault) (bytes : List ℕ) → r.fault ≡ Some f → Stands B r bytes → f.kind ≢ kinds.Memory → FaultIn B r.limit bytes f r.machine r.found
  unfolding Stands
  fault_of r f bytes e s = subst (λ x. StandsAt B x r bytes) e s

  pub stands_fault : (r : Reader M) (f : Fault) (bytes : List ℕ) → r.fault ≡ Some f → (f.kind ≢ kinds.Memory → FaultIn B r.limit bytes f r.machine r.found) → Stands B r bytes
  unfolding Stands
  stands_fault r f bytes e s = subst (λ x. StandsAt B x r bytes) (sym e) s

  -- more bytes don't change a fault
  pub stands_more : (r : Reader M) (f : Fault) (bytes more : List ℕ) → r.fault ≡ Some f → Stands B r bytes → Stands B r (bytes ++ more)
  stands_more r f bytes more e s = stands_fault r f (bytes ++ more) e (λ ne. fault_wider B r.limit [] bytes more f r.machine r.found (fault_of r f bytes e s ne))
