-- Why a reader refuses the input at its end.
use Rattle.sas_reader.proofs.Imports.{Behavior, ◌≡◌, ℕ, ◌+◌, List, refl, sym, ap, subst, ◌∙◌, arith, inl, inr, Option, Some, None, Fault, Kind, unfinished, Excerpt, Reader, IsFoundOf, FaultIn, RefusedAtEnd}
use Rattle.sas_reader.specs.declared.fault.Kind.TheVariants as kinds
use Rattle.sas_reader.proofs.Standing.{accepted_of, fault_of}

module _ {M : Type 0} (B : Behavior M) where
  module _ (r : Reader M) (f : Fault) (found : Excerpt) (kept : (g : Fault) → r.fault ≡ Some g → (f ≡ g) × (found ≡ r.found)) (early : r.fault ≡ None → (B.ended r.machine → ⊥) × (f.line ≡ r.lines + 1) × (f.kind ≡ kinds.End)) (rest : r.fault ≡ None → IsFoundOf kinds.End r.pending.pending found) where
    refused_by : (o : Option Fault) → r.fault ≡ o → RefusedAtEnd B r (record { fault = f; machine = r.machine; found = found })
    refused_by (Some g) is =
        let k = kept g is in
        let there : r.fault ≡ Some f = is ∙ ap (λ (x : Fault). Some x) (sym k.0) in
        record {
          fault = λ ne bytes s. inl (subst (λ (x : Excerpt). FaultIn B r.limit bytes f r.machine x) (sym k.1) (fault_of B r f bytes there s ne));
          memory = λ _. there;
          read = λ _. there;
        }
    refused_by None is =
        let end = early is in
        record {
          fault = λ ne bytes s.
              let h = accepted_of B r bytes is s in
              inr (record {
                reached = h.reached;
                open_still = end.0;
                short = omega (arith, h.taken, r.within);
                line = end.1 ∙ ap (λ (n : ℕ). n + 1) h.lines;
                kind = end.2;
                rest = subst (λ (k : Kind). IsFoundOf k (unfinished bytes) found) (sym end.2) (subst (λ (x : List ℕ). IsFoundOf kinds.End x found) h.pending (rest is));
              });
          memory = λ e. let x : kinds.End ≡ kinds.Memory = sym end.2 ∙ e in absurd cc;
          read = λ e. let x : kinds.End ≡ kinds.Read = sym end.2 ∙ e in absurd cc;
        }

    pub refused_at_end : RefusedAtEnd B r (record { fault = f; machine = r.machine; found = found })
    refused_at_end = refused_by r.fault refl
