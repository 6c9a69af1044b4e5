-- The conditions so far aren't on lower layers, and whether one is on the layer.
use Rattle.sas_axioms.proofs.Imports.{◌≡◌, ℕ, ◌<◌, true, get_or, Contains, Fact, rule_at, IsOnLayer}
use Rattle.sas_axioms.proofs.layer_rules.is_late.Given as goal

abbrev pub invariant-loop-condition : goal.invariant-loop-condition
invariant-loop-condition g l =
    let p = l.layered in
    let conditions = (rule_at p l.rule).conditions in
    record {
      stays : (j : ℕ) (d : Fact) → j < l.condition-index → (its : ℕ) → IsOnLayer p its (get_or conditions j d).var → its ≡ l.layer;
      waits : l.waits ≡ true → (c : Fact) × Contains conditions c × IsOnLayer p l.layer c.var;
    }
