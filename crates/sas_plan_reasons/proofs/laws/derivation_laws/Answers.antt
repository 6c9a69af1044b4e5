-- Each law is proved as a lemma.
use Rattle.sas_plan_reasons.proofs.Derivation.{no_circle, one_rule, some_rule, fires, looks_down}
use Rattle.sas_plan_reasons.proofs.Orders.{one_order, some_order}
use Rattle.sas_plan_reasons.proofs.Derivations.{some_derivation, one_derivation, no_derivation, own_is_last}
use Rattle.sas_plan_reasons.proofs.laws.derivation_laws.Goals as goal

pub returns : goal.returns
returns c = record {
  some_order = some_order;
  one_order = one_order;
  no_circle = λ p s order a b is. no_circle p s order is a b;
  some_rule = λ p s order layer var layered settled is. some_rule p s layered settled order is layer var;
  one_rule = λ p s order var a b is. one_rule p s order is var a b;
  fires = λ p s order var rule layered settled is. fires p s layered settled order is var rule;
  looks_down = λ p s order var rule layered settled is. looks_down p s layered settled order is var rule;
  some_derivation = some_derivation;
  one_derivation = one_derivation;
  none = no_derivation;
  own_last = own_is_last;
}
