-- A task has an answer about its layers, and only one.
use Rattle.sas_answers.proofs.Imports.{◌≡◌, ℕ, ◌+◌, Bool, true, false, if◌then◌else◌, List, [], ◌∷◌, ◌++◌, flat_map, codes, refl, ap, Option, Some, enumerate_from, Operator, Effect, Parts, Check, first_fault, check, LayerFault, can_fire, IsLayered, effect_layer_checks, operator_layer_checks, firing_checks, rule_layer_checks, layer_checks, checks_are_rules, Yes, Output, layers_refusal, layers_verdict, CheckAnswer}
use Rattle.sas_answers.proofs.AnswerLaws.{OneAnswer, SomeAnswer}

-- a layered task is said to be so
pub layered_answer : (p : Parts) → IsLayered p → CheckAnswer p (record { text = codes "task layered\n"; status = Yes })
layered_answer p layered = ap layers_verdict ((checks_are_rules p).1 layered)

pub one_check_answer : OneAnswer CheckAnswer
one_check_answer p a b is_a is_b = cc

-- there is an answer for this first fault, or for none
record IsAnswered (first : Option LayerFault) : Type 0 where
  pub output : Output
  pub is : layers_verdict first ≡ Some output

-- there is one for the first fault of these checks
record IsAnsweredOf (row : List (Check LayerFault)) : Type 0 where
  pub answered : IsAnswered (first_fault row)

answered_check : (passes : Bool) (fault : LayerFault) (output : Output) → layers_refusal fault ≡ Some output → IsAnsweredOf (check passes fault)
answered_check true fault output is = record { answered = record { output = _; is = refl } }
answered_check false fault output is = record { answered = record { output = output; is = is } }

answered_behind : (passes : Bool) (fault : LayerFault) (first both : Option LayerFault) → (IsAnswered first → IsAnswered both) → IsAnswered (if passes then first else Some fault) → IsAnswered (if passes then both else Some fault)
answered_behind true fault first both join answered = join answered
answered_behind false fault first both join answered = answered

answered_first_of_both : (a b : List (Check LayerFault)) → IsAnswered (first_fault b) → IsAnswered (first_fault a) → IsAnswered (first_fault (a ++ b))
answered_first_of_both [] b answered_b answered_a = answered_b
answered_first_of_both (c ∷ a) b answered_b answered_a = answered_behind c.passes c.fault (first_fault a) (first_fault (a ++ b)) (answered_first_of_both a b answered_b) answered_a

answered_both : (a b : List (Check LayerFault)) → IsAnsweredOf a → IsAnsweredOf b → IsAnsweredOf (a ++ b)
answered_both a b first second = record { answered = answered_first_of_both a b second.answered first.answered }

answered_none : IsAnsweredOf []
answered_none = record { answered = record { output = _; is = refl } }

answered_if : (asked : Bool) (row : List (Check LayerFault)) → IsAnsweredOf row → IsAnsweredOf (if asked then row else [])
answered_if true row answered = answered
answered_if false row answered = answered_none

answered_numbered : {A : Type 0} (checks_of : ℕ → A → List (Check LayerFault)) → ((place : ℕ) (item : A) → IsAnsweredOf (checks_of place item)) → (n : ℕ) (items : List A) → IsAnsweredOf (flat_map (λ (place, item). checks_of place item) (enumerate_from n items))
answered_numbered checks_of each n [] = answered_none
answered_numbered checks_of each n (item ∷ items) = answered_both (checks_of n item) _ (each n item) (answered_numbered checks_of each (n + 1) items)

module _ (p : Parts) where
  answered_operator : (place : ℕ) (o : Operator) → IsAnsweredOf (operator_layer_checks p place o)
  answered_operator place o = answered_numbered (effect_layer_checks p place) (λ effect e. answered_check _ _ _ refl) 0 o.effects

  answered_firing : (place : ℕ) (rule : Effect) → IsAnsweredOf (firing_checks p place rule)
  answered_firing place rule = answered_both _ _ (answered_check _ _ _ refl) (answered_both _ _ (answered_check _ _ _ refl) (answered_numbered _ (λ condition c. answered_check _ _ _ refl) 0 rule.conditions))

  answered_rule : (place : ℕ) (rule : Effect) → IsAnsweredOf (rule_layer_checks p place rule)
  answered_rule place rule = answered_both _ _ (answered_check _ _ _ refl) (answered_if (can_fire p rule) _ (answered_firing place rule))

  answered_layers : IsAnsweredOf (layer_checks p)
  answered_layers = answered_both _ _ (answered_numbered (operator_layer_checks p) answered_operator 0 p.operators) (answered_numbered (rule_layer_checks p) answered_rule 0 p.rules)

pub some_check_answer : SomeAnswer CheckAnswer
some_check_answer p none = let answered = (answered_layers p).answered in none answered.output answered.is
