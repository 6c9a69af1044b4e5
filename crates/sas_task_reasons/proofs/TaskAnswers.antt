-- A task has an answer with reasons, and only one; and how the answer comes about.
use Rattle.sas_task_reasons.proofs.Imports.{arith, ◌≡◌, [], refl, sym, ap, subst, Option, Some, None, option_map, none-some, Parts, first_fault, LayerFault, Memory, layer_checks, IsLayered, checks_are_rules, Output, layers_refusal, layers_verdict, OneAnswer, SomeAnswer, some_check_answer, reasons_text, WhyGroupsAnswer, layer_reasons, with_reasons, why_refusal, WhyAnswer, WhyCheckAnswer, WhyMutexAnswer}
use Rattle.sas_task_reasons.proofs.GroupAnswers.{one_groups_answer, some_groups_answer}

-- the same refusal, with reasons behind
pub refused_why : (p : Parts) (fault : LayerFault) (o : Output) → layers_refusal fault ≡ Some o → why_refusal p fault ≡ Some (with_reasons (reasons_text p [] (layer_reasons p fault)) o)
refused_why p fault o is = ap (option_map (with_reasons (reasons_text p [] (layer_reasons p fault)))) is

module _ (p : Parts) (IsAnswer : Output → Type 0) where
  one_by : ((a b : Output) → IsAnswer a → IsAnswer b → a ≡ b) → (first : Option LayerFault) (a b : Output) → WhyAnswer p IsAnswer first a → WhyAnswer p IsAnswer first b → a ≡ b
  one_by one h1 a b is_a is_b = grind arith

  some_by : (((o : Output) → IsAnswer o → ⊥) → ⊥) → (first : Option LayerFault) → first_fault (layer_checks p) ≡ first → ((o : Output) → WhyAnswer p IsAnswer first o → ⊥) → ⊥
  some_by some (Some fault) is none =
      some_check_answer p (λ o is_answer.
      let refused = subst (λ (f : Option LayerFault). layers_verdict f ≡ Some o) is is_answer in none _ (refused_why p fault o refused))
  some_by some None is none = some none

abbrev IsLayeredAnswer : Output → Type 0
IsLayeredAnswer o = layers_verdict None ≡ Some o

one_layered : (a b : Output) → IsLayeredAnswer a → IsLayeredAnswer b → a ≡ b
one_layered a b is_a is_b = cc

pub one_why_check : OneAnswer WhyCheckAnswer
one_why_check p = one_by p IsLayeredAnswer one_layered (first_fault (layer_checks p))

pub some_why_check : SomeAnswer WhyCheckAnswer
some_why_check p = some_by p IsLayeredAnswer (λ none. none _ refl) (first_fault (layer_checks p)) refl

-- ---- the mutex groups

pub one_why_mutex : OneAnswer WhyMutexAnswer
one_why_mutex p = one_by p (WhyGroupsAnswer p) (one_groups_answer p) (first_fault (layer_checks p))

pub some_why_mutex : SomeAnswer WhyMutexAnswer
some_why_mutex p = some_by p (WhyGroupsAnswer p) (some_groups_answer p) (first_fault (layer_checks p)) refl

-- ---- how the answers come about

module _ (p : Parts) (o : Output) where
  of_layered : (IsAnswer : Output → Type 0) → IsLayered p → IsAnswer o → WhyAnswer p IsAnswer (first_fault (layer_checks p)) o
  of_layered IsAnswer layered is = subst (λ (first : Option LayerFault). WhyAnswer p IsAnswer first o) (sym ((checks_are_rules p).1 layered)) is

  pub check_layered : IsLayered p → layers_verdict None ≡ Some o → WhyCheckAnswer p o
  check_layered = of_layered IsLayeredAnswer

  pub groups_layered : IsLayered p → WhyGroupsAnswer p o → WhyMutexAnswer p o
  groups_layered = of_layered (WhyGroupsAnswer p)

  module _ (fault : LayerFault) (is_answer : why_refusal p fault ≡ Some o) where
    -- it is a fault of the task
    pub not_memory : fault ≡ Memory → ⊥
    not_memory is = none-some o (subst (λ (f : LayerFault). why_refusal p f ≡ Some o) is is_answer)

    of_fault : (IsAnswer : Output → Type 0) → first_fault (layer_checks p) ≡ Some fault → WhyAnswer p IsAnswer (first_fault (layer_checks p)) o
    of_fault IsAnswer first = subst (λ (f : Option LayerFault). WhyAnswer p IsAnswer f o) (sym first) is_answer

    pub check_refused : first_fault (layer_checks p) ≡ Some fault → WhyCheckAnswer p o
    check_refused = of_fault IsLayeredAnswer

    pub groups_refused : first_fault (layer_checks p) ≡ Some fault → WhyMutexAnswer p o
    groups_refused = of_fault (WhyGroupsAnswer p)
