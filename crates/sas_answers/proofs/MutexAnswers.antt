-- A task has an answer about its mutex groups, and only one; and how the answer comes about.
use Rattle.sas_answers.proofs.Imports.{◌≡◌, List, refl, sym, ap, subst, ◌∙◌, Option, Some, None, Parts, first_fault, LayerFault, IsLayered, layer_checks, checks_are_rules, text, Verdict, one_list, some_list, Output, verdict_lines, groups_status, GroupsAnswer, LayeredGroupsAnswer, MutexAnswer}
use Rattle.sas_answers.proofs.AnswerLaws.{OneAnswer, SomeAnswer}
use Rattle.sas_answers.proofs.CheckAnswers.{some_check_answer}

-- ---- one answer, and some

one_of : (p : Parts) (first : Option LayerFault) (a b : Output) → LayeredGroupsAnswer p first a → LayeredGroupsAnswer p first b → a ≡ b
one_of p (Some fault) a b is_a is_b = cc
one_of p None a b is_a is_b = is_a.2 ∙ ap (λ (verdicts : List Verdict). record { text = text (verdict_lines verdicts); status = groups_status verdicts }) (one_list p is_a.0 is_b.0 is_a.1 is_b.1) ∙ sym is_b.2

pub one_mutex_answer : OneAnswer MutexAnswer
one_mutex_answer p a b = one_of p (first_fault (layer_checks p)) a b

some_of : (p : Parts) (first : Option LayerFault) → first_fault (layer_checks p) ≡ first → ((o : Output) → LayeredGroupsAnswer p first o → ⊥) → ⊥
some_of p (Some fault) is none = some_check_answer p (λ o answered. none o (rw is at answered))
some_of p None is none = some_list p (λ verdicts are. none _ (verdicts, are, refl))

pub some_mutex_answer : SomeAnswer MutexAnswer
some_mutex_answer p = some_of p (first_fault (layer_checks p)) refl

-- ---- how the answer comes about

pub groups_answered : (p : Parts) (o : Output) → IsLayered p → GroupsAnswer p o → MutexAnswer p o
groups_answered p o layered answered = subst (λ (first : Option LayerFault). LayeredGroupsAnswer p first o) (sym ((checks_are_rules p).1 layered)) answered
