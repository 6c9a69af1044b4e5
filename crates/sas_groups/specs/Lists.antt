-- The facts that hold when effects of an operator fire, and the remaining facts of their iterators.
use Rattle.std.specs.Prelude.{List, [], ◌++◌, filter_map, Option, None, Some}
use Rattle.std.specs.Option.{option_to_list}
use Rattle.sas_core.specs.declared.parts.Fact.{Fact}
use Rattle.sas_core.specs.declared.parts.Effect.{Effect}
use Rattle.sas_core.specs.declared.parts.Operator.{Operator}
use Rattle.sas_core.specs.declared.parts.Parts.{Parts}
use Rattle.sas_core.specs.Grounded.{operator_at}
use Rattle.sas_meaning.specs.Steps.{preconditions, old_fact}
use Rattle.sas_groups.specs.declared.facts.Facts.{Facts}
use Rattle.sas_groups.specs.declared.known.Known.{Known}
use Rattle.sas_groups.specs.declared.known.Premises.{Premises}

-- the conditions of an effect; none if there is no effect
abbrev pub conditions_of : Option Effect → List Fact
conditions_of None = []
conditions_of (Some e) = e.conditions

-- the remaining facts of `Facts`
abbrev pub facts_left : Facts → List Fact
facts_left it = it.prevail.now ++ (filter_map old_fact it.effects.now
    ++ (it.first.now ++ (it.second.now ++ option_to_list it.extra)))

-- the known facts: the preconditions of an operator and two lists of facts
abbrev pub known : Operator → List Fact → List Fact → List Fact
known o first second = preconditions o ++ first ++ second

-- the known facts of these premises
abbrev pub known_on : Parts → Premises → List Fact
known_on p premises = known (operator_at p premises.operator) premises.first.now premises.second.now

-- the remaining facts of `Known`
abbrev pub known_left : {T : Type 0} → Known T → List Fact
known_left it = it.preconditions ++ it.first.now ++ it.second.now
