-- Sections that are stored at once: a variable, a mutex group, an operator, a rule.
use Rattle.std.specs.Prelude.{◌≡◌, ℕ, List, ◌++◌, length, Option, Some, None, Result, IfOk, IfErr, IfSome, IfNone}
use Rattle.sas_core.specs.declared.parts.Fact.{Fact}
use Rattle.sas_core.specs.declared.parts.Variable.{Variable}
use Rattle.sas_core.specs.declared.parts.Operator.{Operator}
use Rattle.sas_core.specs.declared.parts.Effect.{Effect}
use Rattle.sas_reader.specs.declared.fault.Kind.{Kind}
use Rattle.sas_reader.specs.declared.fault.Kind.TheVariants as kinds
use Rattle.sas_task_file.specs.TaskFormat.{TaskLine, variable_lines, group_lines, operator_lines, rule_lines}
use Rattle.sas_task_file.specs.Sections.{spelled, VariableAhead, GroupAhead, OperatorAhead, RuleAhead}
use Rattle.sas_task_file.specs.declared.so_far.SoFar.{SoFar}
use Rattle.sas_task_file.specs.TaskEvents.{behind_variable, behind_group, behind_operator, behind_rule}
use Rattle.sas_task_reader.specs.declared.keeper.ParsedSection.{ParsedSection}
use Rattle.sas_task_reader.specs.declared.task_judge.sections.Section.{Section}
use Rattle.sas_task_reader.specs.declared.task_judge.sections.Section.TheVariants as sections

-- what a section contains
abbrev pub ContentOf : Section → Type 0
ContentOf sections.Variable = Variable
ContentOf sections.Group = List Fact
ContentOf sections.Operator = Operator
ContentOf sections.Rule = Effect

-- its lines
abbrev pub section_lines : (section : Section) → ContentOf section → List TaskLine
section_lines sections.Variable v = variable_lines v
section_lines sections.Group facts = group_lines facts
section_lines sections.Operator o = operator_lines o
section_lines sections.Rule r = rule_lines r

-- the content read so far, after all its lines
abbrev pub behind_section : (section : Section) → SoFar → ContentOf section → SoFar
behind_section sections.Variable s v = behind_variable s v
behind_section sections.Group s facts = behind_group s facts
behind_section sections.Operator s o = behind_operator s o
behind_section sections.Rule s r = behind_rule s r

-- The bytes begin with the section, and its facts exist for variables with these ranges. `parsed`
-- has the extent of its lines, and the number of values of a variable.
abbrev pub SectionAhead : (section : Section) → List ℕ → List ℕ → ContentOf section
    → ParsedSection → Type 0
SectionAhead sections.Variable ranges bytes v parsed =
    VariableAhead bytes v parsed.front × (parsed.range ≡ Some (length v.values))
SectionAhead sections.Group ranges bytes facts parsed =
    GroupAhead ranges bytes facts parsed.front × (parsed.range ≡ None)
SectionAhead sections.Operator ranges bytes o parsed =
    OperatorAhead ranges bytes o parsed.front × (parsed.range ≡ None)
SectionAhead sections.Rule ranges bytes r parsed =
    RuleAhead ranges bytes r parsed.front × (parsed.range ≡ None)

module _ {K : Type 0} (keeps : List (List ℕ) → SoFar → K → Type 0) where
  -- The promise of a keeper that may store the section at the beginning of some bytes. It stores
  -- the section with all its lines, or changes nothing. The only error is `Memory`.
  pub record KeepsSection (section : Section) (ranges bytes : List ℕ) (old new : K)
      (result : Result (Option ParsedSection) Kind) : Type 0 where
    pub took : IfOk result (λ found. IfSome found (λ parsed. (a : ContentOf section)
        × SectionAhead section ranges bytes a parsed
        × ((lines : List (List ℕ)) (s : SoFar) → keeps lines s old
        → keeps (lines ++ spelled (section_lines section a)) (behind_section section s a) new)))
    pub none : IfOk result (λ found. IfNone found (new ≡ old))
    pub memory : IfErr result (λ k. k ≡ kinds.Memory)

-- the same for a keeper of the whole content
abbrev pub AddsSection : Section → List ℕ → List ℕ → SoFar → SoFar
    → Result (Option ParsedSection) Kind → Type 0
AddsSection = KeepsSection (λ lines s kept. kept ≡ s)
