-- The words for the verdicts on mutex groups.
use Rattle.std.specs.Prelude.{ℕ, ◌+◌, List, [], ◌∷◌, ◌++◌, codes, decimal}
use Rattle.sas_groups.specs.declared.verdict.Verdict.{Verdict}
use Rattle.sas_groups.specs.declared.verdict.Verdict.TheVariants.{Exclusive, Derived, Initial, Broken}
use Rattle.sas_answers.specs.declared.ending.Status.{Status}
use Rattle.sas_answers.specs.declared.ending.Status.TheVariants.{Yes, No}

-- the words for the verdict on a group
abbrev pub verdict_words : Verdict → List ℕ
verdict_words Exclusive = codes "exclusive"
verdict_words Derived = codes "derived"
verdict_words Initial = codes "not shown: initial state"
verdict_words (Broken operator) = codes "not shown: operator " ++ decimal operator

-- `group K VERDICT`, where K is the group's place, counted from 0
abbrev pub group_line : ℕ → Verdict → List ℕ
group_line place verdict = codes "group " ++ decimal place ++ codes " " ++ verdict_words verdict

-- a line for each group, the first of which has this place
abbrev pub verdict_lines_from : ℕ → List Verdict → List (List ℕ)
verdict_lines_from place [] = []
verdict_lines_from place (verdict ∷ verdicts) =
    group_line place verdict ∷ verdict_lines_from (place + 1) verdicts

-- a line for each group of a task
abbrev pub verdict_lines : List Verdict → List (List ℕ)
verdict_lines verdicts = verdict_lines_from 0 verdicts

-- yes if all groups are exclusive, also if there is none
abbrev pub groups_status : List Verdict → Status
groups_status [] = Yes
groups_status (Exclusive ∷ verdicts) = groups_status verdicts
groups_status (Derived ∷ verdicts) = No
groups_status (Initial ∷ verdicts) = No
groups_status (Broken operator ∷ verdicts) = No
