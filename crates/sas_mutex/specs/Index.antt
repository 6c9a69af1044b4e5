-- Which groups contain a fact.
use Rattle.std.specs.Prelude.{ℕ, ◌↔◌, List, Contains, unwrap_or}
use Rattle.sas_core.specs.declared.parts.Fact.{Fact}
use Rattle.sas_core.specs.declared.parts.Parts.{Parts}
use Rattle.sas_core.specs.Variables.{FactExists}
use Rattle.sas_core.specs.WellRanged.{WellRanged}
use Rattle.sas_mutex.specs.declared.index.Index.{Index}
use Rattle.sas_mutex.specs.ByFact.{AreFirstNumbers, fact_number, HasFact, AreLargerOfEach, under}
use Rattle.sas_mutex.specs.Distinct.{AreOwnLists}
use Rattle.sas_mutex.specs.Runs.{AreRunsOf}
use Rattle.sas_mutex.specs.ByVariable.{AreByVariable}

-- the groups of a fact in the index
abbrev pub groups_of : Index → Fact → List ℕ
groups_of index fact = under index.groups (fact_number index.firsts.items fact)

-- those of them that contain another fact, too
abbrev pub larger_groups_of : Index → Fact → List ℕ
larger_groups_of index fact =
    under (unwrap_or index.larger index.groups) (fact_number index.firsts.items fact)

-- the index of a well-ranged task: the groups of each fact, the facts of each group without
-- duplicates, the runs of each group, and the effects of large operators by variable
pub record IsIndexOf (p : Parts) (index : Index) : Type 0 where
  pub ranged : WellRanged p
  pub firsts : AreFirstNumbers p index.firsts.items
  pub groups : (fact : Fact) → FactExists p.variables fact
      → (place : ℕ) → Contains (groups_of index fact) place ↔ HasFact p place fact
  pub larger : AreLargerOfEach p index.own_facts index.groups index.larger
  pub facts : AreOwnLists p index.own_facts
  pub runs : AreRunsOf p index.own_facts index.runs
  pub effects : AreByVariable p index.effects
