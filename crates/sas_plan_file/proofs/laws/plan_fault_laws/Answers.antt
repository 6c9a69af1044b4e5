use Rattle.sas_plan_file.proofs.Imports.{about_laws_of, plan_format, PlanLineFits, plan_node, plan_start}
use Rattle.sas_plan_file.proofs.PlanGrammar.{plan_grammar}
use Rattle.sas_plan_file.proofs.laws.plan_fault_laws.Goals as goal

pub returns : goal.returns
returns c = about_laws_of plan_format PlanLineFits plan_node plan_start plan_grammar
