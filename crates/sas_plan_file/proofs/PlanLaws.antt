-- The laws of plan files, for the crates above.
use Rattle.sas_plan_file.proofs.Imports.{Laws, laws_of, plan_format, PlanLineFits, plan_node, plan_start}
use Rattle.sas_plan_file.proofs.PlanGrammar.{plan_grammar}

pub plan_laws_hold : Laws plan_format
plan_laws_hold = laws_of plan_format PlanLineFits plan_node plan_start plan_grammar
