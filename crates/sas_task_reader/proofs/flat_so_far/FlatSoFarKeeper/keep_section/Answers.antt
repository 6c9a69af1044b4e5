use Rattle.sas_task_reader.proofs.flat_so_far.FlatSoFarKeeper.keep_section.Goals as goal

pub returns-in-Variable : goal.returns-in-Variable
returns-in-Variable g c = rw c.in-Variable.is (c.variable_ahead.ensures c.args.ranges.now)

pub returns-in-Group : goal.returns-in-Group
returns-in-Group g c = rw c.in-Group.is c.group_ahead.ensures

pub returns-in-Operator : goal.returns-in-Operator
returns-in-Operator g c = rw c.in-Operator.is c.operator_ahead.ensures

pub returns-in-Rule : goal.returns-in-Rule
returns-in-Rule g c = rw c.in-Rule.is c.rule_ahead.ensures
