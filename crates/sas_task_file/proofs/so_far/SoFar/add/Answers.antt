use Rattle.sas_task_file.proofs.so_far.SoFar.add.Goals as goal

pub returns-in-Name : goal.returns-in-Name
returns-in-Name c = rw c.in-Name.is (c.name.ensures c.args.said.now)

pub returns-in-Value : goal.returns-in-Value
returns-in-Value c = rw c.in-Value.is (c.value.ensures c.args.said.now)

pub returns-in-Variable : goal.returns-in-Variable
returns-in-Variable c = rw c.in-Variable.is (c.variable.ensures c.args.said.now)

pub returns-in-Group : goal.returns-in-Group
returns-in-Group c = rw c.in-Group.is (c.group.ensures c.args.said.now)
