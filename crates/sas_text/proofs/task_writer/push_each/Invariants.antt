use Rattle.sas_text.proofs.Imports.{◌≡◌, ◌++◌, take, flat_map, text_of}
use Rattle.sas_text.proofs.task_writer.push_each.Given as goal

-- the lines of the items so far
abbrev pub invariant-loop-item : goal.invariant-loop-item
invariant-loop-item g l = l.out.items ≡ l.fn.out.items ++ text_of (flat_map g.T.Encode.lines (take l.item-index l.item-items))
