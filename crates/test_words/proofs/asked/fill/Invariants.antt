use Rattle.std.proofs.Common.{length, ◌-◌, ◌≤◌}
use Rattle.test_words.proofs.asked.fill.Given as goal

-- the bytes read so far fit into the buffer
abbrev pub invariant-loop-filled : goal.invariant-loop-filled
invariant-loop-filled g l = l.filled ≤ length l.buffer

abbrev pub decreases-loop-filled : goal.decreases-loop-filled
decreases-loop-filled g l = length l.buffer - l.filled
