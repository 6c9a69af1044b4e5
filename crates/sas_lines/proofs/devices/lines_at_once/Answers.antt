use Rattle.sas_lines.proofs.Imports.{◌≡◌, ◌<◌, List, ℕ, length, take, sym, arith, length-take-le}
use Rattle.sas_lines.proofs.devices.lines_at_once.Goals as goal

first_bytes : (bytes : List ℕ) → 4096 < length bytes → length (take 4096 bytes) ≡ 4096
first_bytes bytes more = length-take-le 4096 bytes (omega (arith, more))

pub slice_bounds-memrchr-end : goal.slice_bounds-memrchr-end
slice_bounds-memrchr-end c = sym (first_bytes c.args.bytes.now (omega (arith, c.if-bytes-le-AT_ONCE.false)))

pub overflow_add-result : goal.overflow_add-result
overflow_add-result c = omega (arith, c.in-Some.ensures.0.high, first_bytes c.args.bytes.now (omega (arith, c.if-bytes-le-AT_ONCE.false)))

pub returns-in-Some-clause-within : goal.returns-in-Some-clause-within
returns-in-Some-clause-within c = omega (arith, c.in-Some.ensures.0.high, first_bytes c.args.bytes.now (omega (arith, c.if-bytes-le-AT_ONCE.false)), c.if-bytes-le-AT_ONCE.false)
