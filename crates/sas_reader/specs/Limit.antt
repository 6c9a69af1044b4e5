-- How many bytes of an input are read.
use Rattle.std.specs.Prelude.{ℕ, ◌^◌}

-- how many bytes a task or a plan may have: 4 GiB = 4,294,967,296 bytes
abbrev pub most_bytes : ℕ
most_bytes = 2 ^ 32
