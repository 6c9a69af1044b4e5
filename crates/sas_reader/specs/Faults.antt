-- Properties of the faults that a machine finds.
use Rattle.std.specs.Prelude.{◌≢◌, Bool, true, false, Option, Some, None, Result, Ok, Err}
use Rattle.sas_reader.specs.declared.fault.Fault.{Fault}
use Rattle.sas_reader.specs.declared.fault.Kind.{Kind}
use Rattle.sas_reader.specs.declared.fault.Kind.TheVariants as kinds

-- a fault that is found while bytes are read: not an early end, and not a failed read
abbrev pub IsOfBytes : Kind → Type 0
IsOfBytes k = (k ≢ kinds.End) × (k ≢ kinds.Read)

-- kinds of fault
abbrev pub is_keyword : Kind → Bool
is_keyword kinds.Keyword = true
is_keyword _ = false

abbrev pub is_of_name : Kind → Bool
is_of_name kinds.Name = true
is_of_name _ = false

abbrev pub is_value : Kind → Bool
is_value kinds.Value = true
is_value _ = false

abbrev pub is_end : Kind → Bool
is_end kinds.End = true
is_end _ = false

abbrev pub is_trailing : Kind → Bool
is_trailing kinds.Trailing = true
is_trailing _ = false

-- what a reader with this fault returns
abbrev pub answer : Option Fault → Result (Unit {0}) Fault
answer None = Ok tt
answer (Some f) = Err f
