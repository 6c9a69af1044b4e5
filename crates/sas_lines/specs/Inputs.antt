-- The inputs of a program.
use Rattle.std.specs.Prelude.{ℕ, List, Option}
use Rattle.sas_lines.specs.declared.inputs.OpenInput.{OpenInput}
use Rattle.sas_lines.specs.declared.inputs.OpenInput.TheVariants as opened

-- the bytes that an input has left: those of its file or of standard input
abbrev pub left_of : {F I : Type 0} → (F → Option (List ℕ)) → (I → Option (List ℕ)) → OpenInput F I
    → Option (List ℕ)
left_of of_file of_standard (opened.File file) = of_file file
left_of of_file of_standard (opened.Standard input) = of_standard input
