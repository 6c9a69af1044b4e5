-- The words of a command line, and the call of the program that they are.
use Rattle.std.specs.Prelude.{◌≡◌, ◌⊎◌, ◌==◌, ℕ, Bool, false, if◌then◌else◌, List, [], ◌∷◌, drop, bytes_eq, codes}

-- an option begins with `-`, and isn't `-` itself
abbrev pub is_option : List ℕ → Bool
is_option [] = false
is_option (first ∷ []) = false
is_option (first ∷ second ∷ rest) = first == 45

-- the options among the words, up to `--`
abbrev pub options : List (List ℕ) → List (List ℕ)
options [] = []
options (word ∷ rest) = if bytes_eq word (codes "--") then []
    else (if is_option word then word ∷ options rest else options rest)

-- the other words, and all words behind `--`
abbrev pub operands : List (List ℕ) → List (List ℕ)
operands [] = []
operands (word ∷ rest) = if bytes_eq word (codes "--") then rest
    else (if is_option word then operands rest else word ∷ operands rest)

-- the options of a call with `--why`, and without
abbrev pub options_of : Bool → List (List ℕ)
options_of why = if why then codes "--why" ∷ [] else []

-- one file, two files, or two files and any more
abbrev pub IsOne : List (List ℕ) → Type 0
IsOne files = (file : List ℕ) × (files ≡ file ∷ [])

abbrev pub AreTwo : List (List ℕ) → Type 0
AreTwo files = (task plan : List ℕ) × (files ≡ task ∷ plan ∷ [])

abbrev pub AreTwoOrMore : List (List ℕ) → Type 0
AreTwoOrMore files = (task plan : List ℕ) × (more : List (List ℕ)) × (files ≡ task ∷ plan ∷ more)

-- the request has this name, and takes these files, with `--why` or without
abbrev pub IsAccepted : List ℕ → Bool → List (List ℕ) → Type 0
IsAccepted request why files = ((request ≡ codes "plan") × AreTwo files)
    ⊎ ((request ≡ codes "plans") × AreTwoOrMore files)
    ⊎ ((request ≡ codes "trace") × AreTwo files)
    ⊎ ((request ≡ codes "mutex") × IsOne files)
    ⊎ ((request ≡ codes "show") × IsOne files)
    ⊎ ((request ≡ codes "check") × IsOne files)
    ⊎ ((request ≡ codes "print") × IsOne files)
    ⊎ ((request ≡ codes "steps") × IsOne files)

-- no words, or `--` alone, stand for `steps -`
abbrev pub spelled : List (List ℕ) → List (List ℕ)
spelled [] = codes "steps" ∷ codes "-" ∷ []
spelled (word ∷ []) =
    if bytes_eq word (codes "--") then codes "steps" ∷ codes "-" ∷ [] else word ∷ []
spelled (word ∷ next ∷ rest) = word ∷ next ∷ rest

-- The words, of which the first names the program, are a call for this request, with `--why` or
-- without, over these files.
pub record IsCall (words : List (List ℕ)) (request : List ℕ) (why : Bool) (files : List (List ℕ))
    : Type 0 where
  pub rest : List (List ℕ)
  pub named : spelled (drop 1 words) ≡ request ∷ rest
  pub optional : options rest ≡ options_of why
  pub names : operands rest ≡ files
  pub accepted : IsAccepted request why files
