-- What a call says.
use Rattle.std.specs.Prelude.{◌≡◌, ⊤, ℕ, Bool, List, [], ◌∷◌, map, codes, Option, Some, None, String}
use Rattle.std.specs.String.{string_bytes}
use Rattle.sas_words.specs.Grammar.{plan_words, task_words}
use Rattle.sas_words.specs.declared.calls.Call.{Call}
use Rattle.sas_words.specs.declared.calls.Named.{Named}
use Rattle.sas_words.specs.declared.calls.Named.TheVariants as named
use Rattle.sas_words.specs.declared.calls.WordsFault.{WordsFault}
use Rattle.sas_words.specs.declared.calls.WordsFault.TheVariants as fault

abbrev pub name_of : Named → List ℕ
name_of named.Plan = codes "plan"
name_of named.Plans = codes "plans"
name_of named.Trace = codes "trace"
name_of named.Mutex = codes "mutex"
name_of named.Show = codes "show"
name_of named.Check = codes "check"
name_of named.Print = codes "print"
name_of named.Steps = codes "steps"

-- the bytes of words
abbrev pub bytes_of_words : {Z : Type 0} → List (String Z) → List (List ℕ)
bytes_of_words words = map string_bytes words

abbrev pub words_in : {Z : Type 0} → Option (String Z) → List (List ℕ)
words_in None = []
words_in (Some word) = string_bytes word ∷ []

-- the call is for this request, with the flag for reasons or without, over these files
pub record IsFor (request : List ℕ) (why : Bool) (files : List (List ℕ)) (call : Call) : Type 0 where
  pub name : name_of call.request ≡ request
  pub flag : call.why ≡ why
  pub task : words_in call.task ≡ task_words request files
  pub plans : bytes_of_words call.plans.items ≡ plan_words request files

abbrev pub IsMemory : WordsFault → Type 0
IsMemory fault.Memory = ⊤
IsMemory _ = ⊥
