-- Which job a call asks for.
use Rattle.std.proofs.lemmas.Option.{none-some, same_Some}
use Rattle.std.specs.Prelude.{⊤}
use Rattle.std.proofs.Common.{◌≡◌, ◌∙◌, ◌<◌, ℕ, Bool, true, false, cond, refl, sym, ap, subst, arith, inl, inr, List, [], ◌∷◌, length, drop, take, bytes_eq, codes, Option, Some, None, Result, Ok, Err, IfOk, MatchResult}
use Rattle.sas_requests.specs.declared.question.Question.{Question}
use Rattle.sas_words.specs.Calls.{IsMemory, name_of}
use Rattle.sas_words.specs.Grammar.{plan_words, task_words}
use Rattle.sas_words.specs.Usage.{AreTwo, IsAccepted, IsOne}
use Rattle.sas_words.specs.declared.calls.Named.{Named}
use Rattle.sas_words.specs.declared.calls.Named.TheVariants as named
use Rattle.sas_words.specs.declared.calls.WordsFault.{WordsFault}
use Rattle.sas_words.specs.declared.calls.WordsFault.TheVariants as fault
use Rattle.sas_tool.specs.Jobs.{Asks, IsInputTwice, IsQuestion, IsRefusedFor, asked}
use Rattle.sas_tool.specs.Sources.{IsSource}
use Rattle.sas_tool.specs.declared.arguments.Job.{Job}
use Rattle.sas_tool.specs.declared.arguments.Job.TheVariants.{Files, Plans}
use Rattle.sas_tool.specs.declared.arguments.Source.{Source}
use Rattle.sas_tool.specs.declared.arguments.Source.TheVariants.{File, Input}

abbrev named_of : List ℕ → Named
named_of name = cond (bytes_eq name (codes "plan")) named.Plan (cond (bytes_eq name (codes "plans")) named.Plans
    (cond (bytes_eq name (codes "trace")) named.Trace (cond (bytes_eq name (codes "mutex")) named.Mutex
    (cond (bytes_eq name (codes "show")) named.Show (cond (bytes_eq name (codes "check")) named.Check
    (cond (bytes_eq name (codes "print")) named.Print named.Steps))))))

same_named : (n : Named) → named_of (name_of n) ≡ n
same_named named.Plan = refl
same_named named.Plans = refl
same_named named.Trace = refl
same_named named.Mutex = refl
same_named named.Show = refl
same_named named.Check = refl
same_named named.Print = refl
same_named named.Steps = refl

-- one plan at most
abbrev pub Few : List ℕ → List (List ℕ) → Type 0
Few name files = length (plan_words name files) < 2

abbrev Fits : Named → Bool → List (List ℕ) → Type 0
Fits named.Plans why files = ⊤
Fits n why files = Few (name_of n) files

two : (files : List (List ℕ)) → AreTwo files → length (drop 1 files) < 2
two files are = subst (λ l. length (drop 1 l) < 2) (sym are.2) (omega arith)

one : (files : List (List ℕ)) → IsOne files → length (drop 1 files) < 2
one files is = subst (λ l. length (drop 1 l) < 2) (sym is.1) (omega arith)

alone : (files : List (List ℕ)) → IsOne files → length files < 2
alone files is = subst (λ l. length l < 2) (sym is.1) (omega arith)

fits : (n : Named) (name : List ℕ) (why : Bool) (files : List (List ℕ)) → name_of n ≡ name → IsAccepted name why files → Fits n why files
fits n name why files e accepted = go accepted
  where
    is : (m : Named) → name ≡ name_of m → m ≡ n
    is m a = sym (same_named m) ∙ ap named_of (sym (e ∙ a)) ∙ same_named n

    go : IsAccepted name why files → Fits n why files
    go (inl a) = subst (λ m. Fits m why files) (is named.Plan a.0) (two files a.1)
    go (inr (inl a)) = subst (λ m. Fits m why files) (is named.Plans a.0) tt
    go (inr (inr (inl a))) = subst (λ m. Fits m why files) (is named.Trace a.0) (two files a.1)
    go (inr (inr (inr (inl a)))) = subst (λ m. Fits m why files) (is named.Mutex a.0) (one files a.1)
    go (inr (inr (inr (inr (inl a))))) = subst (λ m. Fits m why files) (is named.Show a.0) (one files a.1)
    go (inr (inr (inr (inr (inr (inl a)))))) = subst (λ m. Fits m why files) (is named.Check a.0) (one files a.1)
    go (inr (inr (inr (inr (inr (inr (inl a))))))) = subst (λ m. Fits m why files) (is named.Print a.0) (one files a.1)
    go (inr (inr (inr (inr (inr (inr (inr a))))))) = subst (λ m. Fits m why files) (is named.Steps a.0) (alone files a.1)

few_of : (n : Named) (why : Bool) (files : List (List ℕ)) (q : Question) → Fits n why files → asked n why ≡ Some q → Few (name_of n) files
few_of named.Plans why files q few is = absurd (none-some q is)
few_of named.Plan why files q few is = few
few_of named.Trace why files q few is = few
few_of named.Mutex why files q few is = few
few_of named.Show why files q few is = few
few_of named.Check why files q few is = few
few_of named.Print why files q few is = few
few_of named.Steps why files q few is = few

-- of a call without a question: it is `plans`
many_of : (n : Named) (why : Bool) → None ≡ asked n why → codes "plans" ≡ name_of n
many_of named.Plans why is = refl
many_of named.Plan why is = absurd (none-some _ is)
many_of named.Trace why is = absurd (none-some _ is)
many_of named.Mutex why is = absurd (none-some _ is)
many_of named.Show why is = absurd (none-some _ is)
many_of named.Check why is = absurd (none-some _ is)
many_of named.Print why is = absurd (none-some _ is)
many_of named.Steps why is = absurd (none-some _ is)

-- the same, by the name
pub asks_files : (n : Named) (flag why : Bool) (q : Question) (name : List ℕ) (files : List (List ℕ)) → Some q ≡ asked n flag
    → name_of n ≡ name → flag ≡ why → IsAccepted name why files → IsQuestion name why q × Few name files
asks_files n flag why q name files is e same accepted =
    let its : asked n why ≡ Some q = ap (asked n) (sym same) ∙ sym is in
    ((n, e, its), subst (λ m. Few m files) e (few_of n why files q (fits n name why files e accepted) its))

pub asks_many : (n : Named) (flag : Bool) (name : List ℕ) → None ≡ asked n flag → name_of n ≡ name → codes "plans" ≡ name
asks_many n flag name is e = many_of n flag is ∙ e

-- a name asks one question
pub same_question : (n : Named) (why : Bool) (q r : Question) → asked n why ≡ Some q → IsQuestion (name_of n) why r → r ≡ q
same_question n why q r is (m, name, its) =
    let same : m ≡ n = sym (same_named m) ∙ ap named_of name ∙ same_named n in
    same_Some r q (sym its ∙ ap (λ k. asked k why) same ∙ is)

-- and `plans` none
pub no_question : (n : Named) (why : Bool) (q : Question) → asked n why ≡ Some q → codes "plans" ≡ name_of n → ⊥
no_question n why q is name =
    let same : n ≡ named.Plans = sym (same_named n) ∙ ap named_of (sym name) in
    none-some q (sym (ap (λ k. asked k why) same) ∙ is)

pub no_plans : (why : Bool) (q : Question) → IsQuestion (codes "plans") why q → ⊥
no_plans why q (n, name, is) = no_question n why q is (sym name)

-- ---- two files that are standard input

abbrev head : List (List ℕ) → List ℕ
head [] = []
head (x ∷ xs) = x

joined : (b : Bool) (files : List (List ℕ)) → cond b [] (take 1 files) ≡ codes "-" ∷ [] → cond b files (drop 1 files) ≡ codes "-" ∷ [] → files ≡ codes "-" ∷ codes "-" ∷ []
joined true files task plan = absurd (omega (arith, ap length task))
joined false [] task plan = absurd (omega (arith, ap length task))
joined false (x ∷ xs) task plan = ap (λ l. x ∷ l) plan ∙ ap (λ y. y ∷ codes "-" ∷ []) (ap head task)

both_input : (name : List ℕ) (why : Bool) (files : List (List ℕ)) (job : Job) → Asks name why files job → IsInputTwice job → files ≡ codes "-" ∷ codes "-" ∷ []
both_input name why files (Files question task plan) asks twice = joined (bytes_eq name (codes "steps")) files
    (subst (IsSource (task_words name files)) twice.0 asks.1) (subst (IsSource (plan_words name files)) twice.1 asks.2)
both_input name why files (Plans task labels flag) asks twice = absurd twice

pub checked : (name : List ℕ) (why : Bool) (files : List (List ℕ)) (job : Job) (result : Result Job WordsFault) → Asks name why files job
    → MatchResult result (λ other. (other ≡ job) × (IsInputTwice job → ⊥)) (λ f. (f ≡ fault.InputTwice) × IsInputTwice job)
    → MatchResult result (Asks name why files) (IsRefusedFor files)
checked name why files job (Ok other) asks is = subst (Asks name why files) (sym is.0) asks
checked name why files job (Err f) asks is = subst (IsRefusedFor files) (sym is.0) (both_input name why files job asks is.1)

pub once_of : (job : Job) (result : Result Job WordsFault) → MatchResult result (λ other. (other ≡ job) × (IsInputTwice job → ⊥)) (λ f. (f ≡ fault.InputTwice) × IsInputTwice job)
    → IfOk result (λ other. IsInputTwice other → ⊥)
once_of job (Ok other) is = subst (λ j. IsInputTwice j → ⊥) (sym is.0) is.1
once_of job (Err f) is = tt

pub if_ok : {A E : Type 0} (result : Result A E) (P Q : A → Type 0) (M : E → Type 0) → ((a : A) → P a → Q a) → MatchResult result P M → IfOk result Q
if_ok (Ok a) P Q M weaker is = weaker a is
if_ok (Err e) P Q M weaker is = tt

pub memory_refused : (files : List (List ℕ)) (f : WordsFault) → IsMemory f → IsRefusedFor files f
memory_refused files fault.Memory is = tt
memory_refused files fault.InputTwice is = absurd is
memory_refused files (fault.Refused error) is = absurd is
memory_refused files (fault.Version error) is = absurd is

-- a job isn't over two files that are standard input
pub never_twice : (n : Named) (why : Bool) (q : Question) (job : Job) → asked n why ≡ Some q → Asks (name_of n) why (codes "-" ∷ codes "-" ∷ []) job → (IsInputTwice job → ⊥) → ⊥
never_twice n why q (Plans task labels flag) is asks once = no_question n why q is asks.0
never_twice n why q (Files question task plan) is asks once = go (bytes_eq (name_of n) (codes "steps")) task plan asks.1 asks.2 once
  where
    named_input : (source : Option Source) → IsSource (codes "-" ∷ []) source → source ≡ Some Input
    named_input None is = absurd (omega (arith, ap length is))
    named_input (Some Input) is = refl
    named_input (Some (File name)) is = absurd (is.1 (sym (ap head is.0)))

    go : (b : Bool) (task plan : Option Source) → IsSource (cond b [] (codes "-" ∷ [])) task → IsSource (cond b (codes "-" ∷ codes "-" ∷ []) (codes "-" ∷ [])) plan → (IsInputTwice (Files question task plan) → ⊥) → ⊥
    go false task plan is_task is_plan once = once (named_input task is_task, named_input plan is_plan)
    go true task None is_task is_plan once = omega (arith, ap length is_plan)
    go true task (Some Input) is_task is_plan once = omega (arith, ap length is_plan)
    go true task (Some (File name)) is_task is_plan once = omega (arith, ap length is_plan.0)
