-- All states of a plan's execution are reachable, and so settled states of the task.
use Rattle.sas_run.proofs.Imports.{ℕ, ◌<◌, List, [], ◌∷◌, length, sym, subst, All, All-nil, All-cons, Contains-get_or, Parts, operator_at, IsState, Reachable, Initial, Next, IsSettled, LeadFrom, LeadsTo, LeadsToReachable, LastIsReachable}

-- from a reachable state steps lead to reachable ones
go_on : (p : Parts) (s : List ℕ) (names : List (List ℕ)) (operators last : List ℕ) → Reachable p s → LeadFrom p s names operators last
    → Reachable p last
go_on p s [] [] last reach goes = subst (Reachable p) (sym goes) reach
go_on p s [] (operator ∷ operators) last reach goes = absurd goes
go_on p s (name ∷ names) [] last reach goes = absurd goes
go_on p s (name ∷ names) (operator ∷ operators) last reach (next, chosen, step, rest) = go_on p next names operators last
    (Next (operator_at p operator) reach (Contains-get_or p.operators operator _ chosen.of_name.exists) step) rest

pub leads_to_reachable : LeadsToReachable
leads_to_reachable p steps operators last leads = go_on p leads.initial steps operators last (Initial leads.starts) leads.goes

pub last_is_reachable : LastIsReachable
last_is_reachable p plan operators valid = leads_to_reachable p plan.steps operators valid.last valid.leads

-- a reachable state is a settled state of the task
rests : (p : Parts) (s : List ℕ) → Reachable p s → IsState p.variables s × IsSettled p s
rests p s (Initial starts) = (starts.state, starts.settled)
rests p s (Next o before among step) = (step.state, step.settled)

pub leads_to_rest : (p : Parts) (steps : List (List ℕ)) (operators last : List ℕ) → LeadsTo p steps operators last
    → IsState p.variables last × IsSettled p last
leads_to_rest p steps operators last leads = rests p last (leads_to_reachable p steps operators last leads)

-- the operators of executable steps exist
goes_by : (p : Parts) (s : List ℕ) (names : List (List ℕ)) (operators last : List ℕ) → LeadFrom p s names operators last
    → All (λ (o : ℕ). o < length p.operators) operators
goes_by p s [] [] last goes = All-nil (λ (o : ℕ). o < length p.operators)
goes_by p s [] (operator ∷ operators) last goes = absurd goes
goes_by p s (name ∷ names) [] last goes = absurd goes
goes_by p s (name ∷ names) (operator ∷ operators) last (next, chosen, step, rest) =
    All-cons (λ (o : ℕ). o < length p.operators) operator operators chosen.of_name.exists (goes_by p next names operators last rest)

pub leads_by : (p : Parts) (steps : List (List ℕ)) (operators last : List ℕ) → LeadsTo p steps operators last
    → All (λ (o : ℕ). o < length p.operators) operators
leads_by p steps operators last leads = goes_by p leads.initial steps operators last leads.goes
