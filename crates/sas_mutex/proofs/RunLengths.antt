-- Splitting facts into runs, one by one.
use Rattle.sas_mutex.proofs.Imports.{◌≡◌, ℕ, ◌+◌, ◌<◌, ◌≤◌, length, get_or, take, drop, List, [], ◌∷◌, ◌++◌, sym, ap, subst, ◌∙◌, append_assoc, arith, All, take_more, take_all, take-append-drop, drop_all, length-append, take-append-le, drop-append-le, All-nil, All-cons, All-append, Fact, common_steps, AreOnOne, AreRuns}

-- one fact more is on the variable
pub on_more : (facts : List Fact) (var place : ℕ) (d : Fact) → place < length facts → All (λ (f : Fact). f.var ≡ var) (take place facts)
    → (get_or facts place d).var ≡ var → All (λ (f : Fact). f.var ≡ var) (take (place + 1) facts)
on_more facts var place d below all is =
    subst (All (λ (f : Fact). f.var ≡ var)) (sym (take_more facts place d below))
    (All-append (λ (f : Fact). f.var ≡ var) (take place facts) (get_or facts place d ∷ []) all
    (All-cons (λ (f : Fact). f.var ≡ var) (get_or facts place d) [] is (All-nil (λ (f : Fact). f.var ≡ var))))

-- one run more, behind the others
pub runs_more : (before run : List Fact) (runs : List ℕ) → AreRuns before runs → AreOnOne run → AreRuns (before ++ run) (runs ++ length run ∷ [])
runs_more before run [] is one = grind (arith, common_steps, take_all, drop_all)
runs_more before run (n ∷ runs) (within, here, later) one = (
  omega (arith, length-append before run),
  subst AreOnOne (sym (take-append-le n before run within)) here,
  subst (λ (fs : List Fact). AreRuns fs (runs ++ length run ∷ [])) (sym (drop-append-le n before run within)) (runs_more (drop n before) run runs later one),
)

-- the first of these facts, and as many behind it as are on its variable, are the next run
pub next_run : (facts left run rest : List Fact) (runs more : List ℕ) (n var : ℕ) → (before : List Fact) × (facts ≡ before ++ left) × AreRuns before runs
    → n ≤ length left → All (λ (f : Fact). f.var ≡ var) (take n left) → run ≡ take n left → rest ≡ drop n left → more ≡ runs ++ length run ∷ []
    → (before : List Fact) × (facts ≡ before ++ rest) × AreRuns before more
next_run facts left run rest runs more n var (before, is, are) within on_it run_is rest_is more_is = (
  before ++ run,
  is ∙ ap (λ (xs : List Fact). before ++ xs) (sym (take-append-drop n left) ∙ ap (λ (xs : List Fact). xs ++ drop n left) (sym run_is) ∙ ap (λ (xs : List Fact). run ++ xs) (sym rest_is))
      ∙ sym (append_assoc before run rest),
  subst (AreRuns (before ++ run)) (sym more_is) (runs_more before run runs are (var, subst (All (λ (f : Fact). f.var ≡ var)) (sym run_is) on_it)),
)
