-- The first step that isn't a name: it exists only if not every step is a name.
use Rattle.std.proofs.lemmas.Grind.{common_steps}
use Rattle.sas_core.proofs.Imports.{◌≡◌, ℕ, suc, ◌+◌, ◌<◌, Bool, false, List, [], ◌∷◌, ◌++◌, length, length-take, take, drop, get_or, sym, ◌∙◌, ap, arith, AllByRecursion, false≢true, take-append-drop, drop-cons, IsName, is_name, IsFirstBadName}

-- the step at place i, of which the test says that it isn't a name, after i names
pub first_bad : (steps : List (List ℕ)) (i : ℕ) (step bytes : List ℕ) (name : Bool) → i < length steps → AllByRecursion IsName (take i steps) → step ≡ get_or steps i step → bytes ≡ step → name ≡ is_name bytes → name ≡ false → IsFirstBadName steps (i + 1)
first_bad steps i step bytes name below names is same tested fails = record {
  before = take i steps;
  bad = step;
  after = drop (suc i) steps;
  whole =
      sym (take-append-drop i steps)
      ∙ ap (λ rest. take i steps ++ rest) (drop-cons steps i step below ∙ ap (λ read. read ∷ drop (suc i) steps) (sym is));
  names = names;
  no_name = λ so. false≢true (sym fails ∙ tested ∙ ap is_name same ∙ so);
  place = omega (arith, length-take {A = List ℕ});
}

name_between : (before : List (List ℕ)) (bad : List ℕ) (after : List (List ℕ)) → AllByRecursion IsName (before ++ bad ∷ after) → IsName bad
name_between [] bad after names = names.0
name_between (step ∷ steps) bad after names = name_between steps bad after names.1

-- a list with a first bad name doesn't consist of names
pub bad-not_names : (steps read : List (List ℕ)) (step : ℕ) → read ≡ steps → IsFirstBadName read step → AllByRecursion IsName steps → ⊥
bad-not_names steps read step same first names = grind (arith, common_steps, name_between)
