-- At the end each variable has been seen.
use Rattle.sas_axioms.proofs.Imports.{ℕ, ◌<◌, ◌≤◌, length, arith, Option, None, Some, IfNone, Parts, Occurs, on_layer_within}
use Rattle.std.proofs.lemmas.Option.{IfSome_then}
use Rattle.sas_axioms.proofs.rounds.next_layer.Goals as goal

-- a layer that occurs is that of a variable that has been seen
seen : (p : Parts) (k m : ℕ) → length p.variables ≤ k → (o : Occurs p m) → o.0 < k
seen p k m all o = (let lt = on_layer_within p m o.0 o.1 in omega arith)

none_then : {P Q : Type 0} (o : Option ℕ) → IfNone o P → (P → Q) → IfNone o Q
none_then None is f = f is
none_then (Some n) is f = tt

pub returns-clause-some : goal.returns-clause-some
returns-clause-some g c =
    let all : length c.args.layered.now.variables ≤ c.loop-var.var = omega (arith, c.variables-var-end.ensures, c.loop-var-test.false) in
    IfSome_then c.loop-var.lowest c.loop-var.invariant.some
    (λ n is. (is.0, is.1, λ m le o. is.2 o.0 m (seen c.args.layered.now c.loop-var.var m all o) le o.1))

pub returns-clause-none : goal.returns-clause-none
returns-clause-none g c =
    let all : length c.args.layered.now.variables ≤ c.loop-var.var = omega (arith, c.variables-var-end.ensures, c.loop-var-test.false) in
    none_then c.loop-var.lowest c.loop-var.invariant.none
    (λ none m le o. none o.0 m (seen c.args.layered.now c.loop-var.var m all o) le o.1)
