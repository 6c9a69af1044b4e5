-- Each verdict has its words.
use Rattle.std.proofs.lemmas.Grind.{common_steps}
use Rattle.sas_task_reasons.proofs.Imports.{arith, ◌≡◌, ℕ, List, [], ◌∷◌, ◌++◌, codes, decimal, append_assoc, sym, ap, subst, Pushes}
use Rattle.sas_task_reasons.proofs.groups.push_verdict.Goals as goal

-- the space may stand with the number or with the words
said : (place : ℕ) (words : List ℕ) → codes "group " ++ (decimal place ++ 32 ∷ words) ++ 10 ∷ [] ≡ codes "group " ++ decimal place ++ codes " " ++ words ++ 10 ∷ []
said place words = ap (λ (l : List ℕ). codes "group " ++ l ++ 10 ∷ []) (sym (append_assoc (decimal place) (32 ∷ []) words))

pub returns-in-Initial : goal.returns-in-Initial
returns-in-Initial g c = rw c.in-Initial.is (subst (Pushes g.W.Write.contents c.args.sink.now _) (said c.args.place (codes "not shown: initial state")) c.push_group_words-in-Initial.ensures)

pub returns-in-Broken : goal.returns-in-Broken
returns-in-Broken g c =
    let pushed = rw c.from.ensures at c.push_group_words-in-Broken.ensures in
    rw c.in-Broken.is (subst (Pushes g.W.Write.contents c.args.sink.now _) (said c.args.place (codes "not shown: operator " ++ decimal c.in-Broken.operator)) pushed)

pub returns-in-Exclusive : goal.returns-in-Exclusive
returns-in-Exclusive g c = grind (arith, common_steps)

pub returns-in-Derived : goal.returns-in-Derived
returns-in-Derived g c = grind (arith, common_steps)
