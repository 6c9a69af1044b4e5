-- The entry of one more condition is appended.
use Rattle.sas_axioms.proofs.Imports.{◌≡◌, ℕ, ◌+◌, ◌<◌, List, [], ◌∷◌, ◌++◌, length, get_or, drop, sym, ap, ◌∙◌, arith, append_snoc, drop_all, drop_more, Fact, rule_at, Entry, RuleCondition, entries, waiting_entry}
use Rattle.std.proofs.Common.{append-nil}
use Rattle.sas_axioms.proofs.conditions.push_conditions.Goals as goal

-- the entry of the next condition stands before the others that are left
one_more : (rule : ℕ) (cs : List Fact) (i : ℕ) (d : Fact) → i < length cs → (es : List (Entry RuleCondition))
    → (es ++ waiting_entry (get_or cs i d) rule ∷ []) ++ entries rule (drop (i + 1) cs) ≡ es ++ entries rule (drop i cs)
one_more rule cs i d lt es = append_snoc es (waiting_entry (get_or cs i d) rule) (entries rule (drop (i + 1) cs)) ∙ ap (λ (fs : List Fact). es ++ entries rule fs) (sym (drop_more cs i d lt))

pub loop-condition-preserved : goal.loop-condition-preserved
loop-condition-preserved g c = search (arith, rule_at, length, waiting_entry, get_or, one_more)

pub returns : goal.returns
returns g c = search (arith, rule_at, length, append-nil, entries, drop_all)
