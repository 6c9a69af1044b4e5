-- The first noted rule is on this layer.
use Rattle.sas_axioms.proofs.Imports.{rules, ◌≡◌, ◌≤◌, ◌∷◌, sym, ap, subst, inl, inr, arith, Contains, IsPermutation, heap_items, Reverse, All-contains, All-contains_itself, Contains-permutation, contains_cases, length_permutation, LayerRule, entry_for, Lowest}
use Rattle.sas_axioms.proofs.AgendaOrder.{lowest_first, rest_still, head_there}
use Rattle.sas_axioms.proofs.agenda.Agenda.take.Goals as goal

pub returns-clause-some : goal.returns-clause-some
returns-clause-some c =
    let items = heap_items c.args.self.now.noted in
    let rest = heap_items c.pop.new.self in
    let x = c.in_ok-first.first in
    let same : IsPermutation items (x ∷ rest) = c.in_ok-first.ensures.permutation in
    let lowest : Lowest c.args.self.now c.args.layer = search rules in
    let up = lowest_first x items (c.in_ok-first.ensures.heap_order c.requires.ordered).1 in
    let below : x.0.layer ≤ c.args.layer = All-contains (λ (e : Reverse LayerRule). x.0.layer ≤ e.0.layer) items (entry_for c.args.layer lowest.noted.0) up lowest.noted.1 in
    let above : c.args.layer ≤ x.0.layer = All-contains (λ (e : Reverse LayerRule). c.args.layer ≤ e.0.layer) items x lowest.from (head_there items rest x same) in
    let layer : x.0.layer ≡ c.args.layer = omega arith in
    let is : x ≡ entry_for c.args.layer x.0.rule = ap (λ l. entry_for l x.0.rule) layer in
    record {
      was = inl (subst (λ e. Contains items e) is (head_there items rest x same));
      noted = λ m other there. elim (contains_cases x rest (entry_for m other) (Contains-permutation items (x ∷ rest) (entry_for m other) same there)) [
        | inr still ↦ inl still
        | inl e ↦ inr (sym (ap (λ (r : Reverse LayerRule). r.0.rule) e))
      ];
      ready = λ other there. inl there;
      still_noted = rest_still items rest x same;
      still_ready = All-contains_itself c.args.self.now.ready.items;
      ordered = (c.in_ok-first.ensures.heap_order c.requires.ordered).0;
      left = let n = length_permutation items (x ∷ rest) same in omega arith;
    }
