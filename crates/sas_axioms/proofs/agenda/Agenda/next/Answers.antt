-- The last ready rule, or else a noted one.
use Rattle.sas_axioms.proofs.Imports.{◌≡◌, ◌∷◌, ◌++◌, [], length, get_or, sym, arith, inl, inr, ap, length-append, heap_items, All-contains_itself, Contains-get_or, Contains-append_left, Contains-push, Contains-push_cases}
use Rattle.sas_axioms.proofs.agenda.Agenda.next.Goals as goal

pub returns-in-Some-clause-some : goal.returns-in-Some-clause-some
returns-in-Some-clause-some c =
    let ready = c.args.self.now.ready.items in
    let rest = c.pop.new.self.items in
    let x = c.in-Some.rule in
    let is : ready ≡ rest ++ x ∷ [] = c.in-Some.ensures.items in
    record {
      was = inr (rw is (Contains-push rest x));
      noted = λ m other there. inl there;
      ready = λ other there. elim (Contains-push_cases rest x other (rw is at there)) [ inl still ↦ inl still | inr e ↦ inr (sym e) ];
      still_noted = All-contains_itself (heap_items c.args.self.now.noted);
      still_ready = rw is (λ k d lt. Contains-append_left rest (x ∷ []) (get_or rest k d) (Contains-get_or rest k d lt));
      ordered = c.requires.ordered;
      left = let n = length-append rest (x ∷ []) in omega (arith, ap length is, n);
    }
