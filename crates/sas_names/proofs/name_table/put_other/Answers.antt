-- The name has the value in the ordered map.
use Rattle.sas_names.proofs.Imports.{arith, ◌≡◌, ℕ, List, ap, subst, ◌∙◌, ◌++◌, PutsOther, other_of}
use Rattle.sas_names.proofs.TablePuts.{PutsOther-write}
use Rattle.sas_names.proofs.name_table.put_other.Goals as goal

pub returns-clause-had : goal.returns-clause-had
returns-clause-had g c = search (arith, other_of)

pub returns-clause-puts : goal.returns-clause-puts
returns-clause-puts g c =
    let key : c.extend_from_slice.new.self.items ≡ c.args.name.now =
    c.in_ok-extend_from_slice.ensures.items ∙ ap (λ (front : List ℕ). front ++ c.args.name.now) c.new-key.ensures.items in
    subst (λ name. PutsOther name c.args.value c.args.others.now c.insert.new.self) key
    (PutsOther-write c.args.others.now c.insert.new.self c.extend_from_slice.new.self c.args.value c.in_ok-insert.ensures.updates)
