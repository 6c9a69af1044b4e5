-- The list of the value has one operator more, and the others are as before.
use Rattle.sas_run.proofs.Imports.{ap, ◌∙◌, refl, ◌++◌, ◌∷◌, [], Vec}
use Rattle.sas_run.specs.LongChains.{items_of}
use Rattle.sas_run.proofs.Collecting.{apart_from, items_or_none}
use Rattle.sas_run.proofs.long_chains.LongChain.push.Goals as goal

pub returns : goal.returns
returns c =
    let put = c.in_ok-insert.ensures.updates in
    let taken = c.remove.ensures in
    record {
      var = refl;
      here = ap items_of put.1 ∙ c.in_ok-push.ensures.items ∙ ap (λ l. l ++ c.args.operator ∷ []) (ap (λ (v : Vec _). v.items) c.unwrap_or-operators.ensures
          ∙ items_or_none c.remove.result c.new-none.result c.new-none.ensures.items ∙ ap items_of taken.value);
      others = λ other apart. let no = apart_from c.args.value other apart in ap items_of (put.2 other no ∙ taken.updates.2 other no);
    }
