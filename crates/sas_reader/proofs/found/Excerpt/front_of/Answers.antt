use Rattle.sas_reader.proofs.Imports.{ap, ◌∙◌, take, ℕ, List, length, take_min, min_comm, false}
use Rattle.sas_reader.specs.Found.{Kept}
use Rattle.sas_reader.proofs.Keeping.{front_kept}
use Rattle.sas_reader.proofs.found.Excerpt.front_of.Goals as goal

pub returns : goal.returns
returns c =
    let t = c.args.text.now in
    let m = c.min.result in
    let is = c.min.ensures ∙ min_comm (length t) _ in
    ap (λ (l : List ℕ). let k : Kept = record { front = l; cost = false; semicolon = false; inner_return = false } in k) (front_kept t _ _ m (ap (λ (n : ℕ). take n t) is ∙ take_min _ t) c.copy_from_slice.ensures.after)
