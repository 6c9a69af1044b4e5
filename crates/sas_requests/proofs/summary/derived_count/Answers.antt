use Rattle.sas_requests.proofs.Imports.{◌≡◌, ℕ, ◌+◌, ◌<◌, List, [], length, take, get_or, Bool, true, false, sym, ap, ◌∙◌, arith, None, is_some, option_and_then, count_by_more_no, count_by_more_yes, slice_get-get_or, Variable, layer_of}
use Rattle.sas_requests.specs.Summary as spec
use Rattle.sas_requests.proofs.summary.derived_count.Goals as goal
use Rattle.sas_requests.proofs.summary.derived_count.Goals.{then-is_some, else-is_some}

abbrev none : Variable
none = record { name = []; layer = None; values = [] }

abbrev is_derived : Variable → Bool
is_derived v = is_some v.layer

-- the next variable, which is derived if it has a layer
module _ (vs : List Variable) (k : ℕ) (h : k < length vs) where
  reported : (b : Bool) → is_some (layer_of vs k) ≡ b → is_derived (get_or vs k none) ≡ b
  reported b is = ap is_some (sym (ap (option_and_then (λ (v : Variable). v.layer)) (slice_get-get_or vs k none h))) ∙ is

  one_more : is_some (layer_of vs k) ≡ true → spec.derived_count (take (k + 1) vs) ≡ spec.derived_count (take k vs) + 1
  one_more is = count_by_more_yes is_derived vs k none h (reported true is)

  as_many : is_some (layer_of vs k) ≡ false → spec.derived_count (take (k + 1) vs) ≡ spec.derived_count (take k vs)
  as_many is = count_by_more_no is_derived vs k none h (reported false is)

pub loop-var-preserved : goal.loop-var-preserved
loop-var-preserved c = search (arith, length, true, is_some, then-is_some, one_more, else-is_some, as_many, false)
