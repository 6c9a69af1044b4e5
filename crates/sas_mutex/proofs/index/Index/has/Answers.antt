-- A group that isn't found is above those before the index and below those after it.
use Rattle.sas_mutex.proofs.Imports.{◌≡◌, ℕ, ◌<◌, ◌≤◌, ◌↔◌, List, length, get_or, Result, Ok, Err, true, false, refl, ◌∙◌, inl, inr, arith, Contains, MatchResult, is_ok, cases_lt, get_or_default, searched, fact_number, groups_of}
use Rattle.sas_mutex.proofs.index.Index.has.Goals as goal

found : (xs : List ℕ) (x : ℕ) (r : Result ℕ ℕ)
    → MatchResult r (λ i. (i < length xs) × (get_or xs i 0 ≡ x)) (λ i. (i ≤ length xs) × ((k : ℕ) → k < i → get_or xs k 0 < x) × ((k : ℕ) → i ≤ k → k < length xs → x < get_or xs k 0))
    → (is_ok r ≡ true) ↔ Contains xs x
found xs x (Ok i) h = ((λ t. (i, h.0, get_or_default xs i x 0 h.0 ∙ h.1)), (λ there. refl))
found xs x (Err i) h = (
  (λ t. (let no : false ≡ true = t in absurd cc)),
  (λ there. (let is : get_or xs there.0 0 ≡ x = get_or_default xs there.0 0 x there.1 ∙ there.2 in
      elim (cases_lt there.0 i) [
        | inl below ↦ (let lower = h.1 there.0 below in absurd (omega arith))
        | inr above ↦ (let higher = h.2 there.0 above there.1 in absurd (omega arith))
      ])),
)

pub returns-else-groups-le-LINEAR_LIMIT : goal.returns-else-groups-le-LINEAR_LIMIT
returns-else-groups-le-LINEAR_LIMIT c =
    let groups = groups_of c.args.self.now c.args.fact in
    rw (c.is_ok.ensures.value) (found groups c.args.group c.binary_search.result (searched groups c.args.group c.binary_search.result (rw c.groups_of-groups.ensures at c.binary_search.ensures.position) (λ i j le lt. c.args.self.now.ascending (fact_number c.args.self.now.firsts.items c.args.fact) i j 0 le lt)))
