-- Operators are valid exactly if, where the first of them lead, the rest is valid.
use Rattle.sas_run.proofs.Imports.{◌≡◌, ℕ, ◌+◌, ◌-◌, ◌≤◌, List, [], ◌∷◌, ◌++◌, refl, sym, subst, arith, Parts, IsState, IsLayered, IsSettled, Settles, cost_of, cost_of_all, sum_by-cons, GoThrough, GoesThroughFrom, IsValidFrom, RestIsValid}
use Rattle.sas_run.proofs.GoingByNumbers.{from, go_one_way}

module _ (p : Parts) where
  -- operators go through exactly if the first and the rest do
  go_join : (s made mid rest last : List ℕ) → GoThrough p s made mid → GoThrough p mid rest last → GoThrough p s (made ++ rest) last
  go_join s [] mid rest last goes on = subst (λ z. GoThrough p z rest last) goes on
  go_join s (o ∷ os) mid rest last (there, its, by, goes) on = (there, its, by, go_join there os mid rest last goes on)

  go_behind : (s made rest last : List ℕ) → GoThrough p s (made ++ rest) last → (mid : List ℕ) × GoThrough p s made mid × GoThrough p mid rest last
  go_behind s [] rest last goes = (s, refl, goes)
  go_behind s (o ∷ os) rest last (there, its, by, goes) = let w = go_behind there os rest last goes in (w.0, (there, its, by, w.1), w.2)

  -- a state to which operators lead is a settled one
  go_rests : (s operators last : List ℕ) → IsState p.variables s × IsSettled p s → GoThrough p s operators last → IsState p.variables last × IsSettled p last
  go_rests s [] last rests goes = subst (λ z. IsState p.variables z × IsSettled p z) (sym goes) rests
  go_rests s (o ∷ os) last rests (there, its, by, goes) = go_rests there os last (by.state, by.settled) goes

  pub goes_rests : {start : List ℕ} (operators last : List ℕ) → GoesThroughFrom p start operators last → IsState p.variables last × IsSettled p last
  goes_rests operators last through = go_rests through.initial operators last (through.starts.state, through.starts.settled) through.goes

  -- and its own start
  pub starts_here : (s : List ℕ) → IsState p.variables s × IsSettled p s → Settles p s s
  starts_here s rests = record { state = rests.0; basic = λ var basic. refl; settled = rests.1 }

  costs_join : (made rest : List ℕ) → cost_of_all p (made ++ rest) ≡ cost_of_all p made + cost_of_all p rest
  costs_join [] rest = omega arith
  costs_join (o ∷ os) rest =
      let more = costs_join os rest in
      let all = sum_by-cons (cost_of p) o (os ++ rest) in
      let front = sum_by-cons (cost_of p) o os in
      omega arith

  module _ (layered : IsLayered p) (start made rest s : List ℕ) (cost : ℕ) (through : GoesThroughFrom p start made s) where
    to : IsValidFrom p start (made ++ rest) cost → (cost_of_all p made ≤ cost) × IsValidFrom p s rest (cost - cost_of_all p made)
    to valid =
        let w = go_behind through.initial made rest valid.last (from p layered (made ++ rest) valid.last through.initial through.starts valid.through) in
        let here : w.0 ≡ s = go_one_way p layered through.initial made w.0 s w.1 through.goes in
        let sum = costs_join made rest in
        let costs = valid.costs in (
          omega arith,
          record {
            last = valid.last;
            through = record { initial = s; starts = starts_here s (goes_rests made s through); goes = subst (λ z. GoThrough p z rest valid.last) here w.2 };
            goal = valid.goal;
            costs = omega arith;
          },
        )

    back : (cost_of_all p made ≤ cost) × IsValidFrom p s rest (cost - cost_of_all p made) → IsValidFrom p start (made ++ rest) cost
    back (within, valid) =
        let on = from p layered rest valid.last s (starts_here s (goes_rests made s through)) valid.through in
        let sum = costs_join made rest in
        let costs = valid.costs in
        record {
          last = valid.last;
          through = record { initial = through.initial; starts = through.starts; goes = go_join through.initial made s rest valid.last through.goes on };
          goal = valid.goal;
          costs = omega arith;
        }

pub rest_is_valid : RestIsValid
rest_is_valid p start made rest s cost layered through = (to p layered start made rest s cost through, back p layered start made rest s cost through)
