-- The facts are processed one by one.
use Rattle.sas_axioms.proofs.Imports.{◌≡◌, ℕ, ◌+◌, ◌<◌, List, ◌∷◌, length, get_or, set, drop, subst, ◌∙◌, arith, drop_more, at_drop_all, All-head, Fact, Parts, HaveGone, Holds, IsBasic, IsBetween, state_set}
use Rattle.sas_axioms.proofs.CountingEntries.{same_more}
use Rattle.sas_axioms.proofs.GoneSteps.{counted_nothing, counted_more, gone_one, gone_same, gone_all}
use Rattle.sas_axioms.proofs.following.count_gone.Goals as goal
use Rattle.sas_axioms.proofs.following.count_gone.Goals.{then-moved+in_ok-recount, else-moved}

abbrev no_fact : Fact
no_fact = record { var = 0; value = 0 }

-- the variable of the next fact exists
exists_here : (p : Parts) (gone : List Fact) (i : ℕ) → i < length gone → (s s' : List ℕ) → HaveGone p (drop i gone) s s' → (get_or gone i no_fact).var < length p.variables
exists_here p gone i lt s s' have = search (arith, get_or, drop, drop_more, length)

pub loop-fact-init : goal.loop-fact-init
loop-fact-init g c = search (arith, counted_nothing)

pub recount-requires-clause-counts : goal.recount-requires-clause-counts
recount-requires-clause-counts g c =
    let gone = c.args.gone.now in
    let i = c.loop-fact.fact-index in
    let so_far = c.loop-fact.invariant.so_far in
    let have : HaveGone c.args.indexed.now (get_or gone i no_fact ∷ drop (i + 1) gone) so_far.1 c.args.state.now = rw (drop_more gone i no_fact c.loop-fact-test.true) at so_far.2 in
    (so_far.1, so_far.3.track.counts, All-head (Holds (λ v. get_or so_far.1 v 0)) (get_or gone i no_fact) (drop (i + 1) gone) have.held)

pub returns-clause-between : goal.returns-clause-between
returns-clause-between g c =
    let so_far = c.loop-fact.invariant.so_far in (
      so_far.0,
      subst (λ m. IsBetween c.args.indexed.now so_far.0 0 m c.loop-fact.work) (gone_all c.args.indexed.now so_far.1 c.args.state.now (omega (arith, so_far.3.track.state.one_each, c.requires.state.one_each))
          (subst (λ (xs : List Fact). HaveGone c.args.indexed.now xs so_far.1 c.args.state.now) (at_drop_all (λ xs. xs) c.args.gone.now c.loop-fact.fact-index (omega arith)) so_far.2)) so_far.3,
    )

pub loop-fact-preserved : goal.loop-fact-preserved
loop-fact-preserved g c =
    let p = c.args.indexed.now in
    let gone = c.args.gone.now in
    let i = c.loop-fact.fact-index in
    let state = c.args.state.now in
    let inv = c.loop-fact.invariant in
    let f : Fact = get_or gone i no_fact in
    let rest : List Fact = drop (i + 1) gone in
    let next : drop i gone ≡ f ∷ rest = drop_more gone i no_fact c.loop-fact-test.true in
    let s = inv.so_far.0 in
    let m = inv.so_far.1 in
    let between = inv.so_far.3 in
    let here : HaveGone p (f ∷ rest) m state = rw next at inv.so_far.2 in
    let within : f.var < length m = (let e = between.track.counts.known in let x = All-head (λ (h : Fact). h.var < length p.variables) f rest here.exist in omega arith) in
    elim c.if-moved.branch [
      | then-moved+in_ok-recount w ↦
          (let value_is : c.value.result ≡ get_or state f.var 0 = c.value.ensures in
          let moves = w.in_ok-recount.ensures.moves m between.track.counts (All-head (Holds (λ v. get_or m v 0)) f rest here.held) in
          rw w.work-is record {
            same = same_more c.args.work.now c.loop-fact.work w.recount.new.work inv.same w.recount.ensures.same;
            so_far = (
              s,
              set m f.var (get_or state f.var 0),
              gone_one p f rest m state here within,
              counted_more p s m c.loop-fact.work w.recount.new.work f.var (get_or state f.var 0) (All-head (λ (h : Fact). IsBasic p h.var) f rest here.basic)
                  (state_set p m f.var (get_or state f.var 0) between.track.state (c.requires.state.in_range f.var (omega (arith, within, between.track.state.one_each)))) w.recount.ensures.same.sources between (rw value_is at moves),
            );
          })
      | else-moved w ↦ rw w.work-is record {
        same = inv.same;
        so_far = (s, m, gone_same p f rest m state here within (w.if-moved.false ∙ c.value.ensures), between);
      }
    ]

pub value-requires : goal.value-requires
value-requires g c = search (arith, exists_here)

pub recount-requires-clause-exists : goal.recount-requires-clause-exists
recount-requires-clause-exists g c = search (arith, exists_here)
