use Rattle.sas_axioms.proofs.Imports.{◌≤◌, ℕ, refl, ◌∙◌, arith, rules, IsSettledAt, settled_where_empty, settled_when_fired, forced_at_default}
use Rattle.sas_axioms.proofs.rounds.RoundsByLayers.settle_next.Goals as goal

pub returns-in_err-layer-clause-settled : goal.returns-in_err-layer-clause-settled
returns-in_err-layer-clause-settled g c =
    let settled : (m : ℕ) → c.args.from ≤ m → IsSettledAt c.args.layered.now m c.args.state.now =
    λ m le. settled_where_empty c.args.layered.now m c.args.state.now (λ o. c.in_err-layer.ensures.none m le o) in
    search rules

pub loop-init : goal.loop-init
loop-init g c = record {
  state = c.requires.state;
  forced = forced_at_default c.args.layered.now c.in_ok-layer.layer c.args.state.now (c.requires.default c.in_ok-layer.layer c.in_ok-layer.ensures.some.0);
  off = λ v off. refl;
}

pub returns-clause-settles : goal.returns-clause-settles
returns-clause-settles g c =
    let next = c.in_ok-layer.ensures.some in
    let ran = c.go_round.ensures in
    record {
      from_on = next.0;
      skipped = λ m le lt. settled_where_empty c.args.layered.now m c.args.state.now
          (λ o. let up : c.in_ok-layer.layer ≤ m = next.2 m le o in omega arith);
      settles = record {
        state = ran.state;
        off = λ v off. c.loop.invariant.off v off ∙ ran.off v off;
        settled = settled_when_fired c.args.layered.now c.in_ok-layer.layer c.go_round.new.state ran.forced (ran.done c.loop-test.false);
      };
    }
