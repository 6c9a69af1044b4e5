-- The derived variables get their defaults.
use Rattle.sas_axioms.proofs.Imports.{length, ap, ◌∙◌, basic_kept, at_default, state_reset}
use Rattle.sas_axioms.proofs.firing.LayerSettler.begin.Goals as goal

pub returns : goal.returns
returns g c =
    let was = c.requires.prepared in
    let default = at_default c.args.layered.now c.args.derived.now c.args.self.now.counted.values c.args.state.now c.copy_spans.new.self c.requires.derived c.copy_spans.ensures was.default in
    let copied = c.from_vec.ensures ∙ (c.copy_from_slice.ensures.items ∙ c.as_slice.ensures) in
    record {
      prepared = record { counted = c.follow.ensures.counts; default = rw c.follow.ensures.values default; rules_of = was.rules_of; room = record { one_each = ap length copied ∙ c.follow.ensures.counts.counts.one_each; variables = was.room.variables; sources = was.room.sources }; empty = was.empty };
      state = state_reset c.args.layered.now c.args.derived.now c.args.self.now.counted.values c.args.state.now c.copy_spans.new.self c.requires.derived c.copy_spans.ensures was.default was.counted.ranged c.requires.state;
      basic = basic_kept c.args.layered.now c.args.derived.now c.args.self.now.counted.values c.args.state.now c.copy_spans.new.self c.requires.derived c.copy_spans.ensures;
      default = default;
      counts = rw (copied, ← c.follow.ensures.values) c.follow.ensures.counts.counts;
    }
