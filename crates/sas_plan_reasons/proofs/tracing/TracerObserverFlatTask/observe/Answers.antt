-- The line of one more step, and behind it those of what it changed.
use Rattle.sas_plan_reasons.proofs.Imports.{refl, sym, ap, subst, ◌∙◌, length, pushes_then, goes_state, CanList, Tracer}
use Rattle.std.proofs.lemmas.Option.{IfSome_then}
use Rattle.sas_plan_reasons.proofs.Noted.{step_there}
use Rattle.sas_plan_reasons.proofs.Standing.{traced_next}
use Rattle.sas_plan_reasons.proofs.tracing.TracerObserverFlatTask.observe.Goals as goal

pub push_step_line-requires : goal.push_step_line-requires
push_step_line-requires g c =
    let (start, first, before, told, derived) = c.requires.told in
    (step_there c.args.task.now told.layered before c.args.self.now.printed.now.values told.sees.through c.args.operator c.args.state.now told.through).0

pub list-requires-clause-operator : goal.list-requires-clause-operator
list-requires-clause-operator g c =
    let (start, first, before, told, derived) = c.requires.told in
    (step_there c.args.task.now told.layered before c.args.self.now.printed.now.values told.sees.through c.args.operator c.args.state.now told.through).0

pub list-requires-clause-fits : goal.list-requires-clause-fits
list-requires-clause-fits g c = (let (start, first, before, told, derived) = c.requires.told in (goes_state c.args.task.now before c.args.self.now.printed.now.values told.sees.through).one_each)

pub list-requires-clause-step : goal.list-requires-clause-step
list-requires-clause-step g c =
    let (start, first, before, told, derived) = c.requires.told in
    (step_there c.args.task.now told.layered before c.args.self.now.printed.now.values told.sees.through c.args.operator c.args.state.now told.through).1

pub list-requires-clause-derived : goal.list-requires-clause-derived
list-requires-clause-derived g c =
    let (start, first, before, told, derived) = c.requires.told in
    IfSome_then c.args.derived derived (λ listed lists. lists c.args.self.now.printed.now.values told.sees.through)

pub push_listed-requires-clause-fits : goal.push_listed-requires-clause-fits
push_listed-requires-clause-fits g c =
    let (start, first, before, told, derived) = c.requires.told in
    ap length c.list.ensures.values ∙ (goes_state c.args.task.now before c.args.self.now.printed.now.values told.sees.through).one_each

pub push_listed-requires-clause-state : goal.push_listed-requires-clause-state
push_listed-requires-clause-state g c =
    let (start, first, before, told, derived) = c.requires.told in
    (step_there c.args.task.now told.layered before c.args.self.now.printed.now.values told.sees.through c.args.operator c.args.state.now told.through).1.state.one_each

pub returns : goal.returns
returns g c = record {
  sees = λ start first before told.
      let p = c.args.task.now in
      let both = pushes_then _ _ _ _ _ _ c.push_step_line.ensures (rw c.list.ensures.values at c.push_listed.ensures.pushes) in
      let old = c.args.self.now in
      let new : Tracer g.row.W.Denot = record {
        out = record { ref_ptr = old.out.ref_ptr; ghost_name = old.out.ghost_name; now = c.push_listed.new.sink.out.now };
        pieces = record { ref_ptr = old.pieces.ref_ptr; ghost_name = old.pieces.ghost_name; now = c.push_listed.new.sink.pieces.now };
        printed = record { ref_ptr = old.printed.ref_ptr; ghost_name = old.printed.ghost_name; now = c.push_listed.new.self };
        short = c.push_listed.new.sink.short;
        status = old.status;
      } in
      traced_next g.W.Write.contents p told.layered first old new before c.args.operator c.args.state.now told.sees told.through c.args.step told.number
      (subst (CanList p) (sym c.push_listed.ensures.listing) c.list.ensures.listing) c.push_listed.ensures.printed
      (record { same = refl; pieces = refl; status = refl; text = λ start text pushed. both.text start text pushed });
}
