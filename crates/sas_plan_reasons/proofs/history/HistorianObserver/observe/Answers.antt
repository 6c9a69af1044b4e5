-- One more step is noted.
use Rattle.sas_meaning.specs.Steps.{Step}
use Rattle.std.proofs.lemmas.Option.{IfSome_then}
use Rattle.sas_plan_reasons.proofs.Imports.{◌≡◌, ℕ, ◌<◌, length, refl, sym, ap, subst, ◌∙◌, All, Contains, operator_at, ListsDerived, Historian, Changes, Notes, goes_state}
use Rattle.sas_plan_reasons.proofs.Looking.{notes_all}
use Rattle.sas_plan_reasons.proofs.Noted.{step_there, noted_next}
use Rattle.sas_plan_reasons.proofs.history.HistorianObserver.observe.Goals as goal

pub note_other-requires-clause-state : goal.note_other-requires-clause-state
note_other-requires-clause-state g c = (let (start, first, before, told, derived) = c.requires.told in goes_state c.args.task.now before c.args.self.now.changes.values told.sees.through)

pub list-requires-clause-before : goal.list-requires-clause-before
list-requires-clause-before g c =
    let (start, first, before, told, derived) = c.requires.told in
    let fits = goes_state c.args.task.now before c.args.self.now.changes.values told.sees.through in
    ap (λ (h : Historian). length h.changes.values) c.note_other.ensures.rest ∙ fits.one_each

pub list-requires-clause-step : goal.list-requires-clause-step
list-requires-clause-step g c =
    let (start, first, before, told, derived) = c.requires.told in
    let p = c.args.task.now in
    subst (λ s. Step p s (operator_at p c.args.operator) c.args.state.now) (sym (ap (λ (h : Historian). h.changes.values) c.note_other.ensures.rest))
    (step_there p told.layered before c.args.self.now.changes.values told.sees.through c.args.operator c.args.state.now told.through).1

pub list-requires-clause-derived : goal.list-requires-clause-derived
list-requires-clause-derived g c =
    let (start, first, before, told, derived) = c.requires.told in
    IfSome_then c.args.derived derived (λ listed lists. subst (λ s. ListsDerived c.args.task.now s c.args.state.now listed.now) (sym (ap (λ (h : Historian). h.changes.values) c.note_other.ensures.rest))
    (lists c.args.self.now.changes.values told.sees.through))

pub note-requires-clause-places : goal.note-requires-clause-places
note-requires-clause-places g c =
    let (start, first, before, told, derived) = c.requires.told in
    let p = c.args.task.now in
    let s = c.args.self.now.changes.values in
    let fits = goes_state p before s told.sees.through in
    let step = step_there p told.layered before s told.sees.through c.args.operator c.args.state.now told.through in
    let same = sym (step.1).state.one_each in
    record {
      values = ap (λ (h : Historian). length h.changes.values) c.note_other.ensures.rest ∙ (fits.one_each ∙ same);
      since = ap (λ (h : Historian). length h.changes.since.items) c.note_other.ensures.rest ∙ (told.sees.one_each ∙ same);
    }

pub note-requires-clause-exist : goal.note-requires-clause-exist
note-requires-clause-exist g c =
    let (start, first, before, told, derived) = c.requires.told in
    let p = c.args.task.now in
    let s = c.args.self.now.changes.values in
    let fits = goes_state p before s told.sees.through in
    let step = step_there p told.layered before s told.sees.through c.args.operator c.args.state.now told.through in
    let same = ap (λ (h : Historian). length h.changes.values) c.note_other.ensures.rest ∙ (fits.one_each ∙ sym (step.1).state.one_each) in
    rw c.as_slice.ensures.value (subst (λ n. All (λ (var : ℕ). var < n) c.list.new.self.vars.items) same c.list.ensures.covers.exist)

pub returns : goal.returns
returns g c = record {
  sees = λ start first before told.
      let p = c.args.task.now in
      let s = c.args.self.now.changes.values in
      let next = c.args.state.now in
      let fits = goes_state p before s told.sees.through in
      let step = step_there p told.layered before s told.sees.through c.args.operator next told.through in
      let same : c.note_other.new.self.changes ≡ c.args.self.now.changes = ap (λ (h : Historian). h.changes) c.note_other.ensures.rest in
      let noted = subst (λ (changes : Changes). Notes c.args.step next (Contains c.list.new.self.vars.items) changes c.note.new.self) same (rw c.as_slice.ensures.value at c.note.ensures) in
      let covers = rw (ap (λ (h : Historian). h.changes.values) c.note_other.ensures.rest) at c.list.ensures.covers in
      noted_next p told.layered first c.args.self.now _ before c.args.operator next told.sees told.through c.args.step told.number
      (ap (λ (h : Historian). h.nexts.now) c.note_other.ensures.rest) c.list.ensures.list
      (notes_all s c.args.step next c.list.new.self.vars.items c.args.self.now.changes c.note.new.self refl (fits.one_each ∙ sym (step.1).state.one_each) covers noted)
      c.note_other.ensures.adds;
}
