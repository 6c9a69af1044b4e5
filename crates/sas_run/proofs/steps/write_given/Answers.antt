-- The given value of one more variable is written and removed.
use Rattle.std.proofs.lemmas.Grind.{elements}
use Rattle.sas_run.proofs.Imports.{◌≡◌, ◌<◌, ℕ, List, Option, length, set, None, Some, sym, ap, subst, ◌∙◌, arith, IsTrue, cases_eq, Change, operator_at, effect_at, IsBasic, state_set, DeletedFacts, NotesOn, given_to, no_effect}
use Rattle.sas_run.proofs.Ranges.{change_within}
use Rattle.sas_run.proofs.Giving.{HasGiven, all_taken, others_given, fewer_on_effects, one_more_taken, written_same}
use Rattle.sas_run.proofs.Deleted.{starting, notes_on, deleted_more}
use Rattle.sas_run.proofs.NextStates.{effects_basic}
use Rattle.sas_run.proofs.steps.write_given.Goals as goal
use Rattle.sas_run.proofs.steps.write_given.Goals.{in-Some, in_default}

pub loop-effect-preserved : goal.loop-effect-preserved
loop-effect-preserved g c =
    let p = c.args.task.now in
    let o = operator_at p c.args.operator in
    let n = c.loop-effect.effect in
    let s = c.loop-effect.state in
    let given = c.loop-effect.given in
    let inv = c.loop-effect.invariant in
    let deleted = c.loop-effect.deleted.facts.items in
    let still = λ (after : DeletedFacts) (notes : NotesOn c.loop-effect.deleted after) (noted : IsTrue after.noted). sym notes.noted ∙ noted in
    let v = c.effect_change-var.result.var in
    let on : v ≡ (effect_at o n).var = ap (λ (change : Change). change.var) c.effect_change-var.ensures in
    let exists : v < length p.variables = change_within p c.task.ensures.well_ranged c.args.operator c.requires.operator n (omega arith) c.effect_change-var.result c.effect_change-var.ensures in
    let basic : IsBasic p v = subst (IsBasic p) (sym on) (effects_basic p c.args.operator c.task.ensures.layered c.requires.operator n no_effect (omega arith)) in
    let read : given_to given v ≡ given_to c.as_slice.result.now v = ap (λ list. given_to list v) (sym c.as_slice.ensures) in
    elim c.match-as_slice-var.branch [
      | in-Some w ↦
          (let value = w.in-Some.value in
          let at : given_to given v ≡ Some value = read ∙ w.in-Some.is in
          let given-is : c.match-as_slice-var.given ≡ set given v None = w.given-is ∙ w.set.ensures in
          let state-is : c.match-as_slice-var.state ≡ set s v value = w.state-is ∙ w.replace.ensures.state in
          let one = inv.on_effects.one_each in
          let len = inv.state.one_each in
          rw (given-is, state-is, w.deleted-is) record {
            state = state_set p s v value inv.state (inv.on_effects.value v value at);
            on_effects = fewer_on_effects given v (omega arith) p o inv.on_effects;
            taken = one_more_taken given v (omega arith) o n on inv.taken;
            written = λ var. written_same given v (omega arith) s value (omega arith) at var ∙ inv.written var;
            deleted = λ noted.
                (let before = still w.replace.new.deleted w.replace.ensures.notes noted in
                deleted_more p (HasGiven given) (HasGiven (set given v None)) n c.args.state.now s deleted (inv.deleted before) v value (omega arith) (value, at) (others_given given v (omega arith)) basic exists w.replace.new.deleted.facts.items
                (w.replace.ensures.deleted before));
            notes = notes_on c.args.deleted.now c.loop-effect.deleted w.replace.new.deleted inv.notes w.replace.ensures.notes;
          })
      | in_default w ↦
          (let none : given_to given v ≡ None = read ∙ w.in_default.is in
          rw (w.given-is, w.state-is, w.deleted-is) record {
            state = inv.state;
            on_effects = inv.on_effects;
            taken = λ k lt. grind (arith, cases_eq k n, on, none, inv.taken k);
            written = inv.written;
            deleted = λ noted.
                (let so_far = inv.deleted noted in
                let few = so_far.few in
                record { gone = so_far.gone; none_left = so_far.none_left; few = omega arith });
            notes = inv.notes;
          })
    ]

pub bounds-as_slice-var : goal.bounds-as_slice-var
bounds-as_slice-var g c = omega (arith, change_within _ c.task.ensures.well_ranged _ c.requires.operator _ (omega arith) _ c.effect_change-var.ensures, ap (λ (list : List (Option ℕ)). length list) c.as_slice.ensures)

pub replace-requires-clause-exists : goal.replace-requires-clause-exists
replace-requires-clause-exists g c = omega (arith, change_within _ c.task.ensures.well_ranged _ c.requires.operator _ (omega arith) _ c.effect_change-var.ensures)

pub set-requires : goal.set-requires
set-requires g c = omega (arith, change_within _ c.task.ensures.well_ranged _ c.requires.operator _ (omega arith) _ c.effect_change-var.ensures)

pub replace-requires-clause-room : goal.replace-requires-clause-room
replace-requires-clause-room g c = search (arith)

pub loop-effect-init : goal.loop-effect-init
loop-effect-init g c = grind (arith, starting)

pub returns-clause-clean : goal.returns-clause-clean
returns-clause-clean g c = all_taken _ _ _ _ c.loop-effect.invariant.on_effects (omega arith) c.loop-effect.invariant.taken

pub returns-clause-written : goal.returns-clause-written
returns-clause-written g c = λ var. rw ((returns-clause-clean g c).none var) at (c.loop-effect.invariant.written var)

pub returns-clause-gone : goal.returns-clause-gone
returns-clause-gone g c noted = (c.loop-effect.invariant.deleted noted).gone

pub bounds : goal.bounds
bounds g c = grind (arith, elements)
