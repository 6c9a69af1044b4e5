-- One more fact is recorded.
use Rattle.sas_mutex.proofs.Imports.{◌≡◌, ◌<◌, ℕ, List, [], ◌++◌, length, ap, subst, ◌∙◌, append-nil, arith, IfSome, Option, All, Contains, All-contains, Fact, Parts, EffectPlace, FactExists, known_at, known_left, turns_begin, turn_has, turn_more}
use Rattle.sas_mutex.proofs.Existing.{variable_below, groups_below}
use Rattle.sas_mutex.proofs.NotesOfFacts.{blank_same}
use Rattle.sas_mutex.proofs.FromNotes.{IsFiring}
use Rattle.sas_mutex.proofs.TaskFacts.{known_here_exist}
use Rattle.sas_mutex.proofs.KnownFacts.{none_so_far, one_so_far, refused_so_far, from_still, all_known}
use Rattle.sas_mutex.proofs.effects.FiringEffect.note.Goals as goal

all_came : (all came left : List Fact) → all ≡ came ++ left → left ≡ [] → all ≡ came
all_came all came left is none = is ∙ (ap (λ (facts : List Fact). came ++ facts) none ∙ append-nil came)

chosen_below : (p : Parts) (all : List Fact) (apart : Option Fact) (n : ℕ) → All (FactExists p.variables) all → n ≡ length p.variables → IfSome apart (Contains all)
    → IfSome apart (λ (fact : Fact). fact.var < n)
chosen_below p all h1 n exist same chosen = search (arith, variable_below)

pub set_apart-requires : goal.set_apart-requires
set_apart-requires g c =
    let f = c.args.self.now in
    let fits = subst (λ (s : EffectPlace). IsFiring s c.self.inside.index.now c.self.inside.change) c.self.view_is c.self.invariant in
    let exist = known_here_exist f.task fits.0 f.operator fits.2 f.effect fits.3 in
    chosen_below f.task (known_at f.task f.operator f.effect) c.widest_known-widest.result (length c.args.recorded.now.known.values)
    exist c.requires.clean.known.wide.variables c.widest_known-widest.ensures

pub loop-fact-init : goal.loop-fact-init
loop-fact-init g c = search (arith, known_here_exist, turns_begin, none_so_far, blank_same)

pub note-requires-clause-value : goal.note-requires-clause-value
note-requires-clause-value g c =
    let f = c.args.self.now in
    let fits = subst (λ (s : EffectPlace). IsFiring s c.self.inside.index.now c.self.inside.change) c.self.view_is c.self.invariant in
    let exist = known_here_exist f.task fits.0 f.operator fits.2 f.effect fits.3 in
    let inv = c.loop-fact.invariant in
    let within = turn_has inv.turns c.in-Some.ensures.steps in
    let below = variable_below f.task c.in-Some.fact (All-contains (FactExists f.task.variables) (known_at f.task f.operator f.effect) c.in-Some.fact exist within) in
    let wide = inv.so_far.from.wide.variables in
    omega arith

pub note-requires-clause-groups : goal.note-requires-clause-groups
note-requires-clause-groups g c =
    let f = c.args.self.now in
    let fits = subst (λ (s : EffectPlace). IsFiring s c.self.inside.index.now c.self.inside.change) c.self.view_is c.self.invariant in
    let exist = known_here_exist f.task fits.0 f.operator fits.2 f.effect fits.3 in
    let inv = c.loop-fact.invariant in
    let within = turn_has inv.turns c.in-Some.ensures.steps in
    groups_below f.task c.self.inside.index.now c.in-Some.fact (length c.loop-fact.recorded.known.groups) fits.1
    (All-contains (FactExists f.task.variables) (known_at f.task f.operator f.effect) c.in-Some.fact exist within) inv.so_far.from.wide.groups

pub returns-then-not-note-clause-yes : goal.returns-then-not-note-clause-yes
returns-then-not-note-clause-yes g c t =
    let f = c.args.self.now in
    let fits = subst (λ (s : EffectPlace). IsFiring s c.self.inside.index.now c.self.inside.change) c.self.view_is c.self.invariant in
    let exist = known_here_exist f.task fits.0 f.operator fits.2 f.effect fits.3 in
    let inv = c.loop-fact.invariant in
    let within = turn_has inv.turns c.in-Some.ensures.steps in
    refused_so_far exist fits.1 inv.so_far c.in-Some.fact within (c.note.ensures.no c.if-not-note.true)

pub returns-then-not-note-clause-from : goal.returns-then-not-note-clause-from
returns-then-not-note-clause-from g c =
    let f = c.args.self.now in
    let fits = subst (λ (s : EffectPlace). IsFiring s c.self.inside.index.now c.self.inside.change) c.self.view_is c.self.invariant in
    let exist = known_here_exist f.task fits.0 f.operator fits.2 f.effect fits.3 in
    let inv = c.loop-fact.invariant in
    let within = turn_has inv.turns c.in-Some.ensures.steps in
    record {
      known = from_still exist fits.1 inv.so_far c.in-Some.fact within c.note.ensures.changes;
      others = inv.others;
    }

pub loop-fact-preserved : goal.loop-fact-preserved
loop-fact-preserved g c =
    let f = c.args.self.now in
    let fits = subst (λ (s : EffectPlace). IsFiring s c.self.inside.index.now c.self.inside.change) c.self.view_is c.self.invariant in
    let exist = known_here_exist f.task fits.0 f.operator fits.2 f.effect fits.3 in
    let inv = c.loop-fact.invariant in
    let within = turn_has inv.turns c.in-Some.ensures.steps in
    record {
      turns = turn_more inv.turns c.in-Some.ensures.steps (All-contains (FactExists f.task.variables) (known_at f.task f.operator f.effect) c.in-Some.fact exist within);
      so_far = one_so_far exist fits.1 inv.so_far c.in-Some.fact within (c.note.ensures.yes c.if-not-note.false) c.note.ensures.changes;
      others = inv.others;
    }

pub returns-clause-notes : goal.returns-clause-notes
returns-clause-notes g c t =
    let f = c.args.self.now in
    let fits = subst (λ (s : EffectPlace). IsFiring s c.self.inside.index.now c.self.inside.change) c.self.view_is c.self.invariant in
    let exist = known_here_exist f.task fits.0 f.operator fits.2 f.effect fits.3 in
    let inv = c.loop-fact.invariant in
    record {
      one_each = c.requires.one_each;
      noted = record {
        are = all_known exist (all_came (known_at f.task f.operator f.effect) c.loop-fact.yielded (known_left c.loop-fact.fact-iterator) inv.turns.parts c.in-None.ensures.steps.0) inv.so_far;
        from = record { known = inv.so_far.from; others = inv.others };
      };
    }

pub returns-clause-from : goal.returns-clause-from
returns-clause-from g c = record { known = c.loop-fact.invariant.so_far.from; others = c.loop-fact.invariant.others }
