use Rattle.std.proofs.Common.{[], ◌∷◌, refl, subst, sym, codes}
use Rattle.sas_words.specs.Calls.{name_of}
use Rattle.sas_words.specs.declared.calls.Named.TheVariants.{Mutex, Plan}
use Rattle.sas_tool.specs.Endings.{Puts}
use Rattle.sas_tool.specs.Says.{Says}
use Rattle.sas_tool.proofs.Answering.{refused_does, refused_groups, refused_says, refused_twice, refused_words}
use Rattle.sas_tool.proofs.Jobbing.{never_twice}
use Rattle.sas_tool.proofs.Judging.{refused_plans}
use Rattle.sas_tool.proofs.program.answer_words.Goals as goal

pub returns-in-Ok-clause-headline : goal.returns-in-Ok-clause-headline
returns-in-Ok-clause-headline g c = λ why t p b b' before call et ep ew.
    let does = c.answer_job.ensures.does Plan why _ (t ∷ p ∷ []) refl (c.in-Ok.ensures.taken (codes "plan") why (t ∷ p ∷ []) call) in
    subst (Says b b' _) (sym does.ends) (does.ran.says refl b b' before et ep ew)

pub returns-in-Ok-clause-invariants : goal.returns-in-Ok-clause-invariants
returns-in-Ok-clause-invariants g c = λ why t b before call et ew.
    let does = c.answer_job.ensures.does Mutex why _ (t ∷ []) refl (c.in-Ok.ensures.taken (codes "mutex") why (t ∷ []) call) in
    λ less. does.ran.invariants refl b before et ew (rw (← does.ends) less)

pub returns-in-Ok-clause-does : goal.returns-in-Ok-clause-does
returns-in-Ok-clause-does g c = λ n why question files is call once. c.answer_job.ensures.does n why question files is (c.in-Ok.ensures.taken (name_of n) why files call)

pub returns-in-Ok-clause-twice : goal.returns-in-Ok-clause-twice
returns-in-Ok-clause-twice g c = λ n why question is call. absurd (never_twice n why question c.in-Ok.job is (c.in-Ok.ensures.taken (name_of n) why _ call) c.in-Ok.ensures.once)

pub returns-in-Ok-clause-others : goal.returns-in-Ok-clause-others
returns-in-Ok-clause-others g c = λ none. let only = c.in-Ok.ensures.only in absurd (none only.0 only.1 only.2 only.3)

pub returns-in-Err-clause-headline : goal.returns-in-Err-clause-headline
returns-in-Err-clause-headline g c = λ why t p b b' before call et ep ew.
    refused_says b b' _ (t ∷ p ∷ []) (λ text. Puts g.E.Write.contents text c.args.errors.now c.say_fault.new.errors) c.say_fault.result c.in-Err.fault (c.in-Err.ensures.taken (codes "plan") why (t ∷ p ∷ []) call) c.say_fault.ensures

pub returns-in-Err-clause-invariants : goal.returns-in-Err-clause-invariants
returns-in-Err-clause-invariants g c = λ why t b before call et ew.
    refused_groups _ (t ∷ []) (λ text. Puts g.E.Write.contents text c.args.errors.now c.say_fault.new.errors) c.say_fault.result c.in-Err.fault (c.in-Err.ensures.taken (codes "mutex") why (t ∷ []) call) c.say_fault.ensures

pub returns-in-Err-clause-does : goal.returns-in-Err-clause-does
returns-in-Err-clause-does g c = λ n why question files is call once.
    refused_does question _ _ _ files _ _ _ c.say_fault.result c.in-Err.fault refl once (c.in-Err.ensures.taken (name_of n) why files call) c.say_fault.ensures

pub returns-in-Err-clause-twice : goal.returns-in-Err-clause-twice
returns-in-Err-clause-twice g c = λ n why question is call.
    (refused_twice (codes "-" ∷ codes "-" ∷ []) (λ text. Puts g.E.Write.contents text c.args.errors.now c.say_fault.new.errors) c.say_fault.result c.in-Err.fault (c.in-Err.ensures.taken (name_of n) why _ call) c.say_fault.ensures, refl)

pub returns-in-Err-clause-others : goal.returns-in-Err-clause-others
returns-in-Err-clause-others g c = λ none. (refl, refused_words (λ text. Puts g.E.Write.contents text c.args.errors.now c.say_fault.new.errors) c.say_fault.result c.in-Err.fault c.say_fault.ensures)

pub returns-in-Ok-clause-plans : goal.returns-in-Ok-clause-plans
returns-in-Ok-clause-plans g c = λ why t labels call. c.answer_job.ensures.plans why t labels (c.in-Ok.ensures.taken (codes "plans") why (t ∷ labels) call)

pub returns-in-Err-clause-plans : goal.returns-in-Err-clause-plans
returns-in-Err-clause-plans g c = λ why t labels call.
    refused_plans why _ t labels _ _ _ c.say_fault.result c.in-Err.fault refl (c.in-Err.ensures.taken (codes "plans") why (t ∷ labels) call) c.say_fault.ensures
