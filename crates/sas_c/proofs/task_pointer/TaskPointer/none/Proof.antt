-- `none`.
use Rattle.sas_c.proofs.Imports.{◌≡◌, [], ◌∷◌, refl, lit<, proved_at, leaves, None}
use mir.Syntax.{Fn}
use mir.Val.{Val}
use base.Logic.{SProp, emp}
use base.Fml.{ftrue}
use prog.Wp.{Env}
use contract.Monad.{fact, fact_i}
use contract.Running.{tables}
use types.Kit.{‵, raw, ◌⊛◌, ◌$◌, ◌∵◌, !, qed, by, move, keep, use0, split, fjoin}
use types.Part.{agg}
use types.Run.{lit, no_more, and_then, returns, enter}
use types.ByLocal.{alloc_all, pass_all, free_all, look_at, sets, env}
use denote.RattleType.{RattleType}
use denote.RawPtr.{Ptr, null_ptr}
use denote.Steps.{nothing}
use denote.Triple.Entry.{alive}
use denote.Triple.Walked.{Stays, walk_of}
use Rattle.std.specs.contracts.alloc.Global as heap
use Rattle.std.proofs.alloc.Global.TheLaws as heap_laws
use Rattle.sas_c.specs.Holding as held
use Rattle.sas_c.specs.contracts.task_pointer.TaskPointer as task_pointer
use Rattle.sas_c.proofs.PointerValues.{one_val, one_own, one_made}
use Rattle.sas_c.specs.contracts.task_pointer.TaskPointer.none.{ended, clauses}
use Rattle.sas_c.specs.contracts.task_pointer.TaskPointer.none.Key.{name as #self}
use Rattle.sas_c.proofs.task_pointer.TaskPointer.none.Statement.{statement}
use Rattle.sas_c.proofs.task_pointer.TaskPointer.none.Code as compiled

pub none_spec : {M : Type 1} → statement M
none_spec 𝓤 𝓛 𝓜 𝓡 wired =
    let H = 𝓛.H in
    let En₀ = ended in
    let c = clauses 𝓛 𝓜.mem 𝓡.returns in
    let fn : Fn = compiled.function in
    let stays : Stays En₀.signature.params En₀.kept = tt in
    let C = (tables 𝓤 H 𝓜 𝓡 𝓡.env).C in
    let Λ = (tables 𝓤 H 𝓜 𝓡 𝓡.env).Λ in
    let R : RattleType = held.the_row in
    let Z : RattleType = heap.the_row in
    let LZ = heap_laws.the_row_laws in
    proved_at 𝓛 En₀ stays c 𝓜 𝓡 tt #self fn (compiled.unfolded 𝓤 H 𝓜 𝓡 wired) (λ z are.
    let Post : Val → SProp 𝓤 = (walk_of 𝓛 En₀ stays c).post z in
    let p : Ptr = null_ptr in
    let x : (task_pointer.the_row).Denot = record { at = p; task = None } in
    qed 𝓛 ((raw (alive 𝓛 En₀.signature z.0.0 z.0.1) ⊛ ‵ ftrue) ∷ ‵ ftrue ∷ []) ∵ split ! $ keep ! (0 ∷ []) $
    enter ! C Λ fn [] Post $
    alloc_all ! (λ l. pass_all ! refl tt $ let En : Env 𝓤 𝓛.H = env fn.locals l in
    sets ! (agg ! (and_then ! (lit ! tt) (no_more !))) refl (tt, (record { fits = lit< tt }, tt)) $
    returns ! (look_at ! 0 refl) $ free_all ! refl $
    nothing ! $ use0 𝓛 (‵ (one_own p (one_val p ∷ []))) (one_made 𝓛 p) $ fjoin ! $
    use0 𝓛 (raw (fact 𝓤 (x.task ≡ None))) (fact_i 𝓤 (x.task ≡ None) (emp 𝓤) refl) $ nothing ! $ move ! (3 ∷ 0 ∷ 2 ∷ 1 ∷ []) $
    by ! (leaves 𝓛 En₀ stays c z (one_val p) x tt tt)))
