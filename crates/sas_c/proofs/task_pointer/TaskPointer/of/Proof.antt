-- `of`.
use Rattle.sas_c.proofs.Imports.{◌≡◌, List, [], ◌∷◌, ◌++◌, refl, Goes-blank, proved_at, leaves, Some, Global, ghosts, box_owns}
use mir.Syntax.{Fn}
use mir.Val.{Val, vptr}
use base.Logic.{SProp, emp}
use base.Fml.{ftrue}
use prog.Wp.{Env, WpFn}
use contract.Monad.{fact, fact_i}
use contract.Running.{tables}
use types.Kit.{‵, raw, ◌⊛◌, prop, ◌$◌, ◌∵◌, !, qed, by, move, keep, use0, split, regoal, fsplit, fjoin, fpack}
use types.Part.{whole, sub, agg}
use types.Run.{stop, fld, of_opd, no_more, and_then, returns, enter}
use types.ByLocal.{alloc_all, pass_all, free_all, look_at, get, get_in, sets, env}
use denote.RattleType.{RattleType, owns}
use denote.RawPtr.{Ptr, block_ptr}
use denote.Signature.{types_at}
use denote.Steps.{nothing}
use denote.Triple.Entry.{alive}
use denote.Triple.Walked.{Stays, stay_dropped, walk_of}
use Rattle.std.specs.contracts.alloc.Global as heap
use Rattle.std.proofs.alloc.Global.TheLaws as heap_laws
use Rattle.sas_c.specs.Holding as held
use Rattle.sas_c.specs.contracts.task_pointer.TaskPointer as task_pointer
use Rattle.sas_c.proofs.PointerValues.{both, pointer_good, pointer_out, one_val, one_own, one_made, slot_at}
use Rattle.sas_c.specs.contracts.task_pointer.TaskPointer.of.{ended, clauses}
use Rattle.sas_c.specs.contracts.task_pointer.TaskPointer.of.Key.{name as #self}
use Rattle.sas_c.proofs.task_pointer.TaskPointer.of.Statement.{statement}
use Rattle.sas_c.proofs.task_pointer.TaskPointer.of.Code as compiled

pub of_spec : {M : Type 1} → statement M
of_spec 𝓤 𝓛 𝓜 𝓡 wired =
    let H = 𝓛.H in
    let En₀ = ended in
    let c = clauses 𝓛 𝓜.mem 𝓡.returns in
    let fn : Fn = compiled.function in
    let stays : Stays En₀.signature.params En₀.kept = (stay_dropped (slot_at 0 En₀.signature.params) En₀.kept.0, tt) in
    let C = (tables 𝓤 H 𝓜 𝓡 𝓡.env).C in
    let Λ = (tables 𝓤 H 𝓜 𝓡 𝓡.env).Λ in
    let R : RattleType = held.the_row in
    let Z : RattleType = heap.the_row in
    let LZ = heap_laws.the_row_laws in
    proved_at 𝓛 En₀ stays c 𝓜 𝓡 (Goes-blank 𝓛 0 (slot_at 0 En₀.signature.params) En₀.kept.0 (λ κs x f. tt), tt) #self fn (compiled.unfolded 𝓤 H 𝓜 𝓡 wired) (λ z are.
    let Post : Val → SProp 𝓤 = (walk_of 𝓛 En₀ stays c).post z in
    let a = z.0.3 in
    let vss = z.0.4 in
    let v = a.0 in
    qed 𝓛 ((raw (alive 𝓛 En₀.signature z.0.0 z.0.1) ⊛ ‵ (owns (types_at En₀.signature.params z.0.0) a vss)) ∷ ‵ ftrue ∷ []) ∵ split ! $ move ! (1 ∷ []) $ fsplit ! $
    pointer_out R Z LZ ghosts ! v vss.0 (λ b o h e ws fits. keep ! (0 ∷ 3 ∷ []) $
    -- [the box; what is alive]
    let p : Ptr = block_ptr b o in
    let x : (task_pointer.the_row).Denot = record { at = p; task = Some v.value } in
    regoal ! (λ (us : List Val). prop (WpFn 𝓤 H C Λ fn us Post)) (λ i. ws i ++ []) refl $
    enter ! C Λ fn (both (vptr b o) h ∷ []) Post $
    alloc_all ! (λ l. pass_all ! refl (pointer_good R Z LZ ghosts b o h fits, tt) $ let En : Env 𝓤 𝓛.H = env fn.locals l in
    sets ! (of_opd ! (get_in ! (fld ! refl (stop !)) (sub ! 0 refl (whole !)))) refl (tt, tt) $
    sets ! (of_opd ! (get ! refl)) refl (tt, tt) $
    sets ! (agg ! (and_then ! (get ! refl) (no_more !))) refl (tt, (tt, tt)) $
    returns ! (look_at ! 0 refl) $ free_all ! refl $
    fpack ! Global (λ a₁. box_owns (ghosts.dealloc_token a₁) R p v.value) v.alloc $
    use0 𝓛 (‵ (one_own p (one_val p ∷ []))) (one_made 𝓛 p) $ fjoin ! $
    use0 𝓛 (raw (fact 𝓤 (x.task ≡ Some v.value))) (fact_i 𝓤 (x.task ≡ Some v.value) (emp 𝓤) refl) $ nothing ! $ nothing ! $ fjoin ! $ move ! (3 ∷ 0 ∷ 2 ∷ 1 ∷ []) $
    by ! (leaves 𝓛 En₀ stays c z (one_val p) x (tt, tt) (tt, tt)))))
