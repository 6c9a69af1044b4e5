-- `into_box_pointer`.
use Rattle.sas_c.proofs.Imports.{◌≡◌, List, [], ◌∷◌, ◌++◌, refl, sym, ap, subst, ◌∙◌, true≢false, Goes-blank, one, proved_at, leaves, Option, Some, IsSome, ghosts, box_owns, owns_task}
use mir.Syntax.{Fn}
use mir.Val.{Val, vptr}
use base.Logic.{SProp, emp, never, fst∗}
use prog.Wp.{Env, WpFn}
use contract.Monad.{fact, fact_i}
use contract.Running.{tables}
use types.Logic.{sem}
use types.Kit.{‵, raw, ◌⊛◌, prop, ◌$◌, ◌∵◌, !, qed, by, move, keep, drop, use0, split, regoal, rewrite, fsplit, fjoin, fpick}
use types.Part.{whole, sub, agg}
use types.Run.{stop, fld, of_opd, no_more, and_then, returns, enter}
use types.ByLocal.{alloc_all, pass_all, free_all, look_at, get, get_in, sets, env}
use denote.RattleType.{RattleType, owns}
use denote.Memory.{lone}
use denote.RawPtr.{Ptr, block_ptr, null_ptr, in_a_block}
use denote.Param.{layout}
use denote.Signature.{types_at}
use denote.Steps.{nothing, heard}
use denote.Triple.Entry.{alive}
use denote.Triple.Walked.{Stays, stay_dropped, walk_of, Goes-dropped}
use mir.Raw.{raw as bare}
use Rattle.std.specs.contracts.alloc.Global as heap
use Rattle.std.proofs.alloc.Global.TheLaws as heap_laws
use Rattle.sas_c.specs.Holding as held
use Rattle.sas_c.proofs.PointerValues.{both, BoxPointer, pointer_good, pointer_in, one_val, one_reported, slot_at, by_option}
use Rattle.sas_c.specs.contracts.task_pointer.TaskPointer.into_box_pointer.{ended, clauses}
use Rattle.sas_c.specs.contracts.task_pointer.TaskPointer.into_box_pointer.Key.{name as #self}
use Rattle.sas_c.proofs.task_pointer.TaskPointer.into_box_pointer.Statement.{statement}
use Rattle.sas_c.proofs.task_pointer.TaskPointer.into_box_pointer.Code as compiled

pub into_box_pointer_spec : {M : Type 1} → statement M
into_box_pointer_spec 𝓤 𝓛 𝓜 𝓡 wired =
    let H = 𝓛.H in
    let En₀ = ended in
    let c = clauses 𝓛 𝓜.mem 𝓡.returns in
    let fn : Fn = compiled.function in
    let stays : Stays En₀.signature.params En₀.kept = (stay_dropped (slot_at 0 En₀.signature.params) En₀.kept.0, (stay_dropped (slot_at 1 En₀.signature.params) En₀.kept.1.0, tt)) in
    let C = (tables 𝓤 H 𝓜 𝓡 𝓡.env).C in
    let Λ = (tables 𝓤 H 𝓜 𝓡 𝓡.env).Λ in
    let R : RattleType = held.the_row in
    let Z : RattleType = heap.the_row in
    let LZ = heap_laws.the_row_laws in
    proved_at 𝓛 En₀ stays c 𝓜 𝓡 (Goes-blank 𝓛 0 (slot_at 0 En₀.signature.params) En₀.kept.0 (λ κs x f. tt), (Goes-dropped 𝓛 0 (slot_at 1 En₀.signature.params) En₀.kept.1.0 (λ κs x f. refl), tt)) #self fn (compiled.unfolded 𝓤 H 𝓜 𝓡 wired) (λ z are.
    let Post : Val → SProp 𝓤 = (walk_of 𝓛 En₀ stays c).post z in
    let a = z.0.3 in
    let vss = z.0.4 in
    let x = a.0 in
    let alloc = a.1.0 in
    let h = one (layout Z) vss.1.0 ((LZ.lawful 𝓛).typed alloc vss.1.0 are.1.0) in
    qed 𝓛 ((raw (alive 𝓛 En₀.signature z.0.0 z.0.1) ⊛ ‵ (owns (types_at En₀.signature.params z.0.0) a vss)) ∷ raw (fact 𝓤 (IsSome x.task)) ∷ []) ∵ move ! (1 ∷ []) $ heard ! (IsSome x.task) (λ there.
    split ! $ move ! (1 ∷ []) $ fsplit ! $ fsplit ! $ drop ! $ move ! (1 ∷ []) $ fsplit ! $
    -- [the handle; nothing more; what the pointer owns; what is alive]
    by_option x.task (λ none. absurd (true≢false (sym (subst (λ (o : Option (R.Denot)). IsSome o) none there)))) (λ v is.
    move ! (2 ∷ 0 ∷ 3 ∷ []) $ rewrite ! 0 (λ (o : Option (R.Denot)). ‵ (owns_task x.at o)) is refl $ fpick ! (λ a₁.
    in_a_block ! x.at (λ p. box_owns (ghosts.dealloc_token a₁) R p v) (fst∗ 𝓤 (never 𝓤) (sem 𝓛 (ghosts.dealloc_token a₁ (bare (lone R.mir)) null_ptr))) (λ b o e.
    rewrite ! 1 (λ (ws : List Val). ‵ (Z.own_val alloc ws)) h.1 refl $ keep ! (0 ∷ 1 ∷ 2 ∷ []) $
    let p : Ptr = block_ptr b o in
    let y : (BoxPointer R Z LZ ghosts).Denot = record { at = p; alloc = alloc; value = v } in
    regoal ! (λ (us : List Val). prop (WpFn 𝓤 H C Λ fn us Post)) (λ i. (one_reported x.at vss.0 are.0.0 ∙ ap (λ (q : Ptr). one_val q ∷ []) e) i ++ (h.1 i ++ [])) refl $
    enter ! C Λ fn (one_val p ∷ h.0 ∷ []) Post $
    alloc_all ! (λ l. pass_all ! refl ((tt, (tt, tt)), (h.2, tt)) $ let En : Env 𝓤 𝓛.H = env fn.locals l in
    sets ! (of_opd ! (get_in ! (fld ! refl (stop !)) (sub ! 0 refl (whole !)))) refl (tt, tt) $
    sets ! (of_opd ! (get ! refl)) refl (tt, tt) $
    sets ! (agg ! (and_then ! (get ! refl) (and_then ! (get ! refl) (no_more !)))) refl (pointer_good R Z LZ ghosts b o h.0 h.2) $
    returns ! (look_at ! 0 refl) $ free_all ! refl $
    pointer_in R Z LZ ghosts ! b o h.0 alloc v $
    use0 𝓛 (raw (fact 𝓤 (x.task ≡ Some v))) (fact_i 𝓤 (x.task ≡ Some v) (emp 𝓤) is) $ nothing ! $ nothing ! $ fjoin ! $ nothing ! $ fjoin ! $ move ! (3 ∷ 0 ∷ 2 ∷ 1 ∷ []) $
    by ! (leaves 𝓛 En₀ stays c z (both (vptr b o) h.0) y (tt, (tt, tt)) (tt, (tt, tt)))))))))
