use Rattle.sas_lines.proofs.Imports.{◌≡◌, ◌<◌, ℕ, ◌+◌, ◌-◌, List, length, drop, sym, ap, subst, ◌∙◌, arith, take_rest, get_or-drop, length-drop, paste, StandsFirst, Packs}
use Rattle.sas_lines.proofs.Returns.{packs_run, packs_return}
use Rattle.sas_lines.proofs.packing.pack_run.Goals as goal

pub returns-in_default-clause-packs : goal.returns-in_default-clause-packs
returns-in_default-clause-packs c =
    let text = c.args.text.now in
    let at = c.args.at in
    let run = length text - at.read in
    let places = c.requires.places in
    let end : at.read + run ≡ length text = omega (arith, places.within) in
    subst (λ (r : ℕ). Packs text at c.copy_within.new.self (record { kept = at.kept + run; read = r })) end
    (packs_run text at run run places.order (omega (arith, places.within)) (omega arith) (omega (arith, places.order)) (c.in_default.ensures) _ c.copy_within.ensures.after)

pub returns-clause-packs : goal.returns-clause-packs
returns-clause-packs c =
    let text = c.args.text.now in
    let at = c.args.at in
    let run = c.in-Some.run' in
    let places = c.requires.places in
    let first : StandsFirst 13 (drop at.read text) run = subst (λ (x : List ℕ). StandsFirst 13 x run) (take_rest text at.read) c.in-Some.ensures in
    let within : at.read + run < length text = omega (arith, first.within, length-drop at.read text) in
    let same : at.read + run - at.read ≡ run = omega arith in
    packs_return text at run run places.order (omega (arith, within)) (omega arith) (omega (arith, places.order)) first.before _ (c.copy_within-2.ensures.after ∙ ap (paste text at.kept (drop at.read text)) same) within (sym (get_or-drop at.read text run 0) ∙ first.here)
