use Rattle.sas_task_reader.proofs.Imports.{refl, ap, ◌∙◌, the_view, operator, operators_opened, operators_more}
use Rattle.sas_task_file.specs.TaskEvents.{behind_operator}
use Rattle.sas_task_file.specs.declared.so_far.SoFar.{SoFar}
use Rattle.sas_task_reader.proofs.StoredParts.{with_operators, one_operator_more}
use Rattle.sas_task_reader.proofs.flat_so_far.FlatSoFar.operator_ahead.Goals as goal

pub returns-in_default-push : goal.returns-in_default-push
returns-in_default-push g c =
    let old = c.self.inside.operators in
    let found = c.in-Ok-Some.found in
    let (p, e, prevail, effects, ahead) = rw c.in-Ok-Some.field-0-is at c.in-Ok-Some.ensures.found in
    let o = operator found.name.now p e found.cost in
    let more = operators_more old (record old { prevail = c.read_operator.new.prevail; effects = c.read_operator.new.effects }) refl refl c.self.invariant.2
    (record { more = p; is = prevail }) (record { more = e; is = effects }) _ _ _ c.in_default-push.ensures.ok in
    rw c.of.ensures (record {
      took = (
        o,
        (ahead, refl),
        λ lines s same.
            one_operator_more (the_view c.self.inside) o c.clear.new.self c.clear-in-Ok-Some.new.self c.clear-in-Ok-Some-2.new.self _ c.clear.ensures c.clear-in-Ok-Some.ensures c.clear-in-Ok-Some-2.ensures more.is
            ∙ ap (λ (s : SoFar). behind_operator s o) (c.self.view_is ∙ same),
      );
      none = tt;
      memory = tt;
    })

pub returns-in_ok-missed-in_default : goal.returns-in_ok-missed-in_default
returns-in_ok-missed-in_default g c =
    let old = c.self.inside.operators in
    let begun = operators_opened old (record old { prevail = c.read_operator.new.prevail; effects = c.read_operator.new.effects }) refl refl c.self.invariant.2
    c.read_operator.ensures.prevail c.read_operator.ensures.effects in
    record { took = tt; none = ap (with_operators (the_view c.self.inside)) (c.cut-in_default.ensures.is ∙ begun.is) ∙ c.self.view_is; memory = tt }

pub push-requires : goal.push-requires
push-requires g c =
    let old = c.self.inside.operators in
    (operators_opened old (record old { prevail = c.read_operator.new.prevail; effects = c.read_operator.new.effects }) refl refl c.self.invariant.2 c.read_operator.ensures.prevail c.read_operator.ensures.effects).align

pub cut-requires-in_default : goal.cut-requires-in_default
cut-requires-in_default g c =
    let old = c.self.inside.operators in
    (operators_opened old (record old { prevail = c.read_operator.new.prevail; effects = c.read_operator.new.effects }) refl refl c.self.invariant.2 c.read_operator.ensures.prevail c.read_operator.ensures.effects).align
