use Rattle.sas_requests.proofs.Imports.{ap, ◌∙◌}
use Rattle.sas_requests.specs.Hint.{first_hint}
use Rattle.sas_requests.proofs.hint.hint_for.Goals as goal

pub returns : goal.returns
returns c = c.first_hint.ensures ∙ ap first_hint c.hints.ensures
