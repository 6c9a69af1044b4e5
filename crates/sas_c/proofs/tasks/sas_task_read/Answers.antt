use Rattle.sas_c.proofs.Imports.{◌≡◌, [], List, ℕ, Bor, ap, ◌∙◌, None, Some, Vec, known_answer, ValueOf, task_format, layers_verdict, Out, Check}
use Rattle.sas_c.proofs.Returned.{reports_by, layered_out, refused_reported, never_yes}
use Rattle.sas_c.proofs.tasks.sas_task_read.Goals as goal

pub returns-in-Layered-clause-held : goal.returns-in-Layered-clause-held
returns-in-Layered-clause-held c = λ zero.
    let left = λ (s : Bor (List ℕ)). Some s.now in
    rw (c.hold.ensures.held zero) (known_answer left task_format (ValueOf task_format) _ _ c.in-Layered.layered c.args.bytes.now (rw c.in-Layered.is at c.read_layered.ensures.read) (ap left c.new-device.ensures.device), (rw c.in-Layered.is at c.read_layered.ensures.layered))

pub returns-in-Layered-clause-answers : goal.returns-in-Layered-clause-answers
returns-in-Layered-clause-answers c =
    let left = λ (s : Bor (List ℕ)). Some s.now in
    let reads = known_answer left task_format (ValueOf task_format) _ _ c.in-Layered.layered c.args.bytes.now (rw c.in-Layered.is at c.read_layered.ensures.read) (ap left c.new-device.ensures.device) in
    reports_by (λ o. o ≡ layers_verdict None) (Out Check c.args.bytes.now []) (layered_out c.in-Layered.layered c.args.bytes.now reads (rw c.in-Layered.is at c.read_layered.ensures.layered)) _ _ _ _ c.hold.ensures.answers

pub returns-in-Ended-clause-answers : goal.returns-in-Ended-clause-answers
returns-in-Ended-clause-answers c =
    let left = λ (s : Bor (List ℕ)). Some s.now in
    refused_reported c.args.bytes.now _ _ (ap (λ (v : Vec ℕ). v.items) c.new-text.ensures.device ∙ c.new.ensures.items) c.in-Ended.ended _ _ _ _ ((rw c.in-Ended.is at c.read_layered.ensures.refused).ends.output c.args.bytes.now (ap left c.new-device.ensures.device)) c.tell_ended.ensures.answers

pub returns-in-Ended-clause-held : goal.returns-in-Ended-clause-held
returns-in-Ended-clause-held c = λ zero.
    let left = λ (s : Bor (List ℕ)). Some s.now in
    absurd (never_yes c.args.bytes.now _ _ (ap (λ (v : Vec ℕ). v.items) c.new-text.ensures.device ∙ c.new.ensures.items) c.in-Ended.ended _ _ _ _ ((rw c.in-Ended.is at c.read_layered.ensures.refused).ends.output c.args.bytes.now (ap left c.new-device.ensures.device)) c.tell_ended.ensures.answers zero)
