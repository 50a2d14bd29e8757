use Rattle.std.proofs.Common.{◌∙◌, ap}
use Rattle.rme_service_steps.specs.SeatViews.{ServiceId, SeatView}
use Rattle.rme_table.specs.Calls.{is_section_over}
use Rattle.rme_session_threads.proofs.Telling.{section_told}
use Rattle.rme_session_threads.proofs.work.stay_inside.Goals as goal

pub returns-clause-told : goal.returns-clause-told
returns-clause-told c =
    let same = c.job.ensures.same in
    section_told c.args.service.now.shape c.job.new.self c.section.new.self c.job.result c.section.result
    (ap (λ (held : SeatView). held.ident.shape) same ∙ ap (λ (ident : ServiceId). ident.shape) c.requires.ours) (ap (λ (held : SeatView). held.part.draft) same ∙ c.job.ensures.draft)
    (ap (λ (held : SeatView). is_section_over held.part.private.stage) same ∙ c.requires.pending) c.section.ensures.section
