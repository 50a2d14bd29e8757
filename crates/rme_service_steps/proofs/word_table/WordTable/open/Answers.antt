use Rattle.std.proofs.Common.{◌+◌, ◌∙◌, [], sym, ap, arith, ℕ}
use Rattle.rme_words.specs.declared.shape.Shape.{Shape}
use Rattle.atomic_table.specs.Table.{Me}
use Rattle.rme_service_steps.specs.declared.seat_record.SeatRecord.{SeatRecord}
use Rattle.rme_service_steps.specs.Parts.{fresh_part}
use Rattle.rme_service_steps.specs.SeatViews.{ServiceId, SeatView}
use Rattle.rme_service_steps.specs.Opening.{record_from_worker}
use Rattle.rme_service_steps.proofs.Opened.{dealt_more, one_longer}
use Rattle.rme_service_steps.proofs.word_table.WordTable.open.Goals as goal

pub loop-worker-preserved : goal.loop-worker-preserved
loop-worker-preserved c =
    let i = c.loop-worker.invariant in
    let ident : ServiceId = record { table = c.service.inside.table.shared.table_id; shape = c.service.inside.shape } in
    let shapes = ap (λ (x : ServiceId). x.shape) (sym c.service.view_is) ∙ i.3 in (
      omega (arith, i.0, c.push_reserved.ensures.capacity),
      one_longer _ _ _ _ c.push_reserved.ensures.items i.1,
      c.split_off_worker.ensures.same ∙ i.2,
      i.3,
      c.split_off_worker.ensures.parts ∙ ap (λ (s : Shape). let m : Me ℕ SeatRecord = (record_from_worker s (c.loop-worker.worker + 1), []) in m) shapes,
      dealt_more ident _ _ c.loop-worker.worker c.split_off_worker.result i.1 i.5
          (c.split_off_worker.ensures.fresh ∙ ap {B = SeatView} (λ (x : ServiceId). record { ident = x; part = fresh_part c.loop-worker.worker }) (sym c.service.view_is)) c.push_reserved.ensures.items,
    )
