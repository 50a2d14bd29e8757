use Rattle.std.proofs.Common.{◌≡◌, ◌++◌, List, Bool, Some, None, ap, sym, ◌∙◌, nat_le}
use Rattle.std.specs.Prelude.{slice_get}
use Rattle.rme_draw_picture.specs.declared.drawing.DrawnStay.{DrawnStay}
use Rattle.rme_draw_history.specs.Stays.{are_few_workers, stays_ended, stays_ended_by}
use Rattle.rme_draw_history.proofs.Staying.{always, nothing_over, on_ok, stay_next, stay_over}
use Rattle.rme_draw_history.proofs.stays.push_stay.Goals as goal

pub returns-in-None-clause-over : goal.returns-in-None-clause-over
returns-in-None-clause-over c =
    let none : slice_get c.args.staying.now.items c.line_worker-worker.result ≡ None = rw (c.as_slice.ensures.value) at (sym c.stay_at.ensures ∙ c.in-None.is) in
    nothing_over c.args.event_line.now c.args.line c.args.machine.now c.args.staying.now.items c.line_worker-worker.result c.args.stays.now.items c.line_worker-worker.ensures none

pub returns-clause-over : goal.returns-clause-over
returns-clause-over c =
    let all = c.args.staying.now.items in
    let before : slice_get all c.line_worker-worker.result ≡ Some c.in-Some-stay_at.before = rw (c.as_slice.ensures.value) at (sym c.stay_at.ensures ∙ c.in-Some-stay_at.is) in
    let few : nat_le c.len-are_few.result 2 ≡ are_few_workers all = ap (λ n. nat_le n 2) (c.len-are_few.ensures ∙ c.args.staying.now.ok.0) in
    let event_line = c.args.event_line.now in let line = c.args.line in let last = c.in-Some-stay_at.before in
    let ended : stays_ended_by c.stay_goes_on-goes_on.result event_line line last ≡ stays_ended event_line line (nat_le c.len-are_few.result 2) c.in-Some.me.now last =
    ap (λ (b : Bool). stays_ended_by b event_line line last) c.stay_goes_on-goes_on.ensures in
    on_ok c.push_ended.result
    (λ e. stay_over c.args.event_line.now c.args.line c.args.machine.now all c.line_worker-worker.result (nat_le c.len-are_few.result 2) c.in-Some.me.now c.in-Some-stay_at.before c.line_worker-worker.ensures c.in-Some.ensures.some before few
    c.args.stays.now.items c.push_ended.new.stays.items (e ∙ ap (λ (l : List DrawnStay). c.args.stays.now.items ++ l) ended)) c.push_ended.ensures

pub returns-clause-next : goal.returns-clause-next
returns-clause-next c =
    let all = c.args.staying.now.items in
    let before : slice_get all c.line_worker-worker.result ≡ Some c.in-Some-stay_at.before = rw (c.as_slice.ensures.value) at (sym c.stay_at.ensures ∙ c.in-Some-stay_at.is) in
    let few : nat_le c.len-are_few.result 2 ≡ are_few_workers all = ap (λ n. nat_le n 2) (c.len-are_few.ensures ∙ c.args.staying.now.ok.0) in
    always c.push_ended.result
    (stay_next c.args.event_line.now c.args.line c.args.machine.now all c.line_worker-worker.result (nat_le c.len-are_few.result 2) c.in-Some.me.now c.in-Some-stay_at.before c.line_worker-worker.ensures c.in-Some.ensures.some before few
    c.set_stay.new.staying.items c.next_stay.result c.set_stay.ensures c.next_stay.ensures)
