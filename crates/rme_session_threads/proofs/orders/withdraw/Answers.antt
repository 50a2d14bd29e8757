use Rattle.std.proofs.Common.{subst, sym}
use Rattle.std.specs.Prelude.{Some}
use Rattle.rme_service_steps.specs.Parts.{withdrawing_part}
use Rattle.rme_service_steps.specs.SeatViews.{ServiceId}
use Rattle.rme_session_protocol.specs.declared.reply.SessionReply.TheVariants as reply
use Rattle.rme_session_protocol.specs.declared.order.Order.TheVariants as order
use Rattle.rme_session_protocol.specs.declared.planned_crash.Countdown.TheVariants.{Runs}
use Rattle.rme_session_threads.specs.ThreadSteps.{stand_change, ThreadOrderExecution}
use Rattle.rme_session_threads.specs.declared.stand.Holding.{Holding}
use Rattle.rme_session_threads.proofs.Planning.{fallen}
use Rattle.rme_session_threads.proofs.Showing.{withdraw_fell}
use Rattle.rme_session_threads.proofs.orders.withdraw.Goals as goal

pub returns-in-Err-withdraw-clause-acts : goal.returns-in-Err-withdraw-clause-acts
returns-in-Err-withdraw-clause-acts g c =
    let shape = c.args.service.now.shape in
    let count = c.args.slots.now in
    let climb = c.in-Ok.climb in
    let down = c.in-Err-withdraw.down in
    let planned = c.args.stand.planned in
    let falls = c.in-Err-withdraw.ensures.made in
    let fell = fallen shape withdrawing_part climb down (Runs planned) c.withdraw.new.chance.countdown falls.walks falls.ident falls.own in
    let P : Holding → Type 0 = λ value. ThreadOrderExecution c.args.service.now count (stand_change (record { value = value; planned = planned; life = c.args.stand.life }) c.empty.result (Some down)) order.Withdraw reply.WithdrawFell in
    let Q : ServiceId → Type 0 = λ ident. ThreadOrderExecution ident count (stand_change c.args.stand c.empty.result (Some down)) order.Withdraw reply.WithdrawFell in
    subst Q c.requires.service (subst P (sym c.in-Ok.ensures.waits) (withdraw_fell c.args.service.now count climb planned c.args.stand.life c.empty.result (Some down) (fell, c.empty.ensures)))
