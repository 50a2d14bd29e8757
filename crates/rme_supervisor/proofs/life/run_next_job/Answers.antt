use Rattle.std.proofs.Common.{ap, refl, ◌≡◌, ◌∙◌, ◌+◌, ◌*◌, arith}
use Rattle.rme_service_steps.specs.SeatViews.{SeatView}
use Rattle.rme_service_steps.specs.Parts.{submitted_part}
use Rattle.rme_supervisor.proofs.Fallen.{asked_idle, asked_walks, fared_on}
use Rattle.rme_supervisor.proofs.Stalling.{stalls_posted}
use Rattle.rme_supervisor.proofs.life.run_next_job.Goals as goal

pub returns-in-Refused-clause-stop : goal.returns-in-Refused-clause-stop
returns-in-Refused-clause-stop g c =
    let same : c.crash.result ≡ c.args.ready = c.crash.ensures ∙ c.in-Refused.ensures.posts.1.same in (
      record { ident_is = ap (λ (s : SeatView). s.ident) same ∙ c.requires.ours; own = ap (λ (s : SeatView). s.part.worker) same },
      record { job = c.args.job; next = rw same c.requires.next; why = rw same (c.in-Refused.ensures.posts.0) },
      refl,
    )

pub returns-in-Asked-clause-falls : goal.returns-in-Asked-clause-falls
returns-in-Asked-clause-falls g c =
    let old = c.args.trail.now.falls in
    let mid = c.post.new.chance in
    let asked = asked_walks c.args.orders.now.service.now.shape (submitted_part c.args.job) old mid c.args.ready c.in-Asked.climb 0 c.in-Asked.ensures.posts.2.walks in
    fared_on old mid c.drive_climb.new.trail.falls c.args.ready c.in-Asked.climb c.drive_climb.result asked c.drive_climb.ensures.falls

pub returns-in-Refused-clause-falls : goal.returns-in-Refused-clause-falls
returns-in-Refused-clause-falls g c =
    asked_idle c.args.trail.now.falls c.post.new.chance c.args.ready c.crash.result (c.crash.ensures ∙ c.in-Refused.ensures.posts.1.same) c.in-Refused.ensures.posts.1.unasked

pub returns-in-Asked-clause-stalls : goal.returns-in-Asked-clause-stalls
returns-in-Asked-clause-stalls g c =
    let posts = c.in-Asked.ensures.posts in
    let steps : c.in-Asked.climb.part.steps ≡ c.args.ready.part.steps + (3 + 3 * c.args.job.script.n) =
    (let counted = posts.2.counted in let enough = posts.2.enough in let few = posts.2.few in omega (arith, counted, enough, few)) in
    stalls_posted _ c.args.ready c.args.job _ _ c.in-Asked.climb c.drive_climb.result (record { posted = posts.1; steps = steps }) posts.2.stays.own c.drive_climb.ensures.stalls
