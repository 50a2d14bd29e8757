use Rattle.std.proofs.Common.{◌≡◌, subst}
use Rattle.std.specs.Prelude.{None}
use Rattle.rme_session_protocol.specs.SessionSteps.{TellsLife, TellsSection}
use Rattle.rme_session_protocol.specs.declared.order.Order.TheVariants as order
use Rattle.rme_session_protocol.specs.declared.reply.SessionReply.{SessionReply}
use Rattle.rme_session_threads.specs.JobOutcomes.{WorkerHasSection}
use Rattle.rme_session_threads.specs.Stands.{held_worker, holding_session}
use Rattle.rme_session_threads.specs.ThreadSteps.{ThreadSessionStep}
use Rattle.rme_test_server.proofs.Fencing.{fenced}
use Rattle.rme_test_server.proofs.lives.enter_and_commit.Goals as goal

pub returns-clause-fenced : goal.returns-clause-fenced
returns-clause-fenced g c = λ token receipt is_inside is_done.
    let ident = g.K.Tag.ident in
    let count = c.args.slots.now in
    let old = c.args.stand in
    let mid = c.obey-stand.result.0 in
    let now = c.obey-stand-2.result.0 in
    let its = c.args.submission in
    let E : SessionReply → Type 0 = λ told. ThreadSessionStep ident count old (order.Enter its) mid told in
    let S : SessionReply → Type 0 = λ told. TellsSection (WorkerHasSection ident.shape (held_worker mid.value)) (holding_session None mid.value) told in
    let L : SessionReply → Type 0 = λ told. TellsLife (λ worker life. life ≡ mid.life) (holding_session None mid.value) told in
    let D : SessionReply → Type 0 = λ told. ThreadSessionStep ident count mid order.Commit now told in
    fenced ident count old mid now its token receipt (subst E is_inside c.obey-stand.ensures.obeys) (subst S is_inside c.obey-stand.ensures.section)
    (subst L is_inside c.obey-stand.ensures.life) (subst D is_done c.obey-stand-2.ensures.obeys)
