use Rattle.std.proofs.Common.{◌≡◌, ◌+◌, ◌++◌, ◌∷◌, [], sym, ap, subst, arith, take, length, rules, ◌∙◌, length-append}
use Rattle.rme_program.specs.declared.event.Answer.{Answer}
use Rattle.rme_program.specs.declared.event.Event.{Event}
use Rattle.std.specs.Prelude.{List}
use Rattle.rme_world.specs.EventLists.{EventListContract}
use Rattle.rme_world.proofs.Worlds.{kept_sound}
use Rattle.rme_world.proofs.Headline.{roomy_run, next_happens}
use Rattle.std.proofs.lemmas.List.{take_all}
use Rattle.rme_world.proofs.world.World.run.Goals as goal

pub loop-event-preserved : goal.loop-event-preserved
loop-event-preserved c =
    let pushed : c.push.new.self.items ≡ c.loop-event.answers.items ++ c.answer-answer.result ∷ [] = search rules in (
      subst (λ (answers : List Answer). EventListContract c.make_room.new.self (take (c.loop-event.event-index + 1) c.args.events.now) answers c.answer-answer.new.self) (sym pushed)
          (next_happens c.make_room.new.self c.loop-event.self c.answer-answer.new.self c.args.events.now c.loop-event.event-index c.loop-event.answers.items c.event-item.result c.answer-answer.result
          c.loop-event-test.true c.event-item.is c.loop-event.invariant.0 c.answer-answer.ensures.happens),
      c.answer-answer.ensures.shape ∙ c.loop-event.invariant.1,
      omega (arith, c.loop-event.invariant.2, c.answer-answer.ensures.room, c.loop-event-test.true),
      omega (arith, c.push.new.self.ok.0, c.loop-event.answers.ok.0, ap length pushed, length-append c.loop-event.answers.items (c.answer-answer.result ∷ []), c.loop-event.invariant.3),
      omega (arith, c.push.ensures.capacity, c.loop-event.invariant.4),
    )

pub returns-clause-headline : goal.returns-clause-headline
returns-clause-headline c =
    let all : take c.loop-event.event-index c.args.events.now ≡ c.args.events.now = take_all c.loop-event.event-index c.args.events.now c.loop-event-test.false in
    roomy_run c.args.self.now c.make_room.new.self c.loop-event.self c.args.events.now c.loop-event.answers.items c.make_room.ensures.room (kept_sound _ c.make_room.ensures.kept)
    (subst (λ (events : List Event). EventListContract c.make_room.new.self events c.loop-event.answers.items c.loop-event.self) all c.loop-event.invariant.0)
