use Rattle.std.proofs.Common.{rules, ◌≡◌, ◌++◌, ◌∷◌, []}
use Rattle.rme_ask_client.proofs.Fronts.{some_front}
use Rattle.rme_ask_client.proofs.conversation.Conversation.exchange.Goals as goal

pub returns-in-Ok-TooLong-clause-front : goal.returns-in-Ok-TooLong-clause-front
returns-in-Ok-TooLong-clause-front g c =
    let sent : c.as_slice.result.now ≡ c.args.line.now ++ 10 ∷ [] = search rules in
    rw (← sent) (some_front c.put_all.result _ _ _ c.put_all.ensures.whole c.put_all.ensures.front)

pub returns-in-Ok-End-clause-front : goal.returns-in-Ok-End-clause-front
returns-in-Ok-End-clause-front g c =
    let sent : c.as_slice.result.now ≡ c.args.line.now ++ 10 ∷ [] = search rules in
    rw (← sent) (some_front c.put_all.result _ _ _ c.put_all.ensures.whole c.put_all.ensures.front)

pub returns-in-Err-clause-front : goal.returns-in-Err-clause-front
returns-in-Err-clause-front g c =
    let sent : c.as_slice.result.now ≡ c.args.line.now ++ 10 ∷ [] = search rules in
    rw (← sent) (some_front c.put_all.result _ _ _ c.put_all.ensures.whole c.put_all.ensures.front)
