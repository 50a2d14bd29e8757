use Rattle.std.proofs.Common.{◌≡◌, rules}
use Rattle.rme_ask_client.proofs.Fronts.{some_front}
use Rattle.rme_cli_ask.proofs.console.Console.tell.Goals as goal

pub returns : goal.returns
returns g c =
    let told : c.as_bytes.result.now ≡ c.args.text.now = search rules in
    rw (← told) (some_front c.put_all.result _ _ _ c.put_all.ensures.whole c.put_all.ensures.front)
