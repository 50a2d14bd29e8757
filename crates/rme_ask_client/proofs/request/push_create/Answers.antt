use Rattle.rme_ask_client.proofs.request.push_create.Goals as goal

pub returns : goal.returns
returns c =
    rw (c.in_ok-name.ensures, c.in_ok-locks.ensures, c.in_ok-workers.ensures, c.in_ok-cells.ensures) at c.write.ensures.bytes
