use Rattle.rme_laws.proofs.Reading.{all_read}
use Rattle.rme_laws.proofs.server_laws.replay_restores_world.Goals as goal

pub returns : goal.returns
returns c names commands lines old new from to are opened happened accepts = all_read names commands lines old new happened.0 from to are opened happened.1 accepts
