use Rattle.rme_laws.proofs.Reaching.{begun_reach}
use Rattle.rme_laws.proofs.server_laws.recovered_world_is_reachable.Goals as goal

pub returns : goal.returns
returns c bytes names found begun recovers crashed = begun_reach bytes names found begun recovers crashed
