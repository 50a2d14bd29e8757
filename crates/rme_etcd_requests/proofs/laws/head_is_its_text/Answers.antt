use Rattle.rme_etcd_requests.proofs.Heads.{reads_back, tells_one}
use Rattle.rme_etcd_requests.proofs.laws.head_is_its_text.Goals as goal

pub returns-clause-back : goal.returns-clause-back
returns-clause-back c = reads_back

pub returns-clause-one : goal.returns-clause-one
returns-clause-one c = tells_one
