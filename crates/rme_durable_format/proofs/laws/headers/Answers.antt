use Rattle.rme_durable_format.proofs.HeaderLines.{header_read_back}
use Rattle.rme_durable_format.proofs.laws.headers.Goals as goal

pub returns : goal.returns
returns c names shape past are may possible = header_read_back names past are may shape possible
