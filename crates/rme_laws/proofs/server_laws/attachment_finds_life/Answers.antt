use Rattle.rme_laws.proofs.Lives.{finds_life}
use Rattle.rme_laws.proofs.server_laws.attachment_finds_life.Goals as goal

pub returns : goal.returns
returns g c old held begun now its token pending asked answer log enters attaches whole lead inside nobody same within after not_late =
    finds_life g.J.ServerTag.opening old held begun now its token pending asked answer log enters attaches whole lead inside nobody same within after not_late
