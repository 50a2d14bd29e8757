use Rattle.std.proofs.Common.{refl, subst}
use Rattle.rme_durable_file.specs.FileStores.{FileStore}
use Rattle.rme_durable_file.specs.Starts.{ReadsKnownState}
use Rattle.rme_durable_file.proofs.start.RecoveredFile.log.Goals as goal

pub returns : goal.returns
returns g c =
    let R = λ (file : FileStore). ReadsKnownState file.bytes c.self.inside.whole c.self.inside.recovered in
    (c.self.inside.whole, c.self.inside.recovered, subst R c.self.view_is c.self.invariant.1, refl)
