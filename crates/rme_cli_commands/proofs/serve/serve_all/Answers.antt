use Rattle.std.proofs.Common.{◌∙◌, sym}
use Rattle.rme_cli_commands.proofs.serve.serve_all.Goals as goal

pub returns : goal.returns
returns g c = record { ours = λ k seat at. c.into_downs_in.ensures.ours k seat at ∙ sym c.requires.named }
