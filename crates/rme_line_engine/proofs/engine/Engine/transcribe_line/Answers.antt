use Rattle.std.proofs.Common.{◌≡◌, rules, string_bytes}
use Rattle.rme_line_io.specs.declared.cut.Cut.TheVariants.{TooLong}
use Rattle.rme_line_engine.specs.Engines.{engine_state_of}
use Rattle.rme_line_engine.proofs.ToldLemmas.{told_too_long}
use Rattle.rme_line_engine.proofs.engine.Engine.transcribe_line.Goals as goal

pub returns-then-eq-clause-told : goal.returns-then-eq-clause-told
returns-then-eq-clause-told c =
    let long : c.args.cut ≡ TooLong = search rules in told_too_long (engine_state_of c.args.self.now) c.args.cut c.args.line.now (string_bytes c.clear.new.self) long c.clear.ensures.bytes
