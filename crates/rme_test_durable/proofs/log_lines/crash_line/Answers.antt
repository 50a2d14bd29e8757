use Rattle.std.proofs.Common.{[], ◌∷◌, refl, inl, inr}
use Rattle.rme_wire.specs.declared.command.Command.TheVariants.{Crash}
use Rattle.rme_durable_format.specs.CommandTexts.{OneHasNoLine}
use Rattle.rme_test_durable.proofs.log_lines.crash_line.Goals as goal

-- a crash has a line
pub unreachable-requires : goal.unreachable-requires
unreachable-requires c =
    let none : OneHasNoLine c.args.names.now (Crash c.args.worker ∷ []) = c.in-Err-NoLine.ensures.none c.in-Err-NoLine.field-0-is in
    elim none [
      | inl here ↦ here refl (c.command_lines.ensures c.args.names.now (Crash c.args.worker) c.ranges.worker.fits)
      | inr later ↦ later
    ]
