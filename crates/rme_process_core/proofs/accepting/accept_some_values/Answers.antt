use Rattle.std.proofs.Common.{◌≡◌, [], sym, subst, arith}
use Rattle.rme_program.specs.declared.private.Private.{Private}
use Rattle.rme_process_core.specs.declared.flat.BatchOutcome.{BatchOutcome}
use Rattle.rme_process_core.specs.Runs.{NotesWritten, SomeValuesTaken, FirstValueRefused, noted}
use Rattle.rme_process_core.proofs.Led.{not_jumped, not_said, took_one, writes_before}
use Rattle.rme_process_core.proofs.accepting.accept_some_values.Goals as goal

pub returns-then-taken-gt0-clause-taken : goal.returns-then-taken-gt0-clause-taken
returns-then-taken-gt0-clause-taken c = record { some = c.if-taken-gt0.true; jumps = c.fast_forward-taken.ensures }

pub returns-then-accept_value-clause-taken : goal.returns-then-accept_value-clause-taken
returns-then-accept_value-clause-taken c =
    let shape = c.args.shape.now in let private = c.args.private.now in let values = c.args.values.now in let before = c.args.outcome.now in let mid = c.fast_forward-taken.new.private in
    let said = c.fast_forward-taken.new.outcome in let new = c.accept_value.new.private in let after = c.accept_value.new.outcome in
    let none : c.fast_forward-taken.result ≡ 0 = omega (arith, c.if-taken-gt0.false) in
    let P : Private → Type 0 = λ p. SomeValuesTaken shape (noted p before) values 1 (noted new after) in
    subst P (not_jumped shape private mid values c.fast_forward-taken.result before said none c.fast_forward-taken.ensures)
    (took_one shape mid values new before after c.requires.some
    (writes_before shape mid _ before said new after (not_said shape private mid values c.fast_forward-taken.result before said none c.fast_forward-taken.ensures) (c.accept_value.ensures.taken c.if-accept_value.true)) c.accept_value.ensures.private)

pub returns-else-accept_value-clause-taken : goal.returns-else-accept_value-clause-taken
returns-else-accept_value-clause-taken c =
    let shape = c.args.shape.now in let private = c.args.private.now in let values = c.args.values.now in let before = c.args.outcome.now in let mid = c.fast_forward-taken.new.private in
    let said = c.fast_forward-taken.new.outcome in let new = c.accept_value.new.private in let after = c.accept_value.new.outcome in
    let none : c.fast_forward-taken.result ≡ 0 = omega (arith, c.if-taken-gt0.false) in
    let refused = c.accept_value.ensures.refused c.if-accept_value.false in
    let P : Private → Type 0 = λ p. FirstValueRefused shape (noted p before) values (noted new after) in
    let Q : BatchOutcome → Type 0 = λ o. NotesWritten before [] o in
    subst P (not_jumped shape private mid values c.fast_forward-taken.result before said none c.fast_forward-taken.ensures)
    record { refused = refused.0; same = refused.1; quiet = subst Q (sym refused.2) (not_said shape private mid values c.fast_forward-taken.result before said none c.fast_forward-taken.ensures) }
