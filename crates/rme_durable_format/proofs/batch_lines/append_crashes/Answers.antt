use Rattle.std.proofs.Common.{arith, refl, subst, ◌∙◌}
use Rattle.std.specs.Prelude.{Bool, string_bytes}
use Rattle.rme_durable_format.specs.BatchCommands.{crash_commands}
use Rattle.rme_durable_format.specs.CommandLines.{AppendsCommands}
use Rattle.rme_durable_format.proofs.Falling.{falls_end, falls_on, known_fall}
use Rattle.rme_durable_format.proofs.batch_lines.append_crashes.Goals as goal

pub loop-worker-preserved : goal.loop-worker-preserved
loop-worker-preserved c =
    let privates = c.args.world.now.privates in
    let its = known_fall privates c.loop-worker.worker c.known.result _ refl (let t = c.loop-worker-test.true in let e = c.worker_count-worker-end.ensures in omega (arith, t, e)) c.known.ensures.known in
    let W : Bool → Type 0 = λ (up : Bool). AppendsCommands c.args.names.now (string_bytes c.loop-worker.out) (crash_commands c.loop-worker.worker up) (string_bytes c.append_crash.new.out) in
    record {
      on = falls_on c.args.names.now (string_bytes c.args.out.now) (string_bytes c.loop-worker.out) (string_bytes c.append_crash.new.out) privates c.loop-worker.worker its.0 its.1 c.loop-worker.invariant.on
          (subst W (c.is_some.ensures ∙ its.2) c.in_ok-append_crash.ensures.written);
    }

pub returns-clause-written : goal.returns-clause-written
returns-clause-written c =
    falls_end c.args.names.now (string_bytes c.args.out.now) (string_bytes c.loop-worker.out) c.args.world.now.privates c.loop-worker.worker
    (let t = c.loop-worker-test.false in let e = c.worker_count-worker-end.ensures in omega (arith, t, e)) c.loop-worker.invariant.on
