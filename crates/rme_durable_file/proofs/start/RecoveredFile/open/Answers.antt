use Rattle.std.proofs.Common.{◌≡◌, ℕ, ◌+◌, ◌-◌, ◌^◌, List, arith, length, min, string_bytes}
use Rattle.rme_durable_file.proofs.Starting.{begins_server}
use Rattle.rme_durable_file.proofs.start.RecoveredFile.open.Goals as goal

pub returns-clause-begins : goal.returns-clause-begins
returns-clause-begins g c =
    let crashes = string_bytes c.in_ok-crashes.crashes in
    let taken : c.in_ok-begun.begun.executor.taken ≡ min (c.self.inside.whole + length crashes) (2 ^ 64 - 1) = grind arith in
    rw (← c.self.view_is) rw c.in_ok-begun.ensures.names
    (begins_server c.self.inside.file.bytes record {
      crashes = crashes;
      reads = c.self.invariant.1;
      kept = c.in_ok-crashes.ensures.kept;
      begins = c.in_ok-begun.ensures.begins;
      written = c.in_ok-crashes.ensures.lines;
      taken = taken;
    })
