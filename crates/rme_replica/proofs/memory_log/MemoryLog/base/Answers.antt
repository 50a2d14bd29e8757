use Rattle.std.proofs.Common.{◌≡◌, ◌≢◌, ◌∙◌, ◌-◌, ap, sym, ℕ}
use Rattle.rme_replica.specs.KnownLogs.{log_of}
use Rattle.rme_replica.specs.MemoryLogs.{joined_parts}
use Rattle.rme_replica.proofs.Memory.{next_base, same_base}
use Rattle.rme_replica.proofs.memory_log.MemoryLog.base.Goals as goal

pub returns-then-epoch : goal.returns-then-epoch
unfolding log_of
returns-then-epoch c =
    let same : c.args.next.now.epoch ≡ c.args.self.now.head.epoch = sym c.epoch.ensures ∙ (c.if-epoch.true ∙ c.epoch-2.ensures) in
    same_base c.args.next.now (log_of c.args.self.now) _ same c.in_ok-bytes.ensures

pub returns : goal.returns
unfolding log_of
returns c =
    let off : c.args.next.now.epoch ≢ c.args.self.now.head.epoch = λ e. c.if-epoch.false (c.epoch.ensures ∙ (e ∙ sym c.epoch-2.ensures)) in
    let count : c.saturating_sub.result ≡ c.args.next.now.sequence - 1 = c.saturating_sub.ensures ∙ ap (λ (n : ℕ). n - 1) c.sequence.ensures in
    next_base c.args.next.now (log_of c.args.self.now) _ off (c.in_ok-bytes-2.ensures ∙ ap (λ (n : ℕ). joined_parts n (log_of c.args.self.now)) count)
