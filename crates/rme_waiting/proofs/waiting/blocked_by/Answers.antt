use Rattle.std.proofs.Common.{◌≡◌, sym, ◌∙◌, ap, arith}
use Rattle.rme_words.specs.declared.shape.Shape.{Shape}
use Rattle.rme_waiting.proofs.Holders.{no_job, no_lock, waits_blocked, waits_shown}
use Rattle.rme_waiting.proofs.waiting.blocked_by.Goals as goal

pub returns-then-not-is_pending-clause-blocked : goal.returns-then-not-is_pending-clause-blocked
returns-then-not-is_pending-clause-blocked c =
    sym (no_job _ _ _ c.requires (sym c.is_pending.ensures ∙ c.if-not-is_pending.true))

pub returns-then-lock-from-clause-blocked : goal.returns-then-lock-from-clause-blocked
returns-then-lock-from-clause-blocked c =
    let locks : c.shape.result.locks ≡ c.args.bank.now.shape.locks = ap (λ (s : Shape). s.locks) c.shape.ensures in
    sym (no_lock _ _ _ c.requires (omega (arith, locks, c.load-lock.ensures)))

pub returns-clause-blocked : goal.returns-clause-blocked
returns-clause-blocked c =
    let locks : c.shape.result.locks ≡ c.args.bank.now.shape.locks = ap (λ (s : Shape). s.locks) c.shape.ensures in
    waits_blocked _ _ _ c.requires _ (sym c.is_pending.ensures ∙ c.if-not-is_pending.false) (sym c.load-lock.ensures) (omega (arith, locks)) _
    c.blocker.ensures.worker c.blocker.ensures.shown

pub returns-clause-shown : goal.returns-clause-shown
returns-clause-shown c =
    let locks : c.shape.result.locks ≡ c.args.bank.now.shape.locks = ap (λ (s : Shape). s.locks) c.shape.ensures in
    waits_shown _ _ _ c.requires _ (sym c.is_pending.ensures ∙ c.if-not-is_pending.false) (sym c.load-lock.ensures) (omega (arith, locks)) _
    c.blocker.ensures.worker c.blocker.ensures.shown
