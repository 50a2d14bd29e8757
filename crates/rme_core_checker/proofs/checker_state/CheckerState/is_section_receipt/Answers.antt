use Rattle.std.proofs.Common.{◌<◌, ℕ, length, subst, sym, ◌∙◌, ap, arith}
use Rattle.rme_script.specs.Scripts.{IsScript}
use Rattle.rme_machine.specs.Machine.{WorkerState}
use Rattle.rme_core_checker.proofs.StateReads.{inside_fits, read_same, counts_reach, cells_reach, count_read, row_read, row_long, receipt_read}
use Rattle.rme_core_checker.proofs.checker_state.CheckerState.is_section_receipt.Goals as goal

pub index-count-requires : goal.index-count-requires
index-count-requires c =
    let within : c.args.worker < length c.self.inside.workers.items = rw (← c.self.view_is) at c.requires in
    let fits = inside_fits _ _ _ _ c.in-Inside.number c.in-Inside.job c.self.invariant.jobs within c.index.ensures (sym c.stance.ensures ∙ c.in-Inside.is) in
    let counted = c.self.inside.fold.counts.ok.0 in
    let reach = counts_reach _ _ _ _ c.self.invariant.fold c.in-Inside.job.lock fits.lock in
    omega (arith, counted, reach)

pub index-row-requires : goal.index-row-requires
index-row-requires c =
    let within : c.args.worker < length c.self.inside.workers.items = rw (← c.self.view_is) at c.requires in
    let fits = inside_fits _ _ _ _ c.in-Inside.number c.in-Inside.job c.self.invariant.jobs within c.index.ensures (sym c.stance.ensures ∙ c.in-Inside.is) in
    let counted = c.self.inside.fold.rows.ok.0 in
    let reach = cells_reach _ _ _ _ c.self.invariant.fold c.in-Inside.job.lock fits.lock in
    omega (arith, counted, reach)

pub has_outcome-requires : goal.has_outcome-requires
has_outcome-requires c =
    let within : c.args.worker < length c.self.inside.workers.items = rw (← c.self.view_is) at c.requires in
    let fits = inside_fits _ _ _ _ c.in-Inside.number c.in-Inside.job c.self.invariant.jobs within c.index.ensures (sym c.stance.ensures ∙ c.in-Inside.is) in
    subst (λ (n : ℕ). IsScript n c.in-Inside.job.script)
    (sym (row_long _ _ _ _ c.self.invariant.fold c.in-Inside.job.lock fits.lock c.index-row.result.now c.index-row.ensures)) fits.script

pub returns : goal.returns
returns c =
    let within : c.args.worker < length c.self.inside.workers.items = rw (← c.self.view_is) at c.requires in
    let inside = sym c.stance.ensures ∙ c.in-Inside.is in
    let fits = inside_fits _ _ _ _ c.in-Inside.number c.in-Inside.job c.self.invariant.jobs within c.index.ensures inside in
    rw (← c.self.view_is) (λ me is_me.
    let same = read_same _ _ me _ within c.index.ensures is_me in
    c.has_outcome.ensures
    ∙ receipt_read c.self.inside.shape c.self.inside.entries.entries c.args.worker me.stance c.args.receipt.now c.in-Inside.number c.in-Inside.job _ _ (ap (λ (x : WorkerState). x.stance) (sym same) ∙ inside)
    c.if-receipt-worker.false c.if-receipt-job.false c.if-receipt-number.false
    (count_read _ _ _ _ c.self.invariant.fold c.in-Inside.job.lock fits.lock c.index-count.result.now c.index-count.ensures)
    (row_read _ _ _ _ c.self.invariant.fold c.in-Inside.job.lock fits.lock c.index-row.result.now c.index-row.ensures))
