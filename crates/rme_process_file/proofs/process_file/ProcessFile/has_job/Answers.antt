use Rattle.std.proofs.Common.{◌≡◌, ◌<◌, is_ok, ap, ◌∙◌, sym, arith}
use Rattle.rme_words.specs.declared.shape.Shape.{Shape}
use Rattle.rme_script.specs.Programs.{Program}
use Rattle.rme_script.specs.Scripts.{script_check}
use Rattle.rme_machine.specs.Views.{slate_job}
use Rattle.rme_core_image_check.specs.Reads.{bank_worker_words}
use Rattle.rme_process_file.proofs.Jobs.{no_lock, other_length, job_told}
use Rattle.rme_process_file.proofs.process_file.ProcessFile.has_job.Goals as goal

pub returns-then-load-from-clause-test : goal.returns-then-load-from-clause-test
returns-then-load-from-clause-test c =
    rw (← c.self.view_is) (no_lock _ _ (omega (arith, c.if-load-from.true, c.load.ensures, c.from.ensures, ap (λ (s : Shape). s.locks) c.shape-shape.ensures)))

pub returns-then-from-load-clause-test : goal.returns-then-from-load-clause-test
returns-then-from-load-clause-test c =
    rw (← c.self.view_is) (other_length _ _ (λ same. c.if-from-load.true (c.from-2.ensures ∙ c.n.ensures.n ∙ ap (λ (p : Program). p.n) c.slate-script.ensures ∙ same ∙ sym c.load-2.ensures)))

pub returns-clause-test : goal.returns-clause-test
returns-clause-test c =
    let bank = c.self.inside.bank in
    let own = bank_worker_words bank c.args.worker in
    let below : own.slate_lock < bank.shape.locks = omega (arith, c.if-load-from.false, c.load.ensures, c.from.ensures, ap (λ (s : Shape). s.locks) c.shape-shape.ensures) in
    let long : (slate_job own).script.n ≡ own.slate_len =
    sym (c.from-2.ensures ∙ c.n.ensures.n ∙ ap (λ (p : Program). p.n) c.slate-script.ensures) ∙ c.if-from-load.false ∙ c.load-2.ensures in
    rw (← c.self.view_is)
    (c.is_ok.ensures.value ∙ ap is_ok c.check.ensures.exact ∙ ap (λ (s : Shape). is_ok (script_check s.cells c.slate-script.result)) c.shape-shape.ensures
    ∙ ap (λ (p : Program). is_ok (script_check bank.shape.cells p)) c.slate-script.ensures ∙ job_told bank.shape own below long)
