use Rattle.std.proofs.Common.{sym, ◌∙◌, ap, length, refl}
use Rattle.rme_script.specs.Eval.{RunResult}
use Rattle.rme_script.proofs.Laws.{eval_length}
use Rattle.rme_words.specs.Words.{memory_of}
use Rattle.rme_machine.specs.Views.{lock_words}
use Rattle.rme_core_image_check.proofs.Standing.{logged_is}
use Rattle.rme_core_image_check.proofs.locks.is_logged_lock.Goals as goal

pub is_shadow_of_row-requires-clause-row : goal.is_shadow_of_row-requires-clause-row
is_shadow_of_row-requires-clause-row c = ap (λ (r : RunResult). length r.row) (sym c.eval-reply.ensures.fold) ∙ eval_length c.args.script.now.ops c.args.row.now ∙ c.requires.row

pub has_mixed_cells-requires-clause-after : goal.has_mixed_cells-requires-clause-after
has_mixed_cells-requires-clause-after c = ap (λ (r : RunResult). length r.row) (sym c.eval-reply.ensures.fold) ∙ eval_length c.args.script.now.ops c.args.row.now ∙ c.requires.row

pub returns : goal.returns
returns c =
    logged_is c.args.bank.now.shape (lock_words c.args.bank.now.shape (memory_of c.args.bank.now) c.args.lock) c.args.row.now c.args.place c.args.script.now c.has_mixed_cells.result
    c.eval-reply.new.row c.eval-reply.result (sym c.load.ensures ∙ c.if-load-place.false) c.eval-reply.ensures.fold (c.if-not-is_shadow_of_row.ensures.0 refl) c.has_mixed_cells.ensures
