use Rattle.std.proofs.Common.{◌≡◌, ◌<◌, ℕ, List, [], take, length, replicate, refl, sym, ap, subst, ◌∙◌}
use Rattle.rme_script.specs.Eval.{RunResult, eval_of}
use Rattle.rme_script.proofs.Laws.{eval_length}
use Rattle.rme_program.specs.Masks.{first_cell}
use Rattle.rme_program.specs.declared.private.Private.{Private}
use Rattle.rme_program.specs.declared.stage.Stage.{Stage}
use Rattle.rme_program.specs.declared.stage.Visit.{Visit}
use Rattle.rme_program.specs.declared.stage.Parity.{Parity}
use Rattle.rme_program.specs.declared.stage.Parity.TheVariants.{Even}
use Rattle.rme_program.specs.declared.stage.Stage.TheVariants.{Logging}
use Rattle.rme_program.specs.declared.stage.Log.TheVariants.{StoreShadows, StoreShadowReply}
use Rattle.rme_program.specs.Steps.{cell_stage_from, run_stage, logging_section}
use Rattle.rme_process_core.specs.Runs.{ValuesLeadTo, private_at_stage}
use Rattle.rme_process_core.proofs.Led.{takes_none, takes_there}
use Rattle.rme_process_core.proofs.Loading.{cells_known}
use Rattle.rme_process_core.proofs.Jumping.{ran_none, ran_some, Shadows, shadows_at}
use Rattle.rme_process_core.proofs.fast_forwarding.run_expected_script.Goals as goal

-- The section is begun at an even turn.
begins_even : (visit : Visit) (n named : ℕ) → visit.parity ≡ Even n named → visit ≡ record { lock = visit.lock; turn = visit.turn; parity = Even n named }
begins_even visit n named is = ap (λ (p : Parity). let v : Visit = record { lock = visit.lock; turn = visit.turn; parity = p } in v) is

pub returns-in_default-clause-takes : goal.returns-in_default-clause-takes
returns-in_default-clause-takes c = λ worker begun.
    let shape = c.args.shape.now in let visit = c.args.visit in let lock = visit.lock in let turn = visit.turn in let guess = c.args.guess.now in let zeros : List ℕ = replicate shape.cells 0 in
    let none = sym c.in_default.ensures.first in
    let E : List ℕ → Type 0 = λ r. eval_of guess.script.ops r ≡ record { row = c.eval-reply.new.row; reply = c.eval-reply.result } in
    let ran = ap (λ (v : Visit). Logging (StoreShadowReply v guess.named c.eval-reply.result)) (begins_even visit guess.script.n guess.named c.requires.visit) ∙ ran_none shape lock turn guess.script.n guess.named guess.script zeros c.eval-reply.new.row c.eval-reply.result refl (subst E c.zeros.ensures c.eval-reply.ensures.fold) none in
    let start : Private = private_at_stage worker begun (cell_stage_from shape (logging_section lock turn guess.script guess.named) zeros (first_cell guess.named 0 shape.cells)) in
    takes_there shape start [] [] start (private_at_stage worker begun _)
    (cells_known shape worker begun lock turn guess.script guess.named zeros 0 none ∙ ap (λ (s : Stage). private_at_stage worker begun s) (sym ran)) (takes_none shape start)

-- The row is the one that was begun.
module _ (c : goal.After-eval) where
  abbrev begun_shadows : Shadows
  begun_shadows = (c.args.visit, c.args.guess.now.named, c.zeros-2.result, c.in-Some.cell)

  same : begun_shadows ≡ (c.in-StoreShadows.visit, c.in-StoreShadows.named, c.in-StoreShadows.row, c.in-StoreShadows.cell)
  unfolding shadows_at
  same = ap (λ (s : Stage). shadows_at begun_shadows s) (c.in-Logging.is ∙ ap Logging c.in-StoreShadows.is)

pub returns-clause-takes : goal.returns-clause-takes
returns-clause-takes c = λ worker begun.
    let shape = c.args.shape.now in let visit = c.args.visit in let lock = visit.lock in let turn = visit.turn in let guess = c.args.guess.now in let named = guess.named in let values : List ℕ = c.args.values.now in
    let count = c.in_ok-count.count in let zeros : List ℕ = replicate shape.cells 0 in let row : List ℕ = c.read_cells.new.row in
    let start : List ℕ → Private = λ r. private_at_stage worker begun (cell_stage_from shape (logging_section lock turn guess.script named) r (first_cell named 0 shape.cells)) in
    let P : Shadows → Type 0 = λ s. ValuesLeadTo shape (start zeros) (take count values) [] (private_at_stage worker begun (Logging (StoreShadows s.0 s.1 c.eval.new.row c.eval.result s.3))) in
    let R : List ℕ → Type 0 = λ r. ValuesLeadTo shape (start r) (take count values) [] (private_at_stage worker begun (run_stage shape (logging_section lock turn guess.script named) row)) in
    let read : R zeros = subst R (sym (ap (λ (s : Shadows). s.2) (same c)) ∙ c.zeros-2.ensures) (c.in_ok-count.ensures.takes worker begun lock turn guess.script) in
    let ran = ap (λ (v : Visit). Logging (StoreShadows v named c.eval.new.row c.eval.result c.in-Some.cell)) (begins_even visit guess.script.n named c.requires.visit) ∙ ran_some shape lock turn guess.script.n named guess.script row c.eval.new.row c.eval.result refl c.eval.ensures.fold c.in-Some.cell (sym c.in-Some.ensures.first) in
    subst P (same c) (takes_there shape (start zeros) (take count values) [] (private_at_stage worker begun (run_stage shape (logging_section lock turn guess.script named) row)) (private_at_stage worker begun _) (ap (λ (s : Stage). private_at_stage worker begun s) (sym ran)) read)

pub returns-clause-stage : goal.returns-clause-stage
returns-clause-stage c = λ begun within.
    let cells : ℕ = c.args.shape.now.cells in let row : List ℕ = c.eval.new.row in
    let P : Shadows → Type 0 = λ s. s.0.lock < c.args.shape.now.locks × s.3 < cells × length row ≡ cells in
    subst P (same c) (within, c.in-Some.ensures.below, sym (ap (λ (o : RunResult). length o.row) c.eval.ensures.fold) ∙ eval_length c.args.guess.now.script.ops c.read_cells.new.row ∙ c.in_ok-count.ensures.row)
