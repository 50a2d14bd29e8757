use Rattle.std.proofs.Common.{◌+◌, ◌-◌, ◌*◌, ℕ, List, [], length, take, drop, replicate, sym, subst}
use Rattle.std.specs.Prelude.{slice_index}
use Rattle.rme_program.specs.declared.private.Private.{Private}
use Rattle.rme_program.specs.declared.stage.Stage.TheVariants.{Logging}
use Rattle.rme_program.specs.declared.stage.Log.TheVariants.{LoadTurn}
use Rattle.rme_program.specs.Masks.{first_cell}
use Rattle.rme_program.specs.Steps.{cell_stage_from, logging_section}
use Rattle.rme_process_core.specs.Runs.{ValuesLeadTo, private_at_stage}
use Rattle.rme_process_core.specs.ExpectedSlates.{ValuesMatchSlate}
use Rattle.rme_process_core.proofs.Led.{takes_none, takes_run}
use Rattle.rme_process_core.proofs.Jumping.{slate_taken, led_rest}
use Rattle.rme_process_core.proofs.fast_forwarding.accept_loads.Goals as goal

pub returns-in-Some-clause-loads : goal.returns-in-Some-clause-loads
returns-in-Some-clause-loads c = λ worker begun.
    let shape = c.args.shape.now in let guess = c.args.guess.now in let values : List ℕ = c.args.values.now in let cells = c.in-Some.cells in let lock = c.args.lock in let turn : ℕ = slice_index values 0 in
    let start : Private = private_at_stage worker begun (Logging (LoadTurn lock)) in let next : Private = private_at_stage worker begun c.run_expected_script.new.stage in
    let mid : Private = private_at_stage worker begun (cell_stage_from shape (logging_section lock turn guess.script guess.named) (replicate shape.cells 0) (first_cell guess.named 0 shape.cells)) in
    let finds : ValuesMatchSlate guess values = c.matches_slate.ensures c.if-matches_slate.true in
    let J : ℕ → Type 0 = λ k. ValuesLeadTo shape start (take (2 + 3 * k + cells) values) [] next in
    let K : ℕ → Type 0 = λ k. ValuesLeadTo shape mid (take cells (drop (2 + 3 * k) values)) [] next in
    let at : ℕ → ℕ → Private = λ l t. private_at_stage worker begun (cell_stage_from shape (logging_section l t guess.script guess.named) (replicate shape.cells 0) (first_cell guess.named 0 shape.cells)) in
    let L : ℕ → Type 0 = λ l. ValuesLeadTo shape (at l c.visit-visit.result.turn) (take cells (take (length values - (2 + 3 * c.n.result)) (drop (2 + 3 * c.n.result) values))) [] next in
    let T : ℕ → Type 0 = λ t. ValuesLeadTo shape (at lock t) (take cells (take (length values - (2 + 3 * c.n.result)) (drop (2 + 3 * c.n.result) values))) [] next in
    let read : K c.n.result = led_rest shape mid values (2 + 3 * c.n.result) cells [] next (subst T c.visit-visit.ensures.turn (subst L c.visit-visit.ensures.lock (c.in-Some.ensures.takes worker begun))) in
    subst J (sym c.n.ensures.n) (takes_run shape start values (2 + 3 * guess.script.n) [] mid next (slate_taken shape guess lock values c.requires.guess finds worker begun) cells [] (subst K c.n.ensures.n read))

pub returns-clause-loads : goal.returns-clause-loads
returns-clause-loads c = λ worker begun. takes_none c.args.shape.now (private_at_stage worker begun (Logging (LoadTurn c.args.lock)))
