use Rattle.std.proofs.Common.{refl, inl, arith}
use Rattle.rme_process_abi.specs.Handles.{HasShapeNumbers, shape_numbers}
use Rattle.rme_process_abi.proofs.words.rme_core_words.Goals as goal

pub returns : goal.returns
returns c =
    let shape = c.in-Ok.shape in
    let numbers : HasShapeNumbers (shape_numbers c.args.workers c.args.locks c.args.cells c.args.jobs) shape =
    record { has_workers = c.in-Ok.ensures.numbers.0; has_locks = c.in-Ok.ensures.numbers.1; has_cells = c.in-Ok.ensures.numbers.2; has_jobs = c.in-Ok.ensures.numbers.3 } in
    record { answers = inl refl; counted = λ e. (shape, numbers, c.words.ensures); bad_shape = λ e. let never : ⊥ = omega (arith, e) in absurd never; unchanged = λ e. absurd (e refl) }
