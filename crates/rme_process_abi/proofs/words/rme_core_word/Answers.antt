use Rattle.std.proofs.Common.{◌≡◌, true, false, sym, refl, subst, ◌∙◌, inl, inr, arith}
use Rattle.std.specs.Prelude.{Option}
use Rattle.rme_words.specs.declared.address.Address.{Address}
use Rattle.rme_words.specs.Words.{IsShapeAddress}
use Rattle.rme_process_abi.specs.Handles.{HasShapeNumbers, shape_numbers}
use Rattle.rme_process_abi.specs.Words.{ShapeLacksWord, IsWordNumber}
use Rattle.rme_process_abi.proofs.words.rme_core_word.Goals as goal

pub returns-in_default : goal.returns-in_default
returns-in_default c =
    let shape = c.in-Ok.shape in let P : Option Address → Type 0 = λ a. ShapeLacksWord shape a in
    let numbers : HasShapeNumbers (shape_numbers c.args.workers c.args.locks c.args.cells c.args.jobs) shape =
    record { has_workers = c.in-Ok.ensures.numbers.0; has_locks = c.in-Ok.ensures.numbers.1; has_cells = c.in-Ok.ensures.numbers.2; has_jobs = c.in-Ok.ensures.numbers.3 } in
    record {
      answers = inr (inr refl);
      found = λ e. let never : ⊥ = omega (arith, e) in absurd never;
      bad_shape = λ e. let never : ⊥ = omega (arith, e) in absurd never;
      no_word = λ e. (shape, numbers, subst P (sym c.in_default.is ∙ c.address_of_kind.ensures) tt);
      unchanged = λ e. refl;
    }

pub returns-then-not-is_of_shape : goal.returns-then-not-is_of_shape
returns-then-not-is_of_shape c =
    let shape = c.in-Ok.shape in let P : Option Address → Type 0 = λ a. ShapeLacksWord shape a in
    let numbers : HasShapeNumbers (shape_numbers c.args.workers c.args.locks c.args.cells c.args.jobs) shape =
    record { has_workers = c.in-Ok.ensures.numbers.0; has_locks = c.in-Ok.ensures.numbers.1; has_cells = c.in-Ok.ensures.numbers.2; has_jobs = c.in-Ok.ensures.numbers.3 } in
    let never : IsShapeAddress shape c.in-Some.address → ⊥ = λ w. let wrong : false ≡ true = c.if-not-is_of_shape.ensures.1 w in cc in
    record {
      answers = inr (inr refl);
      found = λ e. let never : ⊥ = omega (arith, e) in absurd never;
      bad_shape = λ e. let never : ⊥ = omega (arith, e) in absurd never;
      no_word = λ e. (shape, numbers, subst P (sym c.in-Some.is ∙ c.address_of_kind.ensures) never);
      unchanged = λ e. refl;
    }

pub returns : goal.returns
returns c =
    let shape = c.in-Ok.shape in let P : Option Address → Type 0 = λ a. IsWordNumber shape a c.word.result in
    let numbers : HasShapeNumbers (shape_numbers c.args.workers c.args.locks c.args.cells c.args.jobs) shape =
    record { has_workers = c.in-Ok.ensures.numbers.0; has_locks = c.in-Ok.ensures.numbers.1; has_cells = c.in-Ok.ensures.numbers.2; has_jobs = c.in-Ok.ensures.numbers.3 } in
    let within : IsShapeAddress shape c.in-Some.address = c.if-not-is_of_shape.ensures.0 refl in
    record {
      answers = inl refl;
      found = λ e. (shape, numbers, subst P (sym c.in-Some.is ∙ c.address_of_kind.ensures) (within, c.word.ensures.number));
      bad_shape = λ e. let never : ⊥ = omega (arith, e) in absurd never;
      no_word = λ e. let never : ⊥ = omega (arith, e) in absurd never;
      unchanged = λ e. absurd (e refl);
    }
