use Rattle.std.proofs.Common.{◌≡◌, [], ◌∷◌, ℕ, sym, subst, arith}
use Rattle.rme_program.specs.declared.stage.Stage.TheVariants.{Climbing}
use Rattle.rme_program.specs.declared.note.Note.TheVariants.{Entered}
use Rattle.rme_process_core.specs.Runs.{FastForward, noted, private_at_stage}
use Rattle.rme_process_core.proofs.Led.{jumps_none, writes_one}
use Rattle.rme_process_core.proofs.Jumping.{jumps_at, still}
use Rattle.rme_process_core.proofs.fast_forwarding.fast_forward_climb.Goals as goal

pub returns-in_default : goal.returns-in_default
returns-in_default c = jumps_none c.args.shape.now c.args.private.now c.args.values.now c.args.outcome.now c.requires.private

pub returns-then-entered-gt0 : goal.returns-then-entered-gt0
returns-then-entered-gt0 c =
    let shape = c.args.shape.now in let private = c.args.private.now in let ascent = c.in-Climbing.ascent in let entered = c.enter-entered.result in let stage = c.enter-entered.new.stage in
    let some : entered ≡ 0 → ⊥ = λ none. omega (arith, none, c.if-entered-gt0.true) in
    jumps_at shape private (Climbing ascent) c.in-Climbing.is c.args.values.now entered c.args.outcome.now (private_at_stage private.worker private.begun stage) c.put.new.outcome record {
      within = c.enter-entered.ensures.within;
      notes = Entered ascent.lock ∷ [];
      takes = c.enter-entered.ensures.enters some private.worker private.begun;
      few = c.if-entered-gt0.true;
      writes = writes_one c.args.outcome.now c.put.new.outcome c.flat_lock_note.result (Entered ascent.lock) c.flat_lock_note.ensures c.put.ensures.told c.put.ensures.count;
      private = record { worker = c.requires.private.worker; begun = c.requires.private.begun; stage = c.enter-entered.ensures.stage some private.begun };
    }

pub returns-else-entered-gt0 : goal.returns-else-entered-gt0
returns-else-entered-gt0 c =
    let shape = c.args.shape.now in let private = c.args.private.now in let values = c.args.values.now in let before = c.args.outcome.now in let stage = c.enter-entered.new.stage in
    let none : c.enter-entered.result ≡ 0 = omega (arith, c.if-entered-gt0.false) in
    let J : ℕ → Type 0 = λ k. FastForward shape (noted private before) values k (noted (private_at_stage private.worker private.begun stage) before) in
    subst J (sym none) (still shape private values before stage (c.enter-entered.ensures.none none) (jumps_none shape private values before c.requires.private))
