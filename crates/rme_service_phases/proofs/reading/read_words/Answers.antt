use Rattle.std.proofs.Common.{ℕ, ◌/◌, ◌%◌, refl, arith}
use Rattle.rme_words.specs.declared.address.Address.TheVariants.{SlateWord}
use Rattle.rme_service_phases.proofs.Drafted.{looks_begin, look_small, look_more, own_word, seat_small}
use Rattle.rme_service_phases.proofs.reading.read_words.Goals as goal

pub loop-i-init : goal.loop-i-init
loop-i-init c = looks_begin _ _ c.requires.few c.requires.operations c.requires.waiting _ refl

pub slate_at-requires-clause-operation : goal.slate_at-requires-clause-operation
slate_at-requires-clause-operation c = look_small _ _ c.requires.few c.requires.operations c.requires.waiting c.args.service.now.shape _ _ _ c.loop-i.invariant c.loop-i-test.true

pub load_as_reader-requires-clause-address : goal.load_as_reader-requires-clause-address
load_as_reader-requires-clause-address c = (
  SlateWord c.args.seat.now.part.worker (c.loop-i.i / 3) (c.loop-i.i % 3),
  (
    seat_small _ _ _ c.worker-worker.ensures.stood c.requires.ours,
    look_small _ _ c.requires.few c.requires.operations c.requires.waiting c.args.service.now.shape _ _ _ c.loop-i.invariant c.loop-i-test.true,
    omega arith,
  ),
  own_word (λ (w : ℕ). SlateWord w (c.loop-i.i / 3) (c.loop-i.i % 3)) _ _ _ _ _ c.shape-shape.ensures c.worker-worker.ensures.worker c.slate_at.ensures,
)

pub loop-i-preserved : goal.loop-i-preserved
loop-i-preserved c =
    let number = own_word (λ (w : ℕ). SlateWord w (c.loop-i.i / 3) (c.loop-i.i % 3)) _ _ _ _ _ c.shape-shape.ensures c.worker-worker.ensures.worker c.slate_at.ensures in
    look_more _ _ c.requires.few c.requires.operations c.requires.waiting c.args.service.now.shape _ _ _ c.loop-i.invariant c.loop-i-test.true _ _ _ c.load_as_reader.ensures.same refl
    (c.load_as_reader.ensures.sees (SlateWord c.args.seat.now.part.worker (c.loop-i.i / 3) (c.loop-i.i % 3)) (
      seat_small _ _ _ c.worker-worker.ensures.stood c.requires.ours,
      look_small _ _ c.requires.few c.requires.operations c.requires.waiting c.args.service.now.shape _ _ _ c.loop-i.invariant c.loop-i-test.true,
      omega arith,
    ) number)
