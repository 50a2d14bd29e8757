use Rattle.std.proofs.Common.{◌*◌, take, refl, ap, sym, ◌∙◌, arith}
use Rattle.std.proofs.lemmas.Option.{same_Some}
use Rattle.rme_words.specs.declared.address.Address.TheVariants.{SlateLen}
use Rattle.rme_script.specs.Slates.{slate_of}
use Rattle.rme_service_steps.specs.Parts.{draft_script}
use Rattle.rme_service_steps.specs.SeatViews.{SeatView}
use Rattle.rme_service_phases.proofs.Drafted.{own_word, seat_small, len_is, len_small, len_script}
use Rattle.rme_service_phases.proofs.reading.read_script.Goals as goal

pub load_as_reader-operations-requires-clause-address : goal.load_as_reader-operations-requires-clause-address
load_as_reader-operations-requires-clause-address c = (
  SlateLen c.args.seat.now.part.worker,
  seat_small _ _ _ c.worker-worker.ensures.stood c.requires.ours,
  own_word SlateLen _ _ _ _ _ c.shape-shape.ensures c.worker-worker.ensures.worker c.slate_len_at.ensures,
)

pub overflow_cast-operations : goal.overflow_cast-operations
overflow_cast-operations c =
    let number = own_word SlateLen _ _ _ _ _ c.shape-shape.ensures c.worker-worker.ensures.worker c.slate_len_at.ensures in
    let sees = c.load_as_reader-operations.ensures.sees (SlateLen c.args.seat.now.part.worker) (seat_small _ _ _ c.worker-worker.ensures.stood c.requires.ours) number in
    let small = len_small _ _ c.requires.waiting _ sees in
    omega (arith, small)

pub read_words-words-requires-clause-few : goal.read_words-words-requires-clause-few
read_words-words-requires-clause-few c =
    let number = own_word SlateLen _ _ _ _ _ c.shape-shape.ensures c.worker-worker.ensures.worker c.slate_len_at.ensures in
    let sees = c.load_as_reader-operations.ensures.sees (SlateLen c.args.seat.now.part.worker) (seat_small _ _ _ c.worker-worker.ensures.stood c.requires.ours) number in
    len_small _ _ c.requires.waiting _ sees

pub read_words-words-requires-clause-operations : goal.read_words-words-requires-clause-operations
read_words-words-requires-clause-operations c =
    let number = own_word SlateLen _ _ _ _ _ c.shape-shape.ensures c.worker-worker.ensures.worker c.slate_len_at.ensures in
    let sees = c.load_as_reader-operations.ensures.sees (SlateLen c.args.seat.now.part.worker) (seat_small _ _ _ c.worker-worker.ensures.stood c.requires.ours) number in
    len_is _ _ c.requires.waiting _ sees ∙ ap (λ (x : SeatView). (draft_script x.part.draft).n) (sym c.load_as_reader-operations.ensures.same)

pub unreachable-requires : goal.unreachable-requires
unreachable-requires c =
    let number = own_word SlateLen _ _ _ _ _ c.shape-shape.ensures c.worker-worker.ensures.worker c.slate_len_at.ensures in
    let sees = c.load_as_reader-operations.ensures.sees (SlateLen c.args.seat.now.part.worker) (seat_small _ _ _ c.worker-worker.ensures.stood c.requires.ours) number in
    let words = c.read_words-words.ensures.words ∙ ap (λ (x : SeatView). take (3 * c.load_as_reader-operations.result) (slate_of (draft_script x.part.draft).ops)) c.load_as_reader-operations.ensures.same in
    let script = len_script _ _ c.requires.waiting _ sees _ words in
    let none = c.if-not-read_slate.ensures.none refl ∙ script in
    cc

pub returns-clause-script : goal.returns-clause-script
returns-clause-script c =
    let number = own_word SlateLen _ _ _ _ _ c.shape-shape.ensures c.worker-worker.ensures.worker c.slate_len_at.ensures in
    let sees = c.load_as_reader-operations.ensures.sees (SlateLen c.args.seat.now.part.worker) (seat_small _ _ _ c.worker-worker.ensures.stood c.requires.ours) number in
    let words = c.read_words-words.ensures.words ∙ ap (λ (x : SeatView). take (3 * c.load_as_reader-operations.result) (slate_of (draft_script x.part.draft).ops)) c.load_as_reader-operations.ensures.same in
    same_Some _ _ (c.if-not-read_slate.ensures.read refl ∙ len_script _ _ c.requires.waiting _ sees _ words)
