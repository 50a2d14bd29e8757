use Rattle.rme_core_image_check.proofs.Answering.{refuted}
use Rattle.rme_process_file.proofs.Reading.{other_size}
use Rattle.rme_process_file.proofs.process_file.checked_shape.Goals as goal

pub returns-then-not-is_of_size : goal.returns-then-not-is_of_size
returns-then-not-is_of_size c = λ shape sizes count size.
    other_size c.args.bytes.now c.in-Some.shape shape c.in-Some.ensures sizes (refuted c.if-not-is_of_size.ensures) count size
