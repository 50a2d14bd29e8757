use Rattle.rme_process_core.proofs.Loading.{nothing_guessed}
use Rattle.rme_process_core.proofs.expected_slate.ExpectedSlate.of_empty_script.Goals as goal

pub returns : goal.returns
returns c = λ shape. nothing_guessed shape _ c.of.ensures
