use Rattle.std.proofs.lemmas.Result.{on_ok_weaker}
use Rattle.rme_test_server.proofs.Answering.{answers_line}
use Rattle.rme_test_server.proofs.events.answer_line.Goals as goal

pub returns-clause-says : goal.returns-clause-says
returns-clause-says g c = on_ok_weaker c.answer.result.1 (answers_line _ _ _ _ _ _ _ _) c.answer.ensures.answers
