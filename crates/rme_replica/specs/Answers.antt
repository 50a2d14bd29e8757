-- What an answer of a conditional call says of the log.
use Rattle.std.specs.Prelude.{ℕ, List, Option}
use Rattle.rme_replica.specs.EngineLogs.{EngineLog, HeadValue, KeepsHead, MakesAdd, MovesAdd, StagesPart}
use Rattle.rme_replica.specs.declared.engine.Added.{Added}
use Rattle.rme_replica.specs.declared.engine.Added.TheVariants.{Made, Moved}

abbrev pub AnswersAdd : HeadValue → HeadValue → List ℕ → Option EngineLog → Option EngineLog → Added → Type 0
AnswersAdd seen next lines before after Made = MakesAdd seen next lines before after
AnswersAdd seen next lines before after (Moved found) = MovesAdd seen next found lines before after

abbrev pub AnswersPart : HeadValue → ℕ → List ℕ → Option EngineLog → Option EngineLog → Added → Type 0
AnswersPart seen part bytes before after Made = StagesPart seen part bytes before after
AnswersPart seen part bytes before after (Moved found) = KeepsHead seen before after
