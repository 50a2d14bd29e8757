-- What a caller of the engine over bytes in memory may rely on: of answers, and of transcripts.
pub mod InputAnswers
pub mod InputTranscripts
