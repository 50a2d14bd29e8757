-- In reading order: the lines that are sent; a conversation; the members of answers, and what answers say of jobs and
-- of locks and workers, and of spaces.
pub mod RequestTexts
pub mod Conversations
pub mod Members
pub mod JobAnswers
pub mod StatusAnswers
pub mod SpaceAnswers
