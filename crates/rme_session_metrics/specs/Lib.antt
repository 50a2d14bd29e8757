-- What the text of an answer says.
pub mod AnswerTexts
