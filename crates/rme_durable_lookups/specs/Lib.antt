-- In reading order: the labels of the workers; the text of a status; the look-up that a line is; what a look-up is
-- answered with.
pub mod WorkerLabels
pub mod StatusTexts
pub mod Lookups
pub mod LookupAnswers
