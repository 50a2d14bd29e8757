-- How a line is answered, what a session writes, how an order is executed try by try, and the size of the registry that
-- sessions share.
pub mod SessionAnswers
pub mod SessionRuns
pub mod OrderRuns
pub mod Registries
