-- In reading order: the commands of an event batch; the line of a command, and its text; line 1, and its text; the bytes
-- of a file as lines; recovery from them; the lives of workers; the events of a file's lines.
pub mod BatchCommands
pub mod CommandLines
pub mod CommandTexts
pub mod Headers
pub mod HeaderTexts
pub mod WholeLines
pub mod Recovery
pub mod Lives
pub mod CommandRuns
