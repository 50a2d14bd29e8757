-- In reading order: placeholders for a shape, a job and a part; the part of one worker, and the part after a step; the
-- positions of words; the invariant of the words and the records of all seats; the effects of an own step and of a
-- reader's load; a Chance, a service and a worker's seat as contracts see them; the steps of a call; how a service is
-- opened and closed; the operations of all threads as a run of the abstract machine; and what a worker may do without
-- leaving its lock.
pub mod Placeholders
pub mod Parts
pub mod Layout
pub mod Rule
pub mod Steps
pub mod Chances
pub mod SeatViews
pub mod CallSteps
pub mod Opening
pub mod Closing
pub mod Running
pub mod Inside
