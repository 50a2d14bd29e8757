-- In reading order: the phase in which a worker is drawn, the event of a line, the stays and the holds, the worker that
-- blocks another, the lines that are drawn, and the picture of a run.
pub mod Phases
pub mod LineMarks
pub mod Stays
pub mod Holds
pub mod Blockers
pub mod DrawnLines
pub mod DrawnParts
pub mod PictureBuilding
