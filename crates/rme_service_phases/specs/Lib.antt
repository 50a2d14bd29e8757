-- In reading order: the steps of a sweep of phase Enter; the results of phase Recover; and the steps of a section and
-- of its parts.
pub mod Climbs
pub mod Recoveries
pub mod Sections
