-- A worker with a job has a number; refusals over epochs; session steps over epochs; the replies of sessions, and the
-- lives in them; places; and the first bad line of a file.
pub mod Numbering
pub mod Refusals
pub mod Overs
pub mod Telling
pub mod Living
pub mod Places
pub mod Judging
