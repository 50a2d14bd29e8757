pub mod Finishing
pub mod Living
pub mod Planning
pub mod Rising
pub mod Showing
pub mod Telling
pub mod Working
mod Ordering
pub mod Taking
