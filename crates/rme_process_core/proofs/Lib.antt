mod Telling
mod Going
mod Handing
mod Loading
mod Finishing
mod Led
mod Folding
mod Jumping
pub mod Processes
pub mod Damage
