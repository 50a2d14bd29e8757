mod Talking
mod Retrying
mod Finishing
