mod Lists
mod Rounds
mod Fallen
mod Lives
mod Stalling
mod Rests
mod Following
mod Ending
