mod Once
mod Staging
mod Memory
mod Trying
