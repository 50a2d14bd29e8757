mod Reading
mod Heads
