-- In reading order: what a handle owns; a handle, and the call that makes one; and the calls about words.
pub mod Owned
pub mod Handles
pub mod Words
