pub mod Rising
pub mod Texts
