pub mod Words
pub mod Places
pub mod Meaning
pub mod Widths
