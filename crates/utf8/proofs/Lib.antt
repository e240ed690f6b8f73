-- What the proofs of several functions use, and the theorem.
mod Tests
mod Table
mod Whole
pub mod Widths
mod Turns
pub mod Exact
