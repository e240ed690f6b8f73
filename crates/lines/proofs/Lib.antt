-- What the proofs of several functions use, and the theorems.
mod Digits
mod Stores
mod Texts
pub mod Exact
pub mod Examples
