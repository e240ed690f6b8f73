-- What the proofs of several functions use.
mod Objects
mod Placing
mod Keeping
mod Fills
mod Passes
mod Fitting
mod Parts
mod Tops
mod Chunks
mod Reading
pub mod Exact
pub mod Meaning
pub mod Answered
pub mod Lists
mod Examples
