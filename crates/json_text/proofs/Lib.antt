-- What the proofs of several functions use.
pub mod Laws
pub mod Questions
mod Nests
pub mod Unique
pub mod Excluded
mod OneFault
pub mod Cuts
mod Breaks
pub mod Marks
mod Counts
mod Depths
pub mod Tops
pub mod Answers
pub mod Checks
pub mod Ends
pub mod Exact
pub mod Tree
mod Examples
