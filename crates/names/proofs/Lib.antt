-- What the proofs of several functions use, and the theorems of rules 12 and 13.
mod Strings
mod Runs
mod Stacks
mod Stages
mod Looks
mod Passes
mod Calm
mod Along
mod Spelled
mod Goes
mod Texts
mod Means
pub mod Rule12
pub mod Rule13
mod Cases
