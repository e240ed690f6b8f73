pub mod Families
pub mod Opening
mod Ranges
mod Order
pub mod Answered
pub mod Finds
pub mod Found
pub mod Exact
pub mod Inside
pub mod Accepted
pub mod Fits
pub mod Readings
pub mod Walks
pub mod Demand3
