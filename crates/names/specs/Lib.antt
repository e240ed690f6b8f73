pub mod Rules
pub mod Strings
pub mod Order
pub mod Names
pub mod Exact
