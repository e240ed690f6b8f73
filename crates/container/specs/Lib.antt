pub mod Records
pub mod Chunks
pub mod Rules
pub mod Found
pub mod Meaning
pub mod Exact
pub mod Results
