pub mod Rules
pub mod Meaning
pub mod Results
