pub mod Signs
pub mod Spelled
pub mod Fits
pub mod Answers
pub mod Staged
pub mod Alike
pub mod Exact
pub mod Results
