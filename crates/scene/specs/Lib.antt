pub mod Lists
pub mod Walk
pub mod Meaning
pub mod Steps
pub mod Results
pub mod Trees
