pub mod Numbers
pub mod Readings
pub mod Stages
pub mod Views
pub mod Results
pub mod Meaning
