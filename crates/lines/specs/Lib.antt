pub mod Decimal
pub mod Report
pub mod Results
