pub mod Graph
pub mod Rules
pub mod Stream
pub mod Packing
pub mod Order
pub mod Results
