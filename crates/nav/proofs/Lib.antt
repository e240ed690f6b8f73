-- Laws of reading at places. `Navigation` has what the layers above cite.
mod Scanned
mod Steps
mod Standing
mod FirstBytes
mod Spellings
mod Numerals
mod Elements
mod Keeping
mod Passes
mod Searches
mod Computed
mod Located
mod Tours
mod Gathering
mod Tops
mod Examples
pub mod Navigation
