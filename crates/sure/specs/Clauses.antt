-- What the functions of this crate promise one another and their callers. No promise of a door cites it.
pub mod Layout
pub mod Encoding
pub mod Noting
pub mod Missing
pub mod SureArrays
