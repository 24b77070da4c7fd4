pub mod Room
pub mod Masks
pub mod Stepping
pub mod Wrapped
pub mod Waiting
pub mod Growing
pub mod Sets
