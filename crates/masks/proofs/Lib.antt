pub mod Finite
pub mod Laws
pub mod Entries
pub mod Sets
