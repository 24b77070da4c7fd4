-- What the functions of this crate promise one another. The promise of `listing` does not cite it.
pub mod Capacity
pub mod Room
