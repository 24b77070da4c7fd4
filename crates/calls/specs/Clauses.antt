-- What the functions of this crate promise one another and their callers. No promise of a door cites it.
pub mod Orders
pub mod Held
pub mod Walking
pub mod Summing
pub mod Slots
pub mod Class
pub mod Joins
