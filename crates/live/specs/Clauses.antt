-- What the functions of this crate promise one another and their callers. No promise of a door cites it.
pub mod Predecessors
pub mod Spread
pub mod Solving
pub mod Sweeping
pub mod LiveNames
