-- What the functions of this crate promise one another and their callers. No promise of a door cites it.
pub mod Transfer
pub mod Sent
pub mod Solving
pub mod Phases
pub mod Bytes
pub mod Conflicts
