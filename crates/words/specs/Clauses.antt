-- What the functions of this crate promise one another and their callers. No promise of a door cites it.
pub mod Row
pub mod Change
pub mod Byte
