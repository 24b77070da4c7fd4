-- What the functions of this crate promise one another and their callers. No promise of a door cites it.
pub mod Answers
pub mod Kinds
pub mod Parts
