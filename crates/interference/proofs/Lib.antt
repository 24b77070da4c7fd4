pub mod LowestFirst
pub mod Paired
pub mod Counted
pub mod Interfering
