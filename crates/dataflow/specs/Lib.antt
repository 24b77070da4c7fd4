pub mod Promise
pub mod Certain
pub mod Interference
pub mod Clauses
