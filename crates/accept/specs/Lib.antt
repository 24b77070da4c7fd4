pub mod Promise
pub mod Clauses
