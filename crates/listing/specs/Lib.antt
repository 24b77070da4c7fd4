pub mod Text
pub mod Clauses
