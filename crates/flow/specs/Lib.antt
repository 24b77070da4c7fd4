pub mod Limits
pub mod Flow
pub mod Refusals
pub mod Format
pub mod Cases
pub mod Clauses
