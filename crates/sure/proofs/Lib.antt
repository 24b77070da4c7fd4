-- Laws that the proofs of this crate cite.
pub mod Sets
pub mod Waking
pub mod Kept
pub mod Visiting
pub mod Solution
pub mod Bodies
pub mod Reading
pub mod Followers
pub mod Statements
pub mod Becoming
pub mod Found
pub mod Course
