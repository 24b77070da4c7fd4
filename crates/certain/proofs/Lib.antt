pub mod Pushing
pub mod Visiting
pub mod Solution
pub mod Covering
