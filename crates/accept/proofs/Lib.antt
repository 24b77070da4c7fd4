pub mod Filled
pub mod Passing
pub mod Starting
pub mod Gathering
pub mod Loading
pub mod Judging
