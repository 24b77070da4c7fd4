pub mod Fields
pub mod Spelled
pub mod MaskField
pub mod Statements
pub mod Accepted
pub mod Lengths
pub mod InputText
