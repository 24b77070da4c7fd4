-- What the functions of this crate promise their callers. No promise of a door cites it.
pub mod Fields
