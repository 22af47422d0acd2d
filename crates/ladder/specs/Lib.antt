pub mod Rungs
pub mod Rails
pub mod Ladders
