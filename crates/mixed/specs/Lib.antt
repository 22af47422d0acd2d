pub mod Joined
pub mod Mixed
