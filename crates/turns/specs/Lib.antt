pub mod Settled
pub mod Tables
pub mod Turn
pub mod Follows
pub mod Seats
