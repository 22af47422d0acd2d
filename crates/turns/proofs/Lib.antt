pub mod Finished
pub mod Following
pub mod Gathered
pub mod Lessening
pub mod Ordered
pub mod Takings
pub mod Served
pub mod Trades
