pub mod Faults
pub mod Frames
pub mod Cuts
pub mod Laws
