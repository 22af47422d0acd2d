pub mod Meaning
pub mod Laws
pub mod Words
pub mod Making
pub mod Sides
pub mod Offered
