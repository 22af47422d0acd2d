mod Joining
mod Parts
