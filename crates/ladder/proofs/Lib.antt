mod Standing
mod Raising
