mod Words
mod Stray
mod Codec
mod Cuts
