pub mod Calls
mod Held
mod Pieces
