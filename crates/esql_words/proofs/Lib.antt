pub mod Asked
pub mod Numbers
pub mod Plain
pub mod Taken
