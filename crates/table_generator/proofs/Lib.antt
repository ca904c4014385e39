mod Turns
mod RowKinds
