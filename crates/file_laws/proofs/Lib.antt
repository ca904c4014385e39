mod Lines
mod FirstFaults
mod Paths
