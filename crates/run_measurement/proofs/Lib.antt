pub mod Measurement
