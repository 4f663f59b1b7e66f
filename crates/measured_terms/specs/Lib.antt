pub mod Measures
