pub mod Scatter
