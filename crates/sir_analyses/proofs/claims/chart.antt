-- The chart: where its lines stand, and what is in each.
pub mod Numbers
pub mod Lines
pub mod Marks
pub mod Texts
pub mod Places
pub mod ChartProof
