-- Reach, marks and owners.
pub mod Marks
pub mod Propagation
