-- What the proofs of the functions of `answers` share.
pub mod Writing
pub mod Calls
