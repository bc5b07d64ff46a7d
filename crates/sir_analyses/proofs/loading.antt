-- What the proofs of the functions of `loading` share.
pub mod Loads
