-- What the proofs of the functions of `write_back` share.
pub mod LentPages
