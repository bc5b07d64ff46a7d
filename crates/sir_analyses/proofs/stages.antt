-- What the proofs of the functions of `stages` share.
pub mod Parts
