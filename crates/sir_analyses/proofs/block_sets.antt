-- What the proofs of the functions of `block_sets` share.
pub mod BlockSets
