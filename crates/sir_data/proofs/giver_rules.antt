-- What the proofs of the functions of `giver_rules` share.
pub mod Passing
