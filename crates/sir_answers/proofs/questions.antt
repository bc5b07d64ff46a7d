-- What the proofs of the functions of `questions` share.
pub mod Asked
pub mod OpenRules
