-- What the proofs of the functions of `pages` share.
pub mod PageCheck
