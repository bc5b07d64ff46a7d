-- What the proofs of the functions of `crossing` share.
pub mod FirstCommon
