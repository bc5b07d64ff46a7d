-- What the proofs of the functions of `paging` share.
pub mod WrittenPages
