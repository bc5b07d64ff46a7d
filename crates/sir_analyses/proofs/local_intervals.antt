-- What the proofs of the functions of `local_intervals` share.
pub mod Scanning
