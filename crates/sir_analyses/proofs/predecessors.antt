-- What the proofs of the functions of `predecessors` share.
pub mod Edges
