-- The order and the predecessors.
pub mod OrderLength
pub mod OrderLaws
pub mod OrderOnce
pub mod PredecessorLaws
pub mod OrderProof
