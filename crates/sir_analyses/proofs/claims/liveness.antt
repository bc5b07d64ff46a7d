-- The sets are the least solution of the equations, and rounds count the passes to it.
pub mod RowLaws
pub mod FlowLaws
pub mod GenKill
pub mod LivenessProof
