-- Forms between our own functions: contracts of functions that are not exported. No exported promise speaks of them.
pub mod Scatter
pub mod Pieces
pub mod Questions
pub mod IntervalPieces
pub mod AllocationPieces
pub mod LiveAround
pub mod Columns
