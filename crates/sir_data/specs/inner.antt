-- Forms between our own functions: contracts of functions that are not exported. No exported promise speaks of them.
pub mod Cases
pub mod CodeRows
pub mod WellFormed
pub mod Image
pub mod LentRecords
