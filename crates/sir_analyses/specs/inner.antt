-- Forms between our own functions: contracts of functions that are not exported. No exported promise speaks of them.
pub mod Visiting
pub mod Writing
pub mod Outcomes
pub mod Uses
pub mod Tables
pub mod Pointers
pub mod Following
pub mod Discovery
pub mod Stages
pub mod Loading
pub mod Scanning
pub mod Sweep
