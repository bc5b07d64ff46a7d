pub mod LiveSets
