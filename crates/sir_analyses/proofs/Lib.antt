pub mod SetLaws
pub mod Tables
pub mod Accepted
pub mod Positions
pub mod Listing
pub mod claims
