-- What marked each allocation.
pub mod Found
pub mod Meetings
pub mod Flags
