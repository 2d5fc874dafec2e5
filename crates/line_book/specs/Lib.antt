pub mod Refusals
pub mod Standing
pub mod Rooms
pub mod Histories
pub mod Came
pub mod Reading
pub mod Seen
pub mod Log
