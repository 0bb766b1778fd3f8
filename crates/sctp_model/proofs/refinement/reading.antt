pub mod Line
pub mod Taken
pub mod Reading
pub mod Keeps
pub mod UnorderedRead
pub mod NextRead
pub mod ReadOne
pub mod HandsOut
