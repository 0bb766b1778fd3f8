pub mod Skipping
pub mod SkipComes
pub mod NamesInTurn
pub mod SkipFollowed
pub mod SkipMade
pub mod NamedTables
pub mod NamedOnEach
