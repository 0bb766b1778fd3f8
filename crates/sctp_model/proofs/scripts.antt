pub mod Play
mod Bounds
mod ScriptsOfSending
mod ScriptsOfArrivals
mod ScriptsOfExpiry
mod ScriptsOfAbandonment
mod ScriptsOfSkips
mod ScriptsOfLaws
mod ScriptsOfComposition
mod LongScripts
