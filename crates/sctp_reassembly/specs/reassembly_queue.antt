-- What the contracts of `ReassemblyQueue`, and of the messages and unassembled fragments in it, cite.
pub mod Around
pub mod Outward
pub mod Chunks
pub mod Costs
pub mod Counts
pub mod FragmentList
pub mod Fragments
pub mod Loose
pub mod OrderedSkips
pub mod Orders
pub mod PoolUndo
pub mod ReassemblyQueue
pub mod Resets
pub mod Sizes
pub mod Skips
pub mod Undo
