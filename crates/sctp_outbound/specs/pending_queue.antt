-- What the contracts of `PendingQueue` cite.
pub mod PendingQueue
pub mod Whole
