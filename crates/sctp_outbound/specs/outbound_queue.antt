-- What the contracts of `OutboundQueue` cite.
pub mod Numbering
pub mod OutboundQueue
