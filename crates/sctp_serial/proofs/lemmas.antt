-- Lemmas on chunks in serial order, and on turns.
pub mod AscendingEdits
pub mod Halves
pub mod ListEdits
pub mod Serials
