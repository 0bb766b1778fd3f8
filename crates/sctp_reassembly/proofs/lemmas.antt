-- Lemmas on what comes, by what they are for.
pub mod reassembly_queue
