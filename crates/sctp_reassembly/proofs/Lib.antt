pub mod lemmas
pub mod Examples
