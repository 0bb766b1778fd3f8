pub mod Pieces
pub mod NumberPlaces
pub mod Removals
pub mod StreamPlaces
