pub mod Limits
pub mod Points
pub mod Refusals
pub mod LastPlaces
pub mod formers
