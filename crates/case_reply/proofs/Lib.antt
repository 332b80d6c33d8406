pub mod Benches
pub mod Cases
pub mod WorkedLoop
