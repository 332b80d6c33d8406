pub mod Fillings
pub mod Parts
pub mod Traces
pub mod StatesLeft
pub mod Judged
