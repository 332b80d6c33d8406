-- What a lower layer answers that is made of recorded facts.
pub mod Asked
pub mod Infos
pub mod Meaning
pub mod Laws
