pub mod Infos
pub mod Each
pub mod FitsBody
pub mod Fits
pub mod Facts
pub mod Answers
pub mod Lawful
pub mod Meaning
pub mod WhatIsChecked
pub use Rattle.ir_facts.specs.Fits.{FitsTypes, FitsGlobals, FitsFunction, FitsEntry}
pub use Rattle.ir_arena.specs.Points.{Point, first_fault}
pub use Rattle.ir_facts.specs.Answers.{Right, FirstOf, Exactly}
pub use Rattle.ir_facts.specs.Meaning.{HasOneTypeEach, HasOneUseEach, HasTypesInRange, HasNoStructValues, HasOneKindEach}
