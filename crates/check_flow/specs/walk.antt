-- What lemmas cite, and functions that the validator alone calls: the parts of lists, as the code goes through them.
pub mod Emitted
pub mod SwitchParts
pub mod ValueSet
