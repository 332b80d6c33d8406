pub mod TypesFrom
