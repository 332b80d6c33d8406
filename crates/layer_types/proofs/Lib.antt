pub mod InfosFrom
