pub mod Subgroups
