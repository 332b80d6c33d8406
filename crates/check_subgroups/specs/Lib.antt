pub mod Subgroup
pub mod SubgroupCollective
pub mod SubgroupGather
pub mod Barrier
pub mod walk
