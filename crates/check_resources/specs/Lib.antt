pub mod Image
pub mod ImageStore
pub mod ImageAtomic
pub mod Traces
pub mod RayQuery
pub mod RayTrace
pub mod walk
