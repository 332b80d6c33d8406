pub mod BenchModule
pub mod CaseJudgement
pub mod FaultNames
pub mod Line
pub mod WorkedLoop
