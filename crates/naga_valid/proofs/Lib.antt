pub mod FunctionSteps
pub mod ExpressionSteps
pub mod EntryUses
pub mod EntryJudgement
pub mod GlobalFits
