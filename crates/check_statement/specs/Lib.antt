pub mod StageSets
pub mod walk
pub mod Rules
pub mod Past
pub mod Ready
pub mod FunctionJudgement
pub mod ValidatorParts
pub mod Declarations
pub mod ExpressionStages
pub use Rattle.check_scope.specs.BodyTrees.{body_of}
pub use Rattle.check_scope.specs.Context.{pre_emitted_of}
pub use Rattle.check_statement.specs.FunctionJudgement.{FunctionOutcome, outcome_of}
pub use Rattle.ir_facts.specs.WhatIsChecked.{checks_blocks, checks_expressions}
unfoldable pub use Rattle.check_statement.specs.FunctionJudgement.{function_judgement}
