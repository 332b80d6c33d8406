pub mod Context
pub mod ExpressionTypes
pub mod Pointers
pub mod Roots
pub mod ScopePoints
pub mod BodyTrees
pub mod Results
pub mod walk
pub use Rattle.check_scope.specs.BodyTrees.{body_of}
pub use Rattle.check_scope.specs.Context.{pre_emitted_of}
pub use Rattle.ir_facts.specs.WhatIsChecked.{checks_blocks, checks_expressions}
