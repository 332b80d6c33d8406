use Rattle.std.proofs.Common.{◌≡◌, ◌-◌, length}
use Rattle.check_statement.specs.ExpressionStages.{with_stages, stages_from, expressions_step}
use Rattle.check_statement.specs.walk.AskedContext.{asked_context}
use Rattle.naga_valid.proofs.validator.Validator.check_expressions.Given as goal

-- what is left decides, and nothing but the stages changed
abbrev pub invariant-loop-index : goal.invariant-loop-index
invariant-loop-index g l = record {
  faults : stages_from (g.B.Below.meaning l.self.below) (asked_context l.self.settings l.self.trace l.function.program.now l.function.earlier.now l.function.fun.now l.kinds l.initial.info) l.info.available_stages l.index (length l.function.fun.now.expressions - l.index) ≡ expressions_step (g.B.Below.meaning l.self.below) (asked_context l.self.settings l.self.trace l.function.program.now l.function.earlier.now l.function.fun.now l.kinds l.initial.info);
  kept : l.info ≡ with_stages l.initial.info l.info.available_stages;
}
