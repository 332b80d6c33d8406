-- The step of a function's expressions: each is asked of the lower layer by itself, in order, and its stages are met in.
use Rattle.std.specs.Prelude.{ℕ, zero, suc, List, [], ◌∷◌, Result, Ok, Err, length, if◌then◌else◌}
use Rattle.ir_arena.specs.Points.{and_then}
use Rattle.ir_errors.specs.declared.expression.ExpressionError.{ExpressionError}
use Rattle.ir_flags.specs.declared.valid.ShaderStages.{ShaderStages}
use Rattle.ir_facts.specs.declared.valid.info.FunctionInfo.{FunctionInfo}
use Rattle.ir_facts.specs.Meaning.{Meaning}
use Rattle.ir_errors.specs.declared.function.FunctionError.{FunctionError}
use Rattle.ir_errors.specs.declared.function.FunctionError.TheVariants.{Expression}
use Rattle.check_scope.specs.Context.{Context}
use Rattle.ir_facts.specs.WhatIsChecked.{checks_expressions}
use Rattle.check_statement.specs.StageSets.{meet}

-- an info with these stages
abbrev pub with_stages : FunctionInfo → ShaderStages → FunctionInfo
with_stages info stages = record info { available_stages = stages }

-- a refusal of an expression, as a fault of its function
abbrev pub of_expression : {A : Type 0} → ℕ → Result A ExpressionError → Result A FunctionError
of_expression h (Ok x) = Ok x
of_expression h (Err source) = Err (Expression h source)

module _ (below : Meaning) (context : Context) where
  -- the mask of an expression: the stages that it may run in, where those before it leave these to the function
  abbrev pub mask_at : ShaderStages → ℕ → Result ShaderStages FunctionError
  mask_at stages h =
      let known = with_stages context.info stages in
      of_expression h (below.expression_stages context.settings h context.fun context.program known context.earlier context.kinds)

  -- the stages that n expressions from h on leave of these: the mask of each is met in before the next is asked
  unfoldable pub stages_from : ShaderStages → ℕ → ℕ → Result ShaderStages FunctionError
  stages_from stages h zero = Ok stages
  stages_from stages h (suc n) = and_then (mask_at stages h) (λ mask. stages_from (meet stages mask) (suc h) n)

  -- where expressions are checked, the stages that all of them leave; elsewhere those of the info
  abbrev pub expressions_step : Result ShaderStages FunctionError
  expressions_step =
      if checks_expressions context.settings.flags
      then stages_from context.info.available_stages 0 (length context.fun.expressions)
      else Ok context.info.available_stages

  -- the masks of n expressions from h on, each as the lower layer gives it where those before it are met in
  abbrev pub mask_and : Result ShaderStages FunctionError → (ShaderStages → List ShaderStages) → List ShaderStages
  mask_and (Ok mask) rest = mask ∷ rest mask
  mask_and (Err fault) rest = []

  unfoldable pub masks_from : ShaderStages → ℕ → ℕ → List ShaderStages
  masks_from stages h zero = []
  masks_from stages h (suc n) = mask_and (mask_at stages h) (λ mask. masks_from (meet stages mask) (suc h) n)

  -- those of all expressions, where they are checked
  abbrev pub expression_masks : List ShaderStages
  expression_masks =
      if checks_expressions context.settings.flags
      then masks_from context.info.available_stages 0 (length context.fun.expressions)
      else []
