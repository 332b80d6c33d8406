-- What a lower layer means: the right answers of its five calls, and the laws that they keep.
use Rattle.std.specs.Prelude.{◌≡◌, ℕ, List, Option, Result, Ok, All, length}
use Rattle.ir_types.specs.Types.{ResolutionFits}
use Rattle.ir_module.specs.declared.expressions.Expression.{Expression}
use Rattle.ir_module.specs.declared.functions.Function.{Function}
use Rattle.ir_module.specs.declared.module.Module.{Module}
use Rattle.ir_facts.specs.declared.proc.expression_kinds.ExpressionKind.{ExpressionKind}
use Rattle.ir_flags.specs.declared.capabilities.Capabilities.{Capabilities}
use Rattle.ir_errors.specs.declared.expression.ExpressionError.{ExpressionError}
use Rattle.ir_flags.specs.declared.valid.ShaderStages.{ShaderStages}
use Rattle.ir_flags.specs.declared.valid.ValidationFlags.{ValidationFlags}
use Rattle.ir_facts.specs.declared.valid.info.FunctionInfo.{FunctionInfo}
use Rattle.ir_facts.specs.declared.valid.info.ModuleInfo.{ModuleInfo}
use Rattle.ir_facts.specs.declared.valid.settings.Settings.{Settings}
use Rattle.ir_facts.specs.Lawful.{IsNoStruct}
use Rattle.ir_errors.specs.declared.function.FunctionError.{FunctionError}
use Rattle.ir_facts.specs.declared.proc.mesh.MeshAnalysis.{MeshAnalysis}

pub record Meaning : Type 0 where
  -- what is known of a function, or what is wrong with it
  pub function_info : Function → Module → ModuleInfo → ValidationFlags → Capabilities → Result FunctionInfo FunctionError
  -- the stages that an expression of a function may run in, or what is wrong with it
  pub expression_stages : Settings → ℕ → Function → Module → FunctionInfo → ModuleInfo → List ExpressionKind →
      Result ShaderStages ExpressionError
  -- what the global with this handle implies as the output variable of a mesh shader
  pub mesh_analysis : Module → ℕ → MeshAnalysis
  -- the kind of each expression
  pub kinds_of : List Expression → List ExpressionKind
  -- the size of the type with this handle, in bytes
  pub size_of : Module → ℕ → Option ℕ

-- the laws of a lower layer; none has a premise but that it knows the function
module _ (below : Meaning) where
  -- an info has one type for each expression of its function
  abbrev pub HasOneTypeEach : Type 0
  HasOneTypeEach =
      (f : Function) (m : Module) (i : ModuleInfo) (flags : ValidationFlags) (c : Capabilities) (info : FunctionInfo) →
      below.function_info f m i flags c ≡ Ok info → length info.expression_types ≡ length f.expressions

  -- an info has one use for each global of the module
  abbrev pub HasOneUseEach : Type 0
  HasOneUseEach =
      (f : Function) (m : Module) (i : ModuleInfo) (flags : ValidationFlags) (c : Capabilities) (info : FunctionInfo) →
      below.function_info f m i flags c ≡ Ok info → length info.global_uses ≡ length m.global_variables

  -- the types of an info name types of the module alone
  abbrev pub HasTypesInRange : Type 0
  HasTypesInRange =
      (f : Function) (m : Module) (i : ModuleInfo) (flags : ValidationFlags) (c : Capabilities) (info : FunctionInfo) →
      below.function_info f m i flags c ≡ Ok info → All (ResolutionFits (length m.types)) info.expression_types

  -- a type that an info gives as a value is no struct
  abbrev pub HasNoStructValues : Type 0
  HasNoStructValues =
      (f : Function) (m : Module) (i : ModuleInfo) (flags : ValidationFlags) (c : Capabilities) (info : FunctionInfo) →
      below.function_info f m i flags c ≡ Ok info → All IsNoStruct info.expression_types

  -- there is one kind for each expression
  abbrev pub HasOneKindEach : Type 0
  HasOneKindEach = (es : List Expression) → length (below.kinds_of es) ≡ length es
