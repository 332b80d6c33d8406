-- What the checks of a body read: the module and the infos of its earlier functions, the function itself with what
-- the lower layer knows of it, the settings, and what the ray traces of earlier functions left.
use Rattle.std.specs.Prelude.{◌≡◌, Bool, false, List, All, Option, None, Some, length, slice_get}
use Rattle.ir_facts.specs.Fits.{FitsTypes, FitsFunction}
use Rattle.ir_module.specs.PreEmitted.{needs_pre_emit}
use Rattle.ir_types.specs.Types.{ResolutionFits}
use Rattle.ir_module.specs.declared.expressions.Expression.{Expression}
use Rattle.ir_module.specs.declared.functions.Function.{Function}
use Rattle.ir_module.specs.declared.module.Module.{Module}
use Rattle.ir_facts.specs.declared.proc.expression_kinds.ExpressionKind.{ExpressionKind}
use Rattle.ir_facts.specs.declared.valid.info.FunctionInfo.{FunctionInfo}
use Rattle.ir_facts.specs.declared.valid.info.ModuleInfo.{ModuleInfo}
use Rattle.ir_facts.specs.declared.valid.settings.Settings.{Settings}
use Rattle.ir_facts.specs.Lawful.{IsNoStruct}
use Rattle.naga_runs.specs.Handles.{Handles}
use Rattle.check_scope.specs.declared.trace.TraceState.{TraceState}

pub record Context : Type 0 where
  pub program : Module
  pub earlier : ModuleInfo
  pub fun : Function
  pub info : FunctionInfo
  pub kinds : List ExpressionKind
  pub settings : Settings
  pub trace : TraceState

abbrev pub if_pre_emitted : Option Expression → Bool
if_pre_emitted None = false
if_pre_emitted (Some x) = needs_pre_emit x

-- the expressions of a function that are in scope before its first statement
abbrev pub pre_emitted_of : Function → Handles
pre_emitted_of fun = λ h. if_pre_emitted (slice_get fun.expressions h)

abbrev pub pre_emitted : Context → Handles
pre_emitted context = pre_emitted_of context.fun

-- what is named is there: the conditions of a validation, and the laws of the lower layer
pub record ContextFits (context : Context) : Type 0 where
  pub types : FitsTypes context.program
  pub fun : FitsFunction context.fun context.program (length context.earlier.functions)
  pub one_type_each : length context.info.expression_types ≡ length context.fun.expressions
  pub types_in_range : All (ResolutionFits (length context.program.types)) context.info.expression_types
  pub no_struct_values : All IsNoStruct context.info.expression_types
  pub one_kind_each : length context.kinds ≡ length context.fun.expressions
