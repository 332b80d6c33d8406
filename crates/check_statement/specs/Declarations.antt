-- The check lists of what a function declares: its local variables, its arguments and its result.
use Rattle.std.specs.Prelude.{ℕ, Bool, true, false, ◌||◌, List, [], ◌∷◌, ◌++◌, Option, None, Some, is_none, unwrap_or, option_and_then}
use Rattle.ir_flags.specs.Bits.{ARGUMENT, CONSTRUCTIBLE}
use Rattle.ir_arena.specs.Points.{within, points_of_each}
use Rattle.ir_types.specs.Types.{inner_at, pointer_space_of}
use Rattle.ir_module.specs.declared.functions.FunctionArgument.{FunctionArgument}
use Rattle.ir_module.specs.declared.functions.FunctionResult.{FunctionResult}
use Rattle.ir_module.specs.declared.functions.LocalVariable.{LocalVariable as Variable}
use Rattle.ir_types.specs.declared.types.AddressSpace.{AddressSpace}
use Rattle.ir_types.specs.declared.types.AddressSpace.TheVariants as space
use Rattle.ir_types.specs.declared.type_info.TypeInfo.{TypeInfo}
use Rattle.check_variables.specs.Locals.{local_points}
use Rattle.ir_types.specs.TypeInfos.{type_has}
use Rattle.ir_errors.specs.declared.function.FunctionError.TheVariants.{LocalVariable, InvalidArgumentPointerSpace, InvalidArgumentType, PipelineInputRegularFunction, NonConstructibleReturnType, PipelineOutputRegularFunction}
use Rattle.check_scope.specs.Context.{Context}
use Rattle.check_scope.specs.ScopePoints.{Points}

-- a missing name is the empty text
abbrev pub name_or_empty : Option (List ℕ) → List ℕ
name_or_empty name = unwrap_or name []

-- a local variable, with its handle
abbrev pub variable_points : Context → List TypeInfo → ℕ → Variable → Points
variable_points context infos h var =
    within
    (λ source. LocalVariable h (name_or_empty var.name) source)
    (local_points context.program.types infos context.info.expression_types context.kinds var)

-- the local variables, in order
abbrev pub variables_points : Context → List TypeInfo → Points
variables_points context infos = points_of_each (variable_points context infos) context.fun.local_variables

-- the spaces that an argument may point into
abbrev pub takes_arguments : AddressSpace → Bool
takes_arguments space.Function = true
takes_arguments space.Private = true
takes_arguments space.WorkGroup = false
takes_arguments space.Uniform = false
takes_arguments (space.Storage access) = false
takes_arguments space.Handle = false
takes_arguments space.Immediate = false
takes_arguments space.TaskPayload = false
takes_arguments space.RayPayload = false
takes_arguments space.IncomingRayPayload = false

-- an argument that is a pointer
abbrev pub pointer_points : ℕ → List ℕ → Option AddressSpace → Points
pointer_points index name None = []
pointer_points index name (Some p) = (takes_arguments p, InvalidArgumentPointerSpace index name p) ∷ []

-- the space that an argument points into, where it is a pointer
abbrev pub space_of_argument : Context → FunctionArgument → Option AddressSpace
space_of_argument context argument = option_and_then pointer_space_of (inner_at context.program.types argument.ty)

-- an argument, with its index: where it is a pointer its space; its type; and a binding only where it is an entry point's
abbrev pub argument_points : Context → List TypeInfo → Bool → ℕ → FunctionArgument → Points
argument_points context infos entry_point index argument =
    pointer_points index (name_or_empty argument.name) (space_of_argument context argument)
    ++ ((type_has infos argument.ty ARGUMENT, InvalidArgumentType index (name_or_empty argument.name))
    ∷ (entry_point || is_none argument.binding, PipelineInputRegularFunction (name_or_empty argument.name))
    ∷ [])

-- the arguments, in order
abbrev pub arguments_points : Context → List TypeInfo → Bool → Points
arguments_points context infos entry_point =
    points_of_each (argument_points context infos entry_point) context.fun.arguments

-- the result, if there is one: its type; and a binding only where it is an entry point's
abbrev pub result_points : List TypeInfo → Bool → Option FunctionResult → Points
result_points infos entry_point None = []
result_points infos entry_point (Some declared) =
    (type_has infos declared.ty CONSTRUCTIBLE, NonConstructibleReturnType)
    ∷ (entry_point || is_none declared.binding, PipelineOutputRegularFunction)
    ∷ []

-- the local variables, the arguments, and the result
abbrev pub declaration_points : Context → List TypeInfo → Bool → Points
declaration_points context infos entry_point =
    variables_points context infos
    ++ (arguments_points context infos entry_point
    ++ result_points infos entry_point context.fun.result)
