-- The module of a bench, and its last function, into which the body of a case is put.
use Rattle.std.specs.Prelude.{List, [], ◌∷◌, ◌++◌, None, Some}
use Rattle.ir_statements.specs.Tree.{Done, Then, Return}
use Rattle.ir_types.specs.Types.{bool_scalar}
use Rattle.ir_module.specs.declared.expressions.Expression.{Expression}
use Rattle.ir_module.specs.declared.expressions.Expression.TheVariants.{Literal, Unary, LocalVariable as LocalPointer, Load, CallResult}
use Rattle.ir_module.specs.declared.functions.Function.{Function}
use Rattle.ir_module.specs.declared.functions.LocalVariable.{LocalVariable}
use Rattle.ir_module.specs.declared.module.Module.{Module}
use Rattle.ir_statements.specs.declared.statements.Block.{Block}
use Rattle.ir_leaves.specs.declared.scalars.Scalar.{Scalar}
use Rattle.ir_leaves.specs.declared.scalars.ScalarKind.TheVariants.{Sint, Uint}
use Rattle.ir_types.specs.declared.types.Type.{«Type» as IrType}
use Rattle.ir_types.specs.declared.types.TypeInner.TheVariants.{Scalar as ScalarType}
use Rattle.case_notation.specs.declared.bench.Bench.{Bench}
use Rattle.case_notation.specs.declared.bench.Bench.TheVariants.{P, C, D}
use Rattle.case_notation.specs.CaseBlocks.{block_of}

abbrev pub u32_scalar : Scalar
u32_scalar = record { kind = Uint; width = 4 }

abbrev pub i32_scalar : Scalar
i32_scalar = record { kind = Sint; width = 4 }

-- a type without a name
abbrev pub type_of : Scalar → IrType
type_of s = record { name = None; inner = ScalarType s }

-- type 0 is bool, 1 u32, 2 i32
abbrev pub bench_types : List IrType
bench_types = type_of bool_scalar ∷ type_of u32_scalar ∷ type_of i32_scalar ∷ []

-- one variable of u32
abbrev pub bench_locals : List LocalVariable
bench_locals = record { name = None; ty = 1; init = None } ∷ []

-- the expressions that all benches have, each at the place that its name stands for: the literals `t` (true), `u` and `i`
-- (0), `e1`, which is made from `t`, the variable `v`, and `x1`, its value
abbrev pub shared_expressions : List Expression
shared_expressions =
    Literal (record { scalar = bool_scalar; bits = 1 })
    ∷ Literal (record { scalar = u32_scalar; bits = 0 })
    ∷ Literal (record { scalar = i32_scalar; bits = 0 })
    ∷ Unary 0 (0 ∷ [])
    ∷ LocalPointer 0
    ∷ Load 4
    ∷ []

-- the expressions of the function; where there is a function to call also `r1`, a result of it, and in the last bench also
-- `e2`, which is made from `x1`
abbrev pub bench_expressions : Bench → List Expression
bench_expressions P = shared_expressions
bench_expressions C = shared_expressions ++ CallResult 0 ∷ []
bench_expressions D = shared_expressions ++ Unary 0 (5 ∷ []) ∷ []

-- the function of the bench with this body: no arguments and no result
abbrev pub bench_function : Bench → Block → Function
bench_function bench block =
    record { arguments = []; result = None; local_variables = bench_locals; expressions = bench_expressions bench; body = block }

-- the body of the function to call: it returns its expression
abbrev pub callee_block : Block
callee_block = block_of (Then (Return (Some 0)) Done)

-- the function to call, `f`: it has no arguments and returns a literal of u32
abbrev pub callee_function : Function
callee_function =
    record {
      arguments = [];
      result = Some (record { ty = 1; binding = None });
      local_variables = [];
      expressions = Literal (record { scalar = u32_scalar; bits = 0 }) ∷ [];
      body = callee_block;
    }

-- the functions of the bench's module: the one with the body is the last
abbrev pub bench_functions : Bench → Block → List Function
bench_functions P block = bench_function P block ∷ []
bench_functions C block = callee_function ∷ bench_function C block ∷ []
bench_functions D block = bench_function D block ∷ []

-- the module of the bench with this body
abbrev pub bench_module : Bench → Block → Module
bench_module bench block =
    record {
      types = bench_types;
      special_types = record { ray_desc = None };
      constants = [];
      overrides = [];
      global_variables = [];
      global_expressions = [];
      functions = bench_functions bench block;
      entry_points = [];
    }
