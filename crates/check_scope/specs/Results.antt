-- The results of calls and of atomic operations: which statement fills one, and which must be filled.
use Rattle.std.specs.Prelude.{ℕ, zero, suc, Bool, true, false, not, ◌&&◌, ◌==◌, List, [], ◌∷◌, Option, None, Some, length, if◌then◌else◌}
use Rattle.std.specs.List.{list_any}
use Rattle.ir_statements.specs.Tree.{Leaf, Block, Branch, Switch, Loop, Break, Continue, Return, Kill}
use Rattle.ir_module.specs.declared.expressions.Expression.{Expression}
use Rattle.ir_module.specs.declared.expressions.Expression.TheVariants as e
use Rattle.ir_statements.specs.declared.statements.Statement as ir
use Rattle.ir_statements.specs.declared.statements.Statement.{Statement, Switch'}
use Rattle.ir_errors.specs.declared.function.FunctionError.TheVariants.{UnvisitedExpression}
use Rattle.naga_runs.specs.Handles.{Handles}
use Rattle.naga_runs.specs.Positions.{BodyNode, NoNode, StatementNode, BreakIfNode}
use Rattle.naga_runs.specs.Visits.{Visit}
use Rattle.check_scope.specs.Context.{Context}
use Rattle.ir_facts.specs.WhatIsChecked.{checks_expressions}
use Rattle.check_scope.specs.ScopePoints.{Points}
use Rattle.check_scope.specs.ExpressionTypes.{expression_at}

-- which statement puts an expression in scope: an Emit, where it isn't there from the start; a Call or an Atomic, which so
-- fills it; or another
pub data PutBy : Type 0 where
  ByEmit : PutBy
  ByCallOrAtomic : PutBy
  ByAnother : PutBy

abbrev pub put_by : Expression → PutBy
put_by (e.Literal l) = ByEmit
put_by (e.Constant h) = ByEmit
put_by (e.Override h) = ByEmit
put_by (e.ZeroValue ty) = ByEmit
put_by (e.Compose ty components) = ByEmit
put_by (e.Access base index) = ByEmit
put_by (e.AccessIndex base index) = ByEmit
put_by (e.FunctionArgument i) = ByEmit
put_by (e.GlobalVariable h) = ByEmit
put_by (e.LocalVariable h) = ByEmit
put_by (e.Load pointer) = ByEmit
put_by (e.CallResult f) = ByCallOrAtomic
put_by (e.AtomicResult ty comparison) = ByCallOrAtomic
put_by (e.WorkGroupUniformLoadResult ty) = ByAnother
put_by e.RayQueryProceedResult = ByAnother
put_by e.SubgroupBallotResult = ByAnother
put_by (e.SubgroupOperationResult ty) = ByAnother
put_by (e.Splat detail operands) = ByEmit
put_by (e.Swizzle detail operands) = ByEmit
put_by (e.ImageSample detail operands) = ByEmit
put_by (e.ImageLoad detail operands) = ByEmit
put_by (e.ImageQuery detail operands) = ByEmit
put_by (e.Unary detail operands) = ByEmit
put_by (e.Binary detail operands) = ByEmit
put_by (e.Select detail operands) = ByEmit
put_by (e.Derivative detail operands) = ByEmit
put_by (e.Relational detail operands) = ByEmit
put_by (e.Math detail operands) = ByEmit
put_by (e.As detail operands) = ByEmit
put_by (e.ArrayLength detail operands) = ByEmit
put_by (e.RayQueryGetIntersection detail operands) = ByEmit
put_by (e.RayQueryVertexPositions detail operands) = ByEmit
put_by (e.CooperativeLoad detail operands) = ByEmit
put_by (e.CooperativeMultiplyAdd detail operands) = ByEmit

abbrev pub is_emitted : PutBy → Bool
is_emitted ByEmit = true
is_emitted ByCallOrAtomic = false
is_emitted ByAnother = false

abbrev pub is_filled : PutBy → Bool
is_filled ByEmit = false
is_filled ByCallOrAtomic = true
is_filled ByAnother = false

-- the kinds of expression that another statement than Emit puts
abbrev pub is_result : Option Expression → Bool
is_result None = false
is_result (Some x) = not (is_emitted (put_by x))

-- the kinds of expression that a Call or an Atomic fills
abbrev pub is_to_fill : Option Expression → Bool
is_to_fill None = false
is_to_fill (Some x) = is_filled (put_by x)

-- the result that a Call or an Atomic names
abbrev pub named_result : Statement → Option ℕ
named_result (ir.Call f arguments result) = result
named_result (ir.Atomic pointer fun value result) = result
named_result (ir.Emit range) = None
named_result (ir.Store pointer value) = None
named_result (ir.ImageStore image coordinate array_index value) = None
named_result (ir.ImageAtomic image coordinate array_index fun value) = None
named_result (ir.WorkGroupUniformLoad pointer result) = None
named_result (ir.CooperativeStore target source) = None
named_result (ir.ControlBarrier barrier) = None
named_result (ir.MemoryBarrier barrier) = None
named_result (ir.SubgroupBallot result predicate) = None
named_result (ir.SubgroupCollectiveOperation op collective_op argument result) = None
named_result (ir.SubgroupGather mode argument result) = None
named_result (ir.RayQuery query fun) = None
named_result (ir.RayPipelineFunction fun) = None
named_result (ir.Block body) = None
named_result (ir.If condition accept reject) = None
named_result (Switch' selector shape row) = None
named_result (ir.Loop body continuing break_if) = None
named_result ir.Break = None
named_result ir.Continue = None
named_result (ir.Return value) = None
named_result ir.Kill = None

abbrev pub result_of : BodyNode → Option ℕ
result_of NoNode = None
result_of (BreakIfNode h) = None
result_of (StatementNode (Leaf acts statement span)) = named_result statement
result_of (StatementNode (Block b)) = None
result_of (StatementNode (Branch h accept reject)) = None
result_of (StatementNode (Switch h cases)) = None
result_of (StatementNode (Loop b continuing q)) = None
result_of (StatementNode Break) = None
result_of (StatementNode Continue) = None
result_of (StatementNode (Return value)) = None
result_of (StatementNode Kill) = None

abbrev pub is_this : ℕ → Option ℕ → Bool
is_this r None = false
is_this r (Some named) = named == r

-- what stands there is a Call or an Atomic that names r as its result
abbrev pub fills : ℕ → BodyNode → Bool
fills r node = is_this r (result_of node)

-- the results that are filled before a visit, where these are the visits before it
abbrev pub filled_before : List Visit → Handles
filled_before earlier = λ r. list_any (λ v. fills r v.node) earlier

-- an expression that a Call or an Atomic fills, and none did so far
abbrev pub is_unfilled : Context → Handles → ℕ → Bool
is_unfilled context filled r = is_to_fill (expression_at context r) && not (filled r)

-- a result is fresh where expressions are checked and nothing filled it
abbrev pub is_fresh : Context → Handles → ℕ → Bool
is_fresh context filled r = checks_expressions context.settings.flags && is_unfilled context filled r

-- n expressions from the first on: none is left unfilled
abbrev pub filled_points_from : Context → Handles → ℕ → ℕ → Points
filled_points_from context filled first zero = []
filled_points_from context filled first (suc n) =
    (not (is_unfilled context filled first), UnvisitedExpression first) ∷ filled_points_from context filled (suc first) n

-- after a body, where expressions are checked: each result of the function is filled
abbrev pub filled_points : Context → Handles → Points
filled_points context filled =
    if checks_expressions context.settings.flags
    then filled_points_from context filled 0 (length context.fun.expressions)
    else []
