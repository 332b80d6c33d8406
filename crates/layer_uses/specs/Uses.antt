-- The uses of globals by a function.
use Rattle.std.specs.Prelude.{ℕ, List, [], ◌∷◌, Option, None, Some, length, replicate, slice_get}
use Rattle.ir_flags.specs.Bits.{READ, QUERY, NO_USE}
use Rattle.ir_flags.specs.declared.valid.GlobalUse.{GlobalUse}
use Rattle.ir_facts.specs.declared.valid.info.ModuleInfo.{ModuleInfo}
use Rattle.ir_module.specs.declared.expressions.Expression.{Expression}
use Rattle.ir_module.specs.declared.expressions.Expression.TheVariants as e
use Rattle.ir_module.specs.declared.functions.Function.{Function}
use Rattle.ir_module.specs.declared.module.Module.{Module}
use Rattle.ir_statements.specs.View.{no_operands, body_of}
use Rattle.layer_uses.specs.Joins.{with_use}
use Rattle.layer_uses.specs.GlobalRoots.{root_at, roots_from}
use Rattle.layer_uses.specs.Walk.{body_uses}

abbrev pub used_operand : List (Option ℕ) → List GlobalUse → Option ℕ → GlobalUse → List GlobalUse
used_operand roots uses None more = uses
used_operand roots uses (Some h) more = with_use uses (root_at roots h) more

-- the operand at a place, if there is one
abbrev pub operand_use : List (Option ℕ) → List GlobalUse → List ℕ → ℕ → GlobalUse → List GlobalUse
operand_use roots uses hs place more = used_operand roots uses (slice_get hs place) more

-- a load reads what it points to, a sample its image and sampler, a load of an image the image; queries ask
abbrev pub expression_uses : List (Option ℕ) → List GlobalUse → Expression → List GlobalUse
expression_uses roots uses (e.Load pointer) = with_use uses (root_at roots pointer) READ
expression_uses roots uses (e.ImageSample d hs) = operand_use roots (operand_use roots uses hs 0 READ) hs 1 READ
expression_uses roots uses (e.ImageLoad d hs) = operand_use roots uses hs 0 READ
expression_uses roots uses (e.CooperativeLoad d hs) = operand_use roots uses hs 0 READ
expression_uses roots uses (e.ImageQuery d hs) = operand_use roots uses hs 0 QUERY
expression_uses roots uses (e.ArrayLength d hs) = operand_use roots uses hs 0 QUERY
expression_uses roots uses (e.Literal l) = uses
expression_uses roots uses (e.Constant h) = uses
expression_uses roots uses (e.Override h) = uses
expression_uses roots uses (e.ZeroValue t) = uses
expression_uses roots uses (e.Compose t hs) = uses
expression_uses roots uses (e.Access base index) = uses
expression_uses roots uses (e.AccessIndex base k) = uses
expression_uses roots uses (e.FunctionArgument n) = uses
expression_uses roots uses (e.GlobalVariable h) = uses
expression_uses roots uses (e.LocalVariable h) = uses
expression_uses roots uses (e.CallResult f) = uses
expression_uses roots uses (e.AtomicResult t c) = uses
expression_uses roots uses (e.WorkGroupUniformLoadResult t) = uses
expression_uses roots uses e.RayQueryProceedResult = uses
expression_uses roots uses e.SubgroupBallotResult = uses
expression_uses roots uses (e.SubgroupOperationResult t) = uses
expression_uses roots uses (e.Splat d hs) = uses
expression_uses roots uses (e.Swizzle d hs) = uses
expression_uses roots uses (e.Unary d hs) = uses
expression_uses roots uses (e.Binary d hs) = uses
expression_uses roots uses (e.Select d hs) = uses
expression_uses roots uses (e.Derivative d hs) = uses
expression_uses roots uses (e.Relational d hs) = uses
expression_uses roots uses (e.Math d hs) = uses
expression_uses roots uses (e.As d hs) = uses
expression_uses roots uses (e.RayQueryGetIntersection d hs) = uses
expression_uses roots uses (e.RayQueryVertexPositions d hs) = uses
expression_uses roots uses (e.CooperativeMultiplyAdd d hs) = uses

unfoldable pub all_expression_uses : List (Option ℕ) → List GlobalUse → List Expression → List GlobalUse
all_expression_uses roots uses [] = uses
all_expression_uses roots uses (x ∷ rest) = all_expression_uses roots (expression_uses roots uses x) rest

-- one use for each global: what the expressions do with it, all of them, and then the statements
abbrev pub uses_of : Module → Function → ModuleInfo → List GlobalUse
uses_of m f infos =
    let roots = roots_from [] f.expressions in
    body_uses m.global_variables infos roots
    (all_expression_uses roots (replicate (length m.global_variables) NO_USE) f.expressions) (body_of no_operands f.body)
