-- There is one use for each global, whatever is joined in: lemmas, which the law of a lower layer rests on.
use Rattle.std.specs.Prelude.{ℕ, ◌≡◌, ◌+◌, List, [], ◌∷◌, Option, None, Some, length, replicate, slice_get}
use Rattle.std.proofs.Common.{refl, ◌∙◌}
use Rattle.std.proofs.lemmas.List.{length-set, length-replicate}
use Rattle.ir_flags.specs.Bits.{READ, WRITE, QUERY, ATOMIC_USE, NO_USE}
use Rattle.ir_flags.specs.declared.valid.GlobalUse.{GlobalUse}
use Rattle.ir_facts.specs.declared.valid.info.FunctionInfo.{FunctionInfo}
use Rattle.ir_facts.specs.declared.valid.info.ModuleInfo.{ModuleInfo}
use Rattle.ir_statements.specs.View.{no_operands, body_of}
use Rattle.ir_module.specs.declared.expressions.Expression.{Expression}
use Rattle.ir_module.specs.declared.expressions.Expression.TheVariants as e
use Rattle.ir_module.specs.declared.functions.Function.{Function}
use Rattle.ir_module.specs.declared.module.GlobalVariable.{GlobalVariable}
use Rattle.ir_module.specs.declared.module.Module.{Module}
use Rattle.ir_statements.specs.declared.operations.RayPipelineFunction.{RayPipelineFunction}
use Rattle.ir_statements.specs.declared.operations.RayPipelineFunction.TheVariants.{TraceRay}
use Rattle.ir_statements.specs.declared.operations.RayQueryFunction.{RayQueryFunction}
use Rattle.ir_statements.specs.declared.operations.RayQueryFunction.TheVariants as query
use Rattle.ir_statements.specs.declared.statements.Statement.{Statement}
use Rattle.ir_statements.specs.declared.statements.Statement.TheVariants as s
use Rattle.ir_statements.specs.Tree.{Stmt, Leaf, Block, Branch, Switch, Loop, Body, Done, Then, Cases, NoCase, OneCase}
use Rattle.layer_uses.specs.Joins.{with_use, joined_at, joined_from}
use Rattle.layer_uses.specs.GlobalRoots.{root_at, roots_from}
use Rattle.layer_uses.specs.Walk.{BOTH, call_use, argument_uses, callee_uses, query_uses, pipeline_uses, leaf_uses, statement_uses, body_uses, cases_uses}
use Rattle.layer_uses.specs.Uses.{used_operand, operand_use, expression_uses, all_expression_uses, uses_of}

with_use-length : (uses : List GlobalUse) (root : Option ℕ) (more : GlobalUse) → length (with_use uses root more) ≡ length uses
with_use-length uses None more = refl
with_use-length uses (Some g) more = length-set uses g _

joined_from-length : (place : ℕ) (uses more : List GlobalUse) → length (joined_from place uses more) ≡ length uses
unfolding joined_from
joined_from-length place uses [] = refl
joined_from-length place uses (u ∷ rest) = joined_from-length (place + 1) (joined_at uses place u) rest ∙ length-set uses place _

argument_uses-length : (globals : List GlobalVariable) (roots : List (Option ℕ)) (uses : List GlobalUse) (hs : List ℕ)
    → length (argument_uses globals roots uses hs) ≡ length uses
unfolding argument_uses
argument_uses-length globals roots uses [] = refl
argument_uses-length globals roots uses (h ∷ hs) =
    argument_uses-length globals roots (with_use uses (root_at roots h) (call_use globals (root_at roots h))) hs
    ∙ with_use-length uses (root_at roots h) (call_use globals (root_at roots h))

callee_uses-length : (uses : List GlobalUse) (info : Option FunctionInfo) → length (callee_uses uses info) ≡ length uses
callee_uses-length uses None = refl
callee_uses-length uses (Some info) = joined_from-length 0 uses info.global_uses

query_uses-length : (roots : List (Option ℕ)) (uses : List GlobalUse) (fun : RayQueryFunction)
    → length (query_uses roots uses fun) ≡ length uses
query_uses-length roots uses (query.Initialize structure descriptor) = with_use-length uses (root_at roots structure) READ
query_uses-length roots uses _ = refl

pipeline_uses-length : (roots : List (Option ℕ)) (uses : List GlobalUse) (fun : RayPipelineFunction)
    → length (pipeline_uses roots uses fun) ≡ length uses
pipeline_uses-length roots uses (TraceRay structure descriptor payload) =
    with_use-length (with_use uses (root_at roots structure) READ) (root_at roots payload) BOTH
    ∙ with_use-length uses (root_at roots structure) READ

module _ (globals : List GlobalVariable) (infos : ModuleInfo) (roots : List (Option ℕ)) where
  leaf_uses-length : (uses : List GlobalUse) (x : Statement) → length (leaf_uses globals infos roots uses x) ≡ length uses
  leaf_uses-length uses (s.Store pointer value) = with_use-length uses (root_at roots pointer) WRITE
  leaf_uses-length uses (s.ImageStore image coordinate index value) = with_use-length uses (root_at roots image) WRITE
  leaf_uses-length uses (s.Atomic pointer fun value result) = with_use-length uses (root_at roots pointer) BOTH
  leaf_uses-length uses (s.ImageAtomic image coordinate index fun value) = with_use-length uses (root_at roots image) ATOMIC_USE
  leaf_uses-length uses (s.WorkGroupUniformLoad pointer result) = with_use-length uses (root_at roots pointer) READ
  leaf_uses-length uses (s.Call f arguments result) =
      argument_uses-length globals roots (callee_uses uses (slice_get infos.functions f)) arguments
      ∙ callee_uses-length uses (slice_get infos.functions f)
  leaf_uses-length uses (s.RayQuery q fun) = query_uses-length roots uses fun
  leaf_uses-length uses (s.CooperativeStore target source) = with_use-length uses (root_at roots source.pointer) WRITE
  leaf_uses-length uses (s.RayPipelineFunction fun) = pipeline_uses-length roots uses fun
  leaf_uses-length uses _ = refl

  mutual
    statement_uses-length : (uses : List GlobalUse) (x : Stmt) → length (statement_uses globals infos roots uses x) ≡ length uses
    statement_uses-length uses (Leaf acts x span) = leaf_uses-length uses x
    statement_uses-length uses (Block b) = body_uses-length uses b
    statement_uses-length uses (Branch c a r) =
        body_uses-length (body_uses globals infos roots uses a) r ∙ body_uses-length uses a
    statement_uses-length uses (Switch h cs) = cases_uses-length uses cs
    statement_uses-length uses (Loop b c q) =
        body_uses-length (body_uses globals infos roots uses b) c ∙ body_uses-length uses b
    statement_uses-length uses _ = refl

    body_uses-length : (uses : List GlobalUse) (b : Body) → length (body_uses globals infos roots uses b) ≡ length uses
    body_uses-length uses Done = refl
    body_uses-length uses (Then first rest) =
        body_uses-length (statement_uses globals infos roots uses first) rest ∙ statement_uses-length uses first

    cases_uses-length : (uses : List GlobalUse) (cs : Cases) → length (cases_uses globals infos roots uses cs) ≡ length uses
    cases_uses-length uses NoCase = refl
    cases_uses-length uses (OneCase v falls b rest) =
        cases_uses-length (body_uses globals infos roots uses b) rest ∙ body_uses-length uses b

used_operand-length : (roots : List (Option ℕ)) (uses : List GlobalUse) (h : Option ℕ) (more : GlobalUse)
    → length (used_operand roots uses h more) ≡ length uses
used_operand-length roots uses None more = refl
used_operand-length roots uses (Some h) more = with_use-length uses (root_at roots h) more

expression_uses-length : (roots : List (Option ℕ)) (uses : List GlobalUse) (x : Expression)
    → length (expression_uses roots uses x) ≡ length uses
expression_uses-length roots uses (e.Load pointer) = with_use-length uses (root_at roots pointer) READ
expression_uses-length roots uses (e.ImageSample d hs) =
    used_operand-length roots (operand_use roots uses hs 0 READ) (slice_get hs 1) READ
    ∙ used_operand-length roots uses (slice_get hs 0) READ
expression_uses-length roots uses (e.ImageLoad d hs) = used_operand-length roots uses (slice_get hs 0) READ
expression_uses-length roots uses (e.CooperativeLoad d hs) = used_operand-length roots uses (slice_get hs 0) READ
expression_uses-length roots uses (e.ImageQuery d hs) = used_operand-length roots uses (slice_get hs 0) QUERY
expression_uses-length roots uses (e.ArrayLength d hs) = used_operand-length roots uses (slice_get hs 0) QUERY
expression_uses-length roots uses _ = refl

all_expression_uses-length : (roots : List (Option ℕ)) (uses : List GlobalUse) (xs : List Expression)
    → length (all_expression_uses roots uses xs) ≡ length uses
unfolding all_expression_uses
all_expression_uses-length roots uses [] = refl
all_expression_uses-length roots uses (x ∷ rest) =
    all_expression_uses-length roots (expression_uses roots uses x) rest ∙ expression_uses-length roots uses x

-- one use for each global
pub uses_of-length : (m : Module) (f : Function) (infos : ModuleInfo) → length (uses_of m f infos) ≡ length m.global_variables
uses_of-length m f infos =
    let roots = roots_from [] f.expressions in
    let none = replicate (length m.global_variables) NO_USE in
    body_uses-length m.global_variables infos roots (all_expression_uses roots none f.expressions) (body_of no_operands f.body)
    ∙ all_expression_uses-length roots none f.expressions
    ∙ length-replicate (length m.global_variables) NO_USE
