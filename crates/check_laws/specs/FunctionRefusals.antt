-- What is known of each function whose body the judgement refuses for a use or for a jump: the run that breaks.
use Rattle.std.specs.Prelude.{◌≡◌, ℕ, Bool, true, List, Result, Ok, Err, Contains}
use Rattle.ir_module.specs.declared.functions.Function.{Function}
use Rattle.ir_module.specs.declared.module.Module.{Module}
use Rattle.ir_arena.specs.Points.{and_then}
use Rattle.ir_errors.specs.declared.expression.ExpressionError.TheVariants.{NotInScope}
use Rattle.ir_facts.specs.declared.valid.info.FunctionInfo.{FunctionInfo}
use Rattle.ir_facts.specs.declared.valid.info.ModuleInfo.{ModuleInfo}
use Rattle.ir_facts.specs.declared.valid.settings.Settings.{Settings}
use Rattle.ir_types.specs.declared.type_info.TypeInfo.{TypeInfo}
use Rattle.ir_facts.specs.Meaning.{Meaning}
use Rattle.ir_facts.specs.WhatIsChecked.{checks_blocks}
use Rattle.ir_errors.specs.declared.function.CallError.TheVariants.{Argument}
use Rattle.ir_errors.specs.declared.function.FunctionError.{FunctionError}
use Rattle.ir_errors.specs.declared.function.FunctionError.TheVariants.{Expression, InvalidCall, BreakOutsideOfLoopOrSwitch, ContinueOutsideOfLoop, InvalidReturnSpot}
use Rattle.naga_runs.specs.ComesTo.{HasNoDeadCode}
use Rattle.naga_runs.specs.Abilities.{node_jump}
use Rattle.naga_runs.specs.Positions.{Position, node_at}
use Rattle.naga_runs.specs.Soundness.{HasAbility}
use Rattle.naga_runs.specs.VisitOrder.{positions}
use Rattle.naga_runs.specs.Witnesses.{UsesDead, HasStuckRun}
use Rattle.check_scope.specs.BodyTrees.{body_of}
use Rattle.check_scope.specs.Context.{pre_emitted_of}
use Rattle.check_scope.specs.declared.trace.TraceState.{TraceState}
use Rattle.check_statement.specs.FunctionJudgement.{context_with, lower_step, declarations_step, expressions_known, function_judgement}

-- the steps of the judgement before the body: what the lower layer answers, the declarations, the expressions
abbrev pub steps_before_body : Meaning → Settings → List TypeInfo → TraceState → Module → ModuleInfo → Function → Bool →
    Result FunctionInfo FunctionError
steps_before_body below settings infos trace program earlier fun entry_point =
    and_then (lower_step below settings infos trace program earlier fun entry_point) (λ info.
    and_then (declarations_step infos entry_point
    (context_with below settings infos trace program earlier fun entry_point info)) (λ info.
    expressions_known below (context_with below settings infos trace program earlier fun entry_point info)))

-- something holds of every function that the judgement refuses for a fault, where bodies are checked, the steps before
-- the body pass, and the body has no dead code
abbrev pub OfRefusedBody : FunctionError → (Function → Type 0) → Type 0
OfRefusedBody fault Holds =
    (below : Meaning) (settings : Settings) (infos : List TypeInfo) (trace : TraceState) (program : Module)
    (earlier : ModuleInfo) (fun : Function) (entry_point : Bool) (info : FunctionInfo) →
    steps_before_body below settings infos trace program earlier fun entry_point ≡ Ok info →
    function_judgement below settings infos trace program earlier fun entry_point ≡ Err fault →
    checks_blocks settings.flags ≡ true →
    HasNoDeadCode (body_of fun) →
    Holds fun

-- some run of its body records a use of this handle, which isn't live
abbrev pub UsesDeadIn : ℕ → Function → Type 0
UsesDeadIn h fun = UsesDead (pre_emitted_of fun) (body_of fun) h

-- of some handle
pub record UsesSomeDeadIn (fun : Function) : Type 0 where
  pub handle : ℕ
  pub is : UsesDeadIn handle fun

-- some run of its body is stuck by what stands at some position, a jump without its ability
pub record IsStuckIn (fun : Function) : Type 0 where
  pub position : Position
  pub listed : Contains (positions (body_of fun)) position
  pub lacks : HasAbility (node_jump (node_at (body_of fun) position)) position → ⊥
  pub is : HasStuckRun (pre_emitted_of fun) (body_of fun) position

-- A body that is refused for a use, of an expression or of an argument of a Call, has a run that uses it while it isn't
-- live.
pub record RefusedUseIsWitnessed : Type 0 where
  pub expression : (h : ℕ) → OfRefusedBody (Expression h NotInScope) (UsesDeadIn h)
  pub argument : (f index : ℕ) → OfRefusedBody (InvalidCall f (Argument index NotInScope)) UsesSomeDeadIn

-- A body that is refused for a jump has a run that is stuck by it.
pub record RefusedJumpIsStuck : Type 0 where
  pub break : OfRefusedBody BreakOutsideOfLoopOrSwitch IsStuckIn
  pub continue : OfRefusedBody ContinueOutsideOfLoop IsStuckIn
  pub return : OfRefusedBody InvalidReturnSpot IsStuckIn
