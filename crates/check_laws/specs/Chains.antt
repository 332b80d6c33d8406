-- Chains of calls: the functions that a body reaches, what it is that the infos of functions are what the judgement made of
-- them, and what then holds of a stage that an accepted function may run in.
use Rattle.std.specs.List.{AllByRecursion}
use Rattle.std.specs.Prelude.{ℕ, ◌≡◌, ◌<◌, ◌≤◌, Bool, true, false, List, [], Some, Ok, Contains, length, slice_get, take}
use Rattle.ir_facts.specs.Fits.{FitsFunction}
use Rattle.ir_statements.specs.Tree.{Body}
use Rattle.ir_module.specs.declared.functions.Function.{Function}
use Rattle.ir_module.specs.declared.module.Module.{Module}
use Rattle.ir_flags.specs.declared.valid.ShaderStages.{ShaderStages}
use Rattle.ir_facts.specs.declared.valid.info.FunctionInfo.{FunctionInfo}
use Rattle.ir_facts.specs.declared.valid.info.ModuleInfo.{ModuleInfo}
use Rattle.ir_facts.specs.declared.valid.settings.Settings.{Settings}
use Rattle.ir_types.specs.declared.type_info.TypeInfo.{TypeInfo}
use Rattle.ir_facts.specs.Meaning.{Meaning}
use Rattle.check_laws.specs.Accepted.{nodes_of, AreAmong, AreOfStatement}
use Rattle.check_scope.specs.BodyTrees.{body_of}
use Rattle.check_statement.specs.ExpressionStages.{expression_masks}
use Rattle.check_laws.specs.InOrder.{called_by, with_info}
use Rattle.check_statement.specs.FunctionJudgement.{FunctionOutcome, context_with, function_judgement}
use Rattle.check_statement.specs.ValidatorParts.{no_traces}
use Rattle.ir_facts.specs.WhatIsChecked.{checks_blocks, checks_expressions}
use Rattle.check_scope.specs.declared.trace.TraceState.{TraceState}

-- The functions of a module that a body reaches: those that its Calls name, at any depth, and those that their bodies reach.
pub data Reaches (m : Module) : Body → ℕ → Type 0 where
  Calls : {b : Body} {f : ℕ} → Contains (called_by b) f → Reaches m b f
  Through : {b : Body} {f : ℕ} (g : ℕ) (between : Function) →
      Contains (called_by b) g → slice_get m.functions g ≡ Some between → Reaches m (body_of between) f → Reaches m b f

-- all functions that a body calls have an index below k
abbrev pub CallsBelow : ℕ → Body → Type 0
CallsBelow k b = (f : ℕ) → Contains (called_by b) f → f < k

-- the infos of the functions below k alone, as they were known when function k was judged
abbrev pub infos_below : ℕ → ModuleInfo → ModuleInfo
infos_below k infos = record infos { functions = take k infos.functions; entry_points = [] }

-- of a lower layer that means this, under these settings, where these are the infos of the module's types
module _ (below : Meaning) (settings : Settings) (types : List TypeInfo) (m : Module) where
  -- The info of function k is vetted: the function calls functions below k alone, and the info is what the judgement made of
  -- it, not as an entry point's, with the infos below k, whatever ray traces had left.
  pub record IsVettedInfo (infos : ModuleInfo) (k : ℕ) (fun : Function) (info : FunctionInfo) : Type 0 where
    pub calls : CallsBelow k (body_of fun)
    pub trace : TraceState
    pub left : TraceState
    pub judged : function_judgement below settings types trace m (infos_below k infos) fun false
        ≡ Ok (record { info = info; trace = left })

  -- A module's infos are vetted: there are no more than functions, and each is vetted.
  pub record AreVetted (infos : ModuleInfo) : Type 0 where
    pub few : length infos.functions ≤ length m.functions
    pub each : (k : ℕ) (fun : Function) (info : FunctionInfo) →
        slice_get m.functions k ≡ Some fun → slice_get infos.functions k ≡ Some info → IsVettedInfo infos k fun info

  -- the masks of a function's expressions, as the lower layer gives them one by one, where this is what it knows of the
  -- function and these are the infos of the functions before it
  abbrev pub masks_of : ModuleInfo → Function → FunctionInfo → List ShaderStages
  masks_of earlier fun info = expression_masks below (context_with below settings types no_traces m earlier fun false info)

  -- a function keeps to stages: they are stages of each statement of its body at any depth, where a Call has those that are
  -- recorded of its callee; and, where expressions are checked, of each of its expressions, of which none is without a mask
  pub record KeepsTo (infos earlier : ModuleInfo) (fun : Function) (stages : ShaderStages) : Type 0 where
    pub statements : AllByRecursion (AreOfStatement settings.subgroup_stages infos stages) (nodes_of (body_of fun))
    pub expressions : (info : FunctionInfo) →
        below.function_info fun m earlier settings.flags settings.capabilities ≡ Ok info →
        AllByRecursion (AreAmong stages) (masks_of earlier fun info)
    pub every : (info : FunctionInfo) →
        below.function_info fun m earlier settings.flags settings.capabilities ≡ Ok info →
        checks_expressions settings.flags ≡ true → length (masks_of earlier fun info) ≡ length fun.expressions

  -- so do a function and each that its body reaches
  pub record ChainsKeepTo (infos : ModuleInfo) (fun : Function) (stages : ShaderStages) : Type 0 where
    pub own : KeepsTo infos infos fun stages
    pub reached : (f : ℕ) (callee : Function) → Reaches m (body_of fun) f → slice_get m.functions f ≡ Some callee →
        KeepsTo infos (infos_below f infos) callee stages

-- Where bodies are checked, a function that the judgement accepts with vetted infos, and whose calls name only functions that
-- have infos, keeps to each of its stages through all chains of calls.
abbrev pub ChainsAreKept : Type 0
ChainsAreKept =
    (below : Meaning) (settings : Settings) (types : List TypeInfo) (trace : TraceState) (m : Module) (infos : ModuleInfo) →
    (fun : Function) (entry_point : Bool) (outcome : FunctionOutcome) (stages : ShaderStages) →
    function_judgement below settings types trace m infos fun entry_point ≡ Ok outcome → checks_blocks settings.flags ≡ true →
    AreVetted below settings types m infos → CallsBelow (length infos.functions) (body_of fun) →
    AreAmong stages outcome.info.available_stages → ChainsKeepTo below settings types m infos fun stages

-- Where no function has an info yet, all are vetted.
abbrev pub NoneIsVetted : Type 0
NoneIsVetted =
    (below : Meaning) (settings : Settings) (types : List TypeInfo) (m : Module) (infos : ModuleInfo) →
    infos.functions ≡ [] → AreVetted below settings types m infos

-- Vetted infos stay so after the info of the next function of the module, where it fits and the judgement made the info.
abbrev pub OneMoreIsVetted : Type 0
OneMoreIsVetted =
    (below : Meaning) (settings : Settings) (types : List TypeInfo) (trace : TraceState) (m : Module) (infos : ModuleInfo) →
    (fun : Function) (left : FunctionOutcome) →
    AreVetted below settings types m infos → infos.entry_points ≡ [] →
    slice_get m.functions (length infos.functions) ≡ Some fun →
    FitsFunction fun m (length infos.functions) → function_judgement below settings types trace m infos fun false ≡ Ok left →
    AreVetted below settings types m (with_info infos left.info)

-- A function that fits calls functions before it alone.
abbrev pub CallsOfFittingAreBelow : Type 0
CallsOfFittingAreBelow = (fun : Function) (m : Module) (k : ℕ) → FitsFunction fun m k → CallsBelow k (body_of fun)
