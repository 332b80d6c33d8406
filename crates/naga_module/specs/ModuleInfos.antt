-- The infos of a module that was accepted: each is what its own judgement made of it, with the infos before it.
use Rattle.std.specs.Prelude.{◌≡◌, ℕ, List, Some, Ok, length, slice_get, take}
use Rattle.ir_facts.specs.Fits.{FitsFunction, FitsEntry}
use Rattle.ir_module.specs.declared.functions.Function.{Function}
use Rattle.ir_module.specs.declared.module.EntryPoint.{EntryPoint}
use Rattle.ir_module.specs.declared.module.Module.{Module}
use Rattle.ir_leaves.specs.declared.stage.ShaderStage.TheVariants.{Vertex}
use Rattle.ir_facts.specs.declared.valid.info.FunctionInfo.{FunctionInfo}
use Rattle.ir_facts.specs.declared.valid.info.ModuleInfo.{ModuleInfo}
use Rattle.ir_facts.specs.declared.valid.settings.Settings.{Settings}
use Rattle.ir_types.specs.declared.type_info.TypeInfo.{TypeInfo}
use Rattle.ir_facts.specs.Meaning.{Meaning}
use Rattle.check_laws.specs.Chains.{IsVettedInfo, AreVetted}
use Rattle.check_laws.specs.EntryJudgement.{entry_judgement}
use Rattle.check_scope.specs.declared.trace.TraceState.{TraceState}
use Rattle.check_laws.specs.EntryFacts.{argument_parts, BuiltInsAreDistinct, ReturnsPosition}

-- the infos of a module as they were before entry point k was judged
abbrev pub infos_before : ℕ → ModuleInfo → ModuleInfo
infos_before k infos = record infos { entry_points = take k infos.entry_points }

-- something holds of each function of a module, by its handle and its info
abbrev pub OfFunctions : Module → ModuleInfo → (ℕ → Function → FunctionInfo → Type 0) → Type 0
OfFunctions m infos Holds =
    (k : ℕ) (f : Function) (info : FunctionInfo) →
    slice_get m.functions k ≡ Some f → slice_get infos.functions k ≡ Some info → Holds k f info

-- and of each entry point, by its index and its info
abbrev pub OfEntryPoints : Module → ModuleInfo → (ℕ → EntryPoint → FunctionInfo → Type 0) → Type 0
OfEntryPoints m infos Holds =
    (k : ℕ) (p : EntryPoint) (info : FunctionInfo) →
    slice_get m.entry_points k ≡ Some p → slice_get infos.entry_points k ≡ Some info → Holds k p info

-- of a lower layer that means this, under these settings, where these are the infos of the module's types
module _ (below : Meaning) (settings : Settings) (types : List TypeInfo) (m : Module) where
  -- The info of entry point k is judged: what the entry point names is there, and the info is what the judgement made of it,
  -- with the infos of all functions and of the entry points before it, whatever ray traces had left.
  pub record IsJudgedEntry (infos : ModuleInfo) (k : ℕ) (p : EntryPoint) (info : FunctionInfo) : Type 0 where
    pub function_fits : FitsFunction p.function m (length infos.functions)
    pub fits : FitsEntry p m
    pub trace : TraceState
    pub left : TraceState
    pub judged : entry_judgement below settings types trace m (infos_before k infos) p
        ≡ Ok (record { info = info; trace = left })

  -- Of a module that was accepted with these infos, under any flags: there is one info for each function and each entry point;
  -- each is what its own judgement made of it, with the infos before it; so the infos are vetted, at the end and before each
  -- entry point; no two parts of an entry point's arguments are one built-in; and one for vertices returns a position.
  pub record ModuleIsJudged (infos : ModuleInfo) : Type 0 where
    pub function_infos : length infos.functions ≡ length m.functions
    pub entry_infos : length infos.entry_points ≡ length m.entry_points
    pub functions : OfFunctions m infos (IsVettedInfo below settings types m infos)
    pub entry_points : OfEntryPoints m infos (IsJudgedEntry infos)
    pub vetted : AreVetted below settings types m infos
    pub vetted_before : (k : ℕ) → AreVetted below settings types m (infos_before k infos)
    pub built_ins : (k : ℕ) (p : EntryPoint) → slice_get m.entry_points k ≡ Some p →
        BuiltInsAreDistinct (argument_parts settings m.types types p)
    pub position : (k : ℕ) (p : EntryPoint) → slice_get m.entry_points k ≡ Some p → p.stage ≡ Vertex →
        ReturnsPosition m.types p.function.result
