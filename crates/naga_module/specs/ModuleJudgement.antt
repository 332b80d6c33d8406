-- The judgement of a whole module: the tests of what it and the infos name; its globals; its functions in order, each with the
-- infos of those before it; the sizes of task payloads; its entry points in order, each with all infos so far. What ray traces
-- leave goes from each to the next. It is given as what an answer has to be, since a test is a proposition.
use Rattle.std.specs.Prelude.{◌≡◌, ◌⊎◌, ℕ, false, List, [], ◌∷◌, ◌++◌, Result, Ok, Err, length}
use Rattle.ir_facts.specs.Fits.{FitsTypes, FitsGlobals, FitsFunction, FitsEntry}
use Rattle.ir_arena.specs.Points.{Point, first_fault, answer, within, points_of_each}
use Rattle.ir_module.specs.declared.functions.Function.{Function}
use Rattle.ir_module.specs.declared.module.EntryPoint.{EntryPoint}
use Rattle.ir_module.specs.declared.module.GlobalVariable.{GlobalVariable}
use Rattle.ir_module.specs.declared.module.Module.{Module}
use Rattle.ir_types.specs.declared.typifier.TypeResolution.{TypeResolution}
use Rattle.ir_facts.specs.declared.valid.info.FunctionInfo.{FunctionInfo}
use Rattle.ir_facts.specs.declared.valid.info.ModuleInfo.{ModuleInfo}
use Rattle.ir_facts.specs.declared.valid.settings.Settings.{Settings}
use Rattle.ir_types.specs.declared.type_info.TypeInfo.{TypeInfo}
use Rattle.ir_facts.specs.Meaning.{Meaning}
use Rattle.check_entry.specs.EntryFaults.{EntryFault, fault_of}
use Rattle.check_entry.specs.InterfacePoints.{HasPayloadSizes}
use Rattle.check_laws.specs.EntryJudgement.{entry_judgement}
use Rattle.check_entry.specs.GlobalPoints.{module_global_points}
use Rattle.check_laws.specs.InOrder.{with_info}
use Rattle.check_statement.specs.FunctionJudgement.{function_judgement}
use Rattle.check_entry.specs.GivenInfos.{AreInfosOf}
use Rattle.check_statement.specs.ValidatorParts.{no_traces}
use Rattle.check_scope.specs.declared.trace.TraceState.{TraceState}
use Rattle.check_faults.specs.declared.module.ModuleFault.{ModuleFault}
use Rattle.check_faults.specs.declared.module.ModuleFault.TheVariants as fault

-- an answer about a module: its infos, or the first fault
abbrev pub ModuleAnswer : Type 0
ModuleAnswer = Result ModuleInfo ModuleFault

-- a test: where it holds the next step decides; elsewhere the module doesn't fit
abbrev pub Tested : Type 0 → (ModuleAnswer → Type 0) → ModuleAnswer → Type 0
Tested Holds Next r = (Holds × Next r) ⊎ ((Holds → ⊥) × (r ≡ Err fault.NotFit))

-- a judgement: its fault, as this makes it one of the module; else the next step decides, with what was found
abbrev pub AnswersStep : {A E : Type 0} → Result A E → (E → ModuleFault → Type 0) → (A → ModuleAnswer → Type 0) →
    ModuleAnswer → Type 0
AnswersStep (Ok x) Makes Next r = Next x r
AnswersStep (Err e) Makes Next (Ok infos) = ⊥
AnswersStep (Err e) Makes Next (Err told) = Makes e told

-- the infos of a module with that of one entry point more
abbrev pub with_entry : ModuleInfo → FunctionInfo → ModuleInfo
with_entry infos info = record infos { entry_points = infos.entry_points ++ info ∷ [] }

-- no function and no entry point is judged yet; these are the types of the module's global expressions
abbrev pub first_infos : List TypeResolution → ModuleInfo
first_infos global_types = record { functions = []; entry_points = []; global_types = global_types }

-- the fault of the function with this handle, and that of the entry point with this index
abbrev pub IsOfFunction : {E : Type 0} → (E → ModuleFault) → E → ModuleFault → Type 0
IsOfFunction make e told = told ≡ make e

abbrev pub IsOfEntryPoint : ℕ → EntryFault → ModuleFault → Type 0
IsOfEntryPoint index e (fault.EntryPoint k error) = (k ≡ index) × (fault_of error ≡ e)
IsOfEntryPoint index e fault.NotFit = ⊥
IsOfEntryPoint index e (fault.Global h error) = ⊥
IsOfEntryPoint index e (fault.Function h error) = ⊥
IsOfEntryPoint index e fault.Memory = ⊥

-- of a lower layer that means this, under these settings, where these are the infos of the module's types
module _ (below : Meaning) (settings : Settings) (types : List TypeInfo) (m : Module) where
  -- the points of a global
  abbrev pub points_of_global : ModuleInfo → ℕ → GlobalVariable → List (Point ModuleFault)
  points_of_global infos k g =
      within (fault.Global k) (module_global_points below settings types m infos (below.kinds_of m.global_expressions) g)

  -- the step of the globals
  abbrev pub globals_step : ModuleInfo → Result Unit ModuleFault
  globals_step infos = answer (first_fault (points_of_each (points_of_global infos) m.global_variables)) tt

  -- the entry points from here on, after these infos and what ray traces left
  unfoldable pub EntriesAnswer : TraceState → ModuleInfo → List EntryPoint → ModuleAnswer → Type 0
  EntriesAnswer trace infos [] r = r ≡ Ok infos
  EntriesAnswer trace infos (p ∷ ps) r =
      Tested (FitsFunction p.function m (length infos.functions) × FitsEntry p m)
      (AnswersStep (entry_judgement below settings types trace m infos p) (IsOfEntryPoint (length infos.entry_points))
      (λ left. EntriesAnswer left.trace (with_entry infos left.info) ps)) r

  -- after the functions: the sizes of task payloads, then the entry points
  abbrev pub BehindFunctions : TraceState → ModuleInfo → ModuleAnswer → Type 0
  BehindFunctions trace infos r = Tested (HasPayloadSizes below m) (EntriesAnswer trace infos m.entry_points) r

  -- the functions from here on, and what is after them
  unfoldable pub FunctionsAnswer : TraceState → ModuleInfo → List Function → ModuleAnswer → Type 0
  FunctionsAnswer trace infos [] r = BehindFunctions trace infos r
  FunctionsAnswer trace infos (f ∷ fs) r =
      Tested (FitsFunction f m (length infos.functions))
      (AnswersStep (function_judgement below settings types trace m infos f false)
      (IsOfFunction (fault.Function (length infos.functions)))
      (λ left. FunctionsAnswer left.trace (with_info infos left.info) fs)) r

  -- after the tests: the globals, then the functions
  abbrev pub BehindTests : TraceState → ModuleInfo → ModuleAnswer → Type 0
  BehindTests trace infos r =
      AnswersStep (globals_step infos) (IsOfFunction (λ e. e)) (λ done. FunctionsAnswer trace infos m.functions) r

  -- what is asked before anything is judged
  pub record Fits (global_types : List TypeResolution) : Type 0 where
    pub infos : AreInfosOf m types
    pub types_fit : FitsTypes m
    pub globals : FitsGlobals m (first_infos global_types)

  -- the answer about a module, where these are the types of its global expressions
  abbrev pub IsJudgement : List TypeResolution → ModuleAnswer → Type 0
  IsJudgement global_types r = Tested (Fits global_types) (BehindTests no_traces (first_infos global_types)) r

  -- the answer is the judgement, or there was no memory
  abbrev pub IsJudgementOrMemory : List TypeResolution → ModuleAnswer → Type 0
  IsJudgementOrMemory global_types r = (r ≡ Err fault.Memory) ⊎ IsJudgement global_types r
