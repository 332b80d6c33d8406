-- The judgement of an entry point: a chain of steps, of which that of its function is one.
use Rattle.std.specs.Prelude.{◌≡◌, true, List, Result, Ok, Err, None}
use Rattle.ir_arena.specs.Points.{Point, first_fault, answer, and_then, within}
use Rattle.ir_module.specs.declared.module.EntryPoint.{EntryPoint}
use Rattle.ir_module.specs.declared.module.Module.{Module}
use Rattle.ir_arena.specs.declared.span.Refusal.{Refusal}
use Rattle.ir_arena.specs.declared.span.Refusal.TheVariants.{Fault, Memory}
use Rattle.ir_facts.specs.declared.valid.info.ModuleInfo.{ModuleInfo}
use Rattle.ir_facts.specs.declared.valid.settings.Settings.{Settings}
use Rattle.ir_types.specs.declared.type_info.TypeInfo.{TypeInfo}
use Rattle.ir_facts.specs.Meaning.{Meaning}
use Rattle.ir_errors.specs.declared.function.FunctionError.{FunctionError}
use Rattle.check_entry.specs.EntryFaults.{EntryFault, Other, fault_of}
use Rattle.check_entry.specs.EntryUses.{with_own_uses}
use Rattle.check_entry.specs.EntryVaryings.{with_blending}
use Rattle.check_entry.specs.InterfacePoints.{interface_points}
use Rattle.check_entry.specs.Start.{start_points}
use Rattle.check_statement.specs.FunctionJudgement.{FunctionOutcome, function_judgement}
use Rattle.check_faults.specs.declared.entry.EntryPointError.TheVariants as fault
use Rattle.check_scope.specs.declared.trace.TraceState.{TraceState}

-- the answer about a function, as one about its entry point
abbrev pub of_function : Result FunctionOutcome FunctionError → Result FunctionOutcome EntryFault
of_function (Ok outcome) = Ok outcome
of_function (Err error) = Err (Other (fault.Function error))

module _ (below : Meaning) (settings : Settings) (infos : List TypeInfo) (program : Module) (ep : EntryPoint) where
  -- what is known of an accepted entry point, where this is known of its function
  abbrev pub entry_outcome : FunctionOutcome → FunctionOutcome
  entry_outcome outcome =
      record outcome { info = with_blending program.types infos ep (with_own_uses ep outcome.info) }

  abbrev pub interface_step : FunctionOutcome → Result FunctionOutcome EntryFault
  interface_step outcome =
      answer (first_fault (interface_points below settings infos program ep outcome.info)) (entry_outcome outcome)

-- The judgement of an entry point of a module, with the infos of the functions before it, where these are the infos of the
-- module's types, and ray traces left this: the steps up to its function, the function, the steps after it. It is the first
-- fault; else the function's info, with what the entry point itself does with globals and whether it puts out two sources of a
-- blend, and what ray traces leave.
unfoldable pub entry_judgement : Meaning → Settings → List TypeInfo → TraceState → Module → ModuleInfo → EntryPoint →
    Result FunctionOutcome EntryFault
entry_judgement below settings infos trace program earlier ep =
    and_then (answer (first_fault (within fault_of (start_points settings.capabilities ep))) ep) (λ _.
    and_then (of_function (function_judgement below settings infos trace program earlier ep.function true)) (λ outcome.
    interface_step below settings infos program ep outcome))
