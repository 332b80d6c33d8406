-- The steps of an entry point's judgement, as the code takes them.
use Rattle.std.proofs.Common.{◌≡◌, true, List, None, Some, Result, Ok, Err, sym, ap, ◌∙◌}
use Rattle.std.specs.Option.{option_map}
use Rattle.std.specs.Prelude.{IsErr}
use Rattle.ir_arena.proofs.Points.{first_within}
use Rattle.ir_arena.specs.Points.{Point, first_fault, answer, and_then}
use Rattle.ir_module.specs.declared.module.EntryPoint.{EntryPoint}
use Rattle.ir_module.specs.declared.module.Module.{Module}
use Rattle.ir_arena.specs.declared.span.Refusal.{Refusal}
use Rattle.ir_arena.specs.declared.span.Refusal.TheVariants as refusal
use Rattle.ir_facts.specs.declared.valid.info.ModuleInfo.{ModuleInfo}
use Rattle.ir_facts.specs.declared.valid.settings.Settings.{Settings}
use Rattle.ir_types.specs.declared.type_info.TypeInfo.{TypeInfo}
use Rattle.ir_facts.specs.Meaning.{Meaning}
use Rattle.ir_errors.specs.declared.function.FunctionError.{FunctionError}
use Rattle.check_entry.specs.EntryFaults.{EntryFault, fault_of}
use Rattle.check_laws.specs.EntryJudgement.{entry_judgement, of_function, interface_step}
use Rattle.check_entry.specs.Start.{start_points}
use Rattle.check_statement.specs.FunctionJudgement.{FunctionOutcome, function_judgement}
use Rattle.check_faults.specs.declared.entry.EntryPointError.{EntryPointError}
use Rattle.check_scope.specs.declared.trace.TraceState.{TraceState}
use Rattle.ir_facts.specs.Answers.{Answers, FirstOf, Exactly, read_by, refusal_read_by}

module _ {A : Type 0} (points : List (Point EntryFault)) (x : A) where
  -- a refusal for one of the points
  pub points_refuse : (r : Result A (Refusal EntryPointError)) → IsErr r → Answers (FirstOf points) (read_by fault_of r) → Answers (Exactly (answer (first_fault points) x)) (read_by fault_of r)
  points_refuse (Err (refusal.Fault f)) err h = ap (λ o. answer o x) h
  points_refuse (Err refusal.Memory) err h = tt
  points_refuse (Ok y) err h = cc

  -- no point fails
  pub points_pass : first_fault points ≡ None → answer (first_fault points) x ≡ Ok x
  points_pass h = ap (λ o. answer o x) h

pub function_passes : (o : Result FunctionOutcome FunctionError) (x : FunctionOutcome) → of_function o ≡ Ok x → o ≡ Ok x
function_passes (Ok y) x e = let same : y ≡ x = cc in ap Ok same
function_passes (Err f) x e = cc

module _ (below : Meaning) (settings : Settings) (infos : List TypeInfo) (trace : TraceState) (program : Module) (earlier : ModuleInfo) (ep : EntryPoint) where
  abbrev judgement : Result FunctionOutcome EntryFault
  judgement = entry_judgement below settings infos trace program earlier ep

  abbrev function : Result FunctionOutcome FunctionError
  function = function_judgement below settings infos trace program earlier ep.function true

  abbrev behind : EntryPoint → Result FunctionOutcome EntryFault
  behind _ = and_then (of_function function) (λ outcome. interface_step below settings infos program ep outcome)

  by_start : judgement ≡ and_then (answer (option_map fault_of (first_fault (start_points settings.capabilities ep))) ep) behind
  unfolding entry_judgement
  by_start = ap (λ o. and_then (answer o ep) behind) (first_within fault_of (start_points settings.capabilities ep))

  -- a fault before the function
  pub start_refuses : (fault : EntryPointError) → Some fault ≡ first_fault (start_points settings.capabilities ep) → judgement ≡ Err (fault_of fault)
  start_refuses fault h = by_start ∙ ap (λ o. and_then (answer (option_map fault_of o) ep) behind) (sym h)

  module _ (none : first_fault (start_points settings.capabilities ep) ≡ None) where
    started : judgement ≡ and_then (of_function function) (λ outcome. interface_step below settings infos program ep outcome)
    started = by_start ∙ ap (λ o. and_then (answer (option_map fault_of o) ep) behind) none

    -- a refusal of the function
    pub function_refuses : (x : Refusal EntryPointError) → Answers (Exactly (of_function function)) (Err (refusal_read_by fault_of x)) → Answers (Exactly judgement) (Err (refusal_read_by fault_of x))
    function_refuses (refusal.Fault f) h =
        started ∙ ap (λ o. and_then o (λ outcome. interface_step below settings infos program ep outcome)) h
    function_refuses refusal.Memory h = tt

    -- what the steps behind the function answer
    pub interface_decides : (outcome : FunctionOutcome) (r : Result FunctionOutcome (Refusal EntryPointError)) → of_function function ≡ Ok outcome →
        Answers (Exactly (interface_step below settings infos program ep outcome)) (read_by fault_of r) → Answers (Exactly judgement) (read_by fault_of r)
    interface_decides outcome (Ok y) is h =
        started ∙ ap (λ o. and_then o (λ outcome. interface_step below settings infos program ep outcome)) is ∙ h
    interface_decides outcome (Err (refusal.Fault f)) is h =
        started ∙ ap (λ o. and_then o (λ outcome. interface_step below settings infos program ep outcome)) is ∙ h
    interface_decides outcome (Err refusal.Memory) is h = tt
