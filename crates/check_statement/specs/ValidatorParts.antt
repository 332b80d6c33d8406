-- What contracts see of a validator: four parts and nothing else.
use Rattle.std.specs.Prelude.{List, Option, None, Some, []}
use Rattle.ir_flags.specs.Bits.{NO_OPERATION, NO_STAGE}
use Rattle.ir_flags.specs.declared.capabilities.Capabilities.{Capabilities}
use Rattle.ir_flags.specs.declared.valid.ValidationFlags.{ValidationFlags}
use Rattle.ir_facts.specs.declared.valid.settings.Settings.{Settings}
use Rattle.ir_types.specs.declared.type_info.TypeInfo.{TypeInfo}
use Rattle.check_scope.specs.declared.trace.TraceState.{TraceState}
use Rattle.check_scope.specs.declared.trace.TraceRayVertexReturnState.TheVariants.{NoTraceRays}

-- the lower layer, the settings, the info of each type, and what ray traces left
pub record ValidatorParts (B : Type 0) : Type 0 where
  pub below : B
  pub settings : Settings
  pub types : List TypeInfo
  pub trace : TraceState

-- the type infos that were given, none at first
abbrev pub infos_given : Option (List TypeInfo) → List TypeInfo
infos_given None = []
infos_given (Some infos) = infos

-- the settings that a validator begins with: no stage and no operation is one of subgroups yet
abbrev pub first_settings : ValidationFlags → Capabilities → Settings
first_settings flags capabilities =
    record {
      flags = flags;
      capabilities = capabilities;
      subgroup_stages = NO_STAGE;
      subgroup_operations = NO_OPERATION;
    }

-- no ray was traced
abbrev pub no_traces : TraceState
no_traces = record { payload = None; vertex_return = NoTraceRays }
