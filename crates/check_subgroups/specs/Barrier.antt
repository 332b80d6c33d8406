-- The check list of ControlBarrier and of MemoryBarrier.
use Rattle.std.specs.Prelude.{Bool, [], ◌∷◌, if◌then◌else◌}
use Rattle.std.specs.Int.RustNames.{bit_or}
use Rattle.ir_flags.specs.Bits as bit
use Rattle.ir_flags.specs.Bits.{contains}
use Rattle.ir_flags.specs.Capabilities as capability
use Rattle.ir_flags.specs.Capabilities.{has_capability}
use Rattle.ir_flags.specs.declared.ir.Barrier.{Barrier}
use Rattle.ir_flags.specs.declared.capabilities.Capabilities.{Capabilities}
use Rattle.ir_facts.specs.declared.valid.settings.Settings.{Settings}
use Rattle.ir_errors.specs.declared.function.FunctionError.TheVariants.{MissingCapability}
use Rattle.check_scope.specs.ScopePoints.{Points}
use Rattle.check_subgroups.specs.Subgroup.{operations_point}

-- whether a barrier is one of a subgroup
abbrev pub is_of_subgroup : Barrier → Bool
is_of_subgroup barrier = contains barrier.0 bit.SUB_GROUP.0

-- subgroups and their barriers, both
abbrev pub barrier_capabilities : Capabilities
barrier_capabilities = record { 0 = bit_or capability.SUBGROUP.0 capability.SUBGROUP_BARRIER.0 }

-- ControlBarrier and MemoryBarrier: one of a subgroup needs what the target has; any other needs nothing
abbrev pub barrier_points : Settings → Barrier → Points
barrier_points settings barrier =
    if is_of_subgroup barrier
    then
    (has_capability settings.capabilities barrier_capabilities, MissingCapability barrier_capabilities)
    ∷ operations_point settings bit.BASIC
    ∷ []
    else []
