-- The judgement of a case: that of the bench's module with the case's body, over the plain lower layer.
use Rattle.std.specs.Prelude.{◌+◌, ℕ, Bool, List, [], ◌∷◌, Ok, if◌then◌else◌}
use Rattle.ir_flags.specs.Bits.{STRUCT_LAYOUTS, BINDINGS, EXPRESSIONS, BLOCKS, ALL_STAGES, ALL_OPERATIONS, ALL_TYPE_FLAGS, NO_STAGE}
use Rattle.ir_flags.specs.Capabilities.{ALL_CAPABILITIES}
use Rattle.ir_module.specs.declared.module.Module.{Module}
use Rattle.ir_flags.specs.declared.valid.ShaderStages.{ShaderStages}
use Rattle.ir_flags.specs.declared.valid.ValidationFlags.{ValidationFlags}
use Rattle.ir_facts.specs.declared.valid.info.FunctionInfo.{FunctionInfo}
use Rattle.ir_facts.specs.declared.valid.settings.Settings.{Settings}
use Rattle.ir_types.specs.declared.type_info.TypeInfo.{TypeInfo}
use Rattle.case_reply.specs.BenchModule.{bench_module}
use Rattle.case_notation.specs.CaseBlocks.{block_of}
use Rattle.case_notation.specs.Case.{Case}
use Rattle.naga_module.specs.ModuleJudgement.{ModuleAnswer, IsJudgement, IsJudgementOrMemory}
use Rattle.naga_layers.specs.Plain.Meaning.{plain_meaning, plain_layer}

-- the bits of these flags, where they are on
abbrev pub bits_if : Bool → ValidationFlags → ℕ
bits_if on flags = if on then flags.0 else 0

-- all flags but those that options take away
abbrev pub flags_of : (expressions blocks : Bool) → ValidationFlags
flags_of expressions blocks =
    record { 0 = STRUCT_LAYOUTS.0 + BINDINGS.0 + (bits_if expressions EXPRESSIONS + bits_if blocks BLOCKS) }

-- these flags, for a target with every capability, and with subgroup operations of all groups in all stages
abbrev pub settings_with : ValidationFlags → Settings
settings_with flags =
    record { flags = flags; capabilities = ALL_CAPABILITIES; subgroup_stages = ALL_STAGES; subgroup_operations = ALL_OPERATIONS }

abbrev pub settings_of : Case → Settings
settings_of c = settings_with (flags_of c.expressions c.blocks)

-- what is known of a type that can be used for everything, and whose layouts are good
abbrev pub good_info : TypeInfo
good_info =
    record { flags = ALL_TYPE_FLAGS; storage_layout = Ok 4; uniform_layout = Ok 4; immediates_compatibility = Ok tt }

-- such an info for each type of a bench
abbrev pub bench_infos : List TypeInfo
bench_infos = good_info ∷ good_info ∷ good_info ∷ []

-- the bench's module with the case's body
abbrev pub module_of : Case → Module
module_of c = bench_module c.bench (block_of c.body)

-- the judgement of a case: that of its module, over the plain layer; a bench has no global expressions
unfoldable pub IsJudgementOf : Case → ModuleAnswer → Type 0
IsJudgementOf c r = IsJudgement (plain_meaning plain_layer) (settings_of c) bench_infos (module_of c) [] r

-- it is such a judgement, or there was no memory
abbrev pub IsPlainAnswer : Settings → Module → ModuleAnswer → Type 0
IsPlainAnswer settings m r = IsJudgementOrMemory (plain_meaning plain_layer) settings bench_infos m [] r

-- the stages that the last function may run in
abbrev pub stages_of_last : List FunctionInfo → ShaderStages
stages_of_last [] = NO_STAGE
stages_of_last (info ∷ []) = info.available_stages
stages_of_last (info ∷ next ∷ rest) = stages_of_last (next ∷ rest)
