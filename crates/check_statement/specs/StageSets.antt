-- Sets of stages.
use Rattle.std.specs.Int.RustNames.{bit_and}
use Rattle.ir_flags.specs.declared.valid.ShaderStages.{ShaderStages}

-- the stages that are in both sets
abbrev pub meet : ShaderStages → ShaderStages → ShaderStages
meet a b = record { 0 = bit_and a.0 b.0 }
