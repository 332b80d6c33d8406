-- The info of a function after one more use of a global, and the infos of a module of which nothing is known.
use Rattle.std.specs.Prelude.{ℕ, [], slice_get, slice_set, bit_or, Option, None, Some}
use Rattle.ir_flags.specs.declared.valid.GlobalUse.{GlobalUse}
use Rattle.ir_facts.specs.declared.valid.info.FunctionInfo.{FunctionInfo}
use Rattle.ir_facts.specs.declared.valid.info.ModuleInfo.{ModuleInfo}

-- the uses of a global, with one more joined in
abbrev pub joined : Option GlobalUse → GlobalUse → GlobalUse
joined None more = more
joined (Some uses) more = record { 0 = bit_or uses.0 more.0 }

-- the info with this use joined to those of global k
abbrev pub with_global_use : FunctionInfo → GlobalUse → ℕ → FunctionInfo
with_global_use info more k =
    record info { global_uses = slice_set info.global_uses k (joined (slice_get info.global_uses k) more) }

-- the infos where nothing is known of any function, entry point or global expression
abbrev pub empty_info : ModuleInfo
empty_info = record { functions = []; entry_points = []; global_types = [] }
