-- Which of the facts answers for a function.
use Rattle.std.specs.Prelude.{Option, length, nat_lt, slice_get, if◌then◌else◌}
use Rattle.ir_module.specs.declared.module.Module.{Module}
use Rattle.ir_facts.specs.declared.valid.info.ModuleInfo.{ModuleInfo}
use Rattle.ir_facts.specs.declared.facts.Facts.{Facts}
use Rattle.ir_facts.specs.declared.facts.FunctionFact.{FunctionFact}

-- where fewer functions have infos than the module has functions, that of the next function; else that of the next entry
-- point
abbrev pub fact_asked : Facts → Module → ModuleInfo → Option FunctionFact
fact_asked facts m infos =
    if nat_lt (length infos.functions) (length m.functions) then slice_get facts.functions (length infos.functions)
    else slice_get facts.entry_points (length infos.entry_points)
