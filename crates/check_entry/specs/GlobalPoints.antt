-- The check list of a global of a module, over a lower layer.
use Rattle.std.specs.Prelude.{List}
use Rattle.ir_module.specs.declared.module.GlobalVariable.{GlobalVariable}
use Rattle.ir_module.specs.declared.module.Module.{Module}
use Rattle.ir_facts.specs.declared.proc.expression_kinds.ExpressionKind.{ExpressionKind}
use Rattle.ir_facts.specs.declared.valid.info.ModuleInfo.{ModuleInfo}
use Rattle.ir_facts.specs.declared.valid.settings.Settings.{Settings}
use Rattle.ir_types.specs.declared.type_info.TypeInfo.{TypeInfo}
use Rattle.check_variables.specs.Globals.{GlobalPoints, global_points}
use Rattle.ir_facts.specs.Meaning.{Meaning}

-- the points of a global, where the infos are those of the module's types, the kinds those of its global expressions, and
-- the size of the variable's type is what the lower layer knows of it
abbrev pub module_global_points : Meaning → Settings → List TypeInfo → Module → ModuleInfo → List ExpressionKind →
    GlobalVariable → GlobalPoints
module_global_points below settings infos program mod_info kinds var =
    let size = below.size_of program var.ty in
    global_points program.types infos settings.flags settings.capabilities size kinds mod_info.global_types var
