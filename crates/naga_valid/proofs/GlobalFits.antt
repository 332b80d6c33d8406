-- What a global of a module names is there.
use Rattle.std.proofs.lemmas.List.Elements.{All-contains}
use Rattle.std.specs.Prelude.{Contains}
use Rattle.ir_facts.specs.Fits.{FitsGlobals, GlobalFits}
use Rattle.ir_module.specs.declared.module.GlobalVariable.{GlobalVariable}
use Rattle.ir_module.specs.declared.module.Module.{Module}
use Rattle.ir_facts.specs.declared.valid.info.ModuleInfo.{ModuleInfo}

pub global_fits : (m : Module) (i : ModuleInfo) (g : GlobalVariable) → FitsGlobals m i → Contains m.global_variables g → GlobalFits m g
global_fits m i g fits listed = All-contains (GlobalFits m) m.global_variables g fits.globals listed
