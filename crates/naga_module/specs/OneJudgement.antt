-- A module has one judgement. The fault of an entry point may hold a text, which is a reference: two judgements have the same
-- text there, and may have it at two addresses. In all else they are equal.
use Rattle.std.specs.Prelude.{◌≡◌, List, Ok, Err}
use Rattle.ir_facts.specs.declared.valid.settings.Settings.{Settings}
use Rattle.ir_types.specs.declared.type_info.TypeInfo.{TypeInfo}
use Rattle.ir_module.specs.declared.module.Module.{Module}
use Rattle.ir_types.specs.declared.typifier.TypeResolution.{TypeResolution}
use Rattle.check_entry.specs.EntryFaults.{fault_of}
use Rattle.ir_facts.specs.Meaning.{Meaning}
use Rattle.naga_module.specs.ModuleJudgement.{ModuleAnswer, IsJudgement}
use Rattle.check_faults.specs.declared.module.ModuleFault.{ModuleFault}
use Rattle.check_faults.specs.declared.module.ModuleFault.TheVariants as fault

-- the same fault, up to the addresses of the texts that one of an entry point holds
abbrev pub IsSameFault : ModuleFault → ModuleFault → Type 0
IsSameFault (fault.EntryPoint k error) (fault.EntryPoint n other) = (k ≡ n) × (fault_of error ≡ fault_of other)
IsSameFault told other = told ≡ other

-- the same infos, or the same fault
abbrev pub IsSameAnswer : ModuleAnswer → ModuleAnswer → Type 0
IsSameAnswer (Ok infos) (Ok others) = infos ≡ others
IsSameAnswer (Err told) (Err other) = IsSameFault told other
IsSameAnswer _ _ = ⊥

-- Two judgements of a module are the same.
abbrev pub ModuleHasOneJudgement : Type 0
ModuleHasOneJudgement =
    (below : Meaning) (settings : Settings) (types : List TypeInfo) (global_types : List TypeResolution) (m : Module)
    (r s : ModuleAnswer) →
    IsJudgement below settings types m global_types r → IsJudgement below settings types m global_types s → IsSameAnswer r s
