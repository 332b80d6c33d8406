-- The laws of misfits: nothing is one exactly where all fits.
use Rattle.std.specs.Prelude.{◌≡◌, ◌↔◌, ℕ, List, None}
use Rattle.ir_types.specs.declared.typifier.TypeResolution.{TypeResolution}
use Rattle.ir_module.specs.declared.functions.Function.{Function}
use Rattle.ir_module.specs.declared.module.EntryPoint.{EntryPoint}
use Rattle.ir_module.specs.declared.module.Module.{Module}
use Rattle.ir_facts.specs.Fits.{FitsTypes, FitsGlobals, FitsFunction, FitsEntry}
use Rattle.ir_facts.specs.Infos.{empty_info}
use Rattle.ir_arena.specs.Points.{first_fault}
use Rattle.ir_misfits.specs.declared.misfit.Owner.{Owner}
use Rattle.ir_fits.specs.OfTypes.{types_points}
use Rattle.ir_fits.specs.OfGlobals.{globals_points}
use Rattle.ir_fits.specs.OfFunctions.{function_points}
use Rattle.ir_fits.specs.OfEntries.{entry_points}

abbrev pub TypesAreExact : Type 0
TypesAreExact = (m : Module) → (first_fault (types_points m) ≡ None) ↔ FitsTypes m

abbrev pub GlobalsAreExact : Type 0
GlobalsAreExact =
    (m : Module) (types : List TypeResolution) →
    (first_fault (globals_points m types) ≡ None) ↔ FitsGlobals m (record empty_info { global_types = types })

abbrev pub FunctionsAreExact : Type 0
FunctionsAreExact =
    (of : Owner) (f : Function) (m : Module) (earlier : ℕ) →
    (first_fault (function_points of f m earlier) ≡ None) ↔ FitsFunction f m earlier

abbrev pub EntriesAreExact : Type 0
EntriesAreExact =
    (k : ℕ) (p : EntryPoint) (m : Module) → (first_fault (entry_points k p m) ≡ None) ↔ FitsEntry p m
