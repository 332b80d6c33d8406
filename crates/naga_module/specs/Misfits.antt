-- The misfits of a module and of what is given beside it, in the order in which `check_module` tests; and what it is to fit.
use Rattle.std.specs.Prelude.{ℕ, not, ◌||◌, ◌==◌, is_some, List, [], ◌∷◌, ◌++◌, Result, Ok, Err, All, length}
use Rattle.ir_types.specs.SpaceTests.{is_task_payload}
use Rattle.ir_types.specs.declared.typifier.TypeResolution.{TypeResolution}
use Rattle.ir_module.specs.declared.functions.Function.{Function}
use Rattle.ir_module.specs.declared.module.EntryPoint.{EntryPoint}
use Rattle.ir_module.specs.declared.module.GlobalVariable.{GlobalVariable}
use Rattle.ir_module.specs.declared.module.Module.{Module}
use Rattle.ir_types.specs.declared.type_info.Disalignment.{Disalignment}
use Rattle.ir_types.specs.declared.type_info.TypeInfo.{TypeInfo}
use Rattle.ir_facts.specs.Each.{EachAt}
use Rattle.ir_facts.specs.Fits.{FitsTypes, FitsGlobals, FitsFunction, FitsEntry}
use Rattle.ir_arena.specs.Points.{Point, points_of_each}
use Rattle.ir_misfits.specs.declared.misfit.HandleOf.TheVariants.{Types}
use Rattle.ir_misfits.specs.declared.misfit.Misfit.{Misfit}
use Rattle.ir_misfits.specs.declared.misfit.Owner.TheVariants as owner
use Rattle.ir_misfits.specs.declared.misfit.Place.{Place}
use Rattle.ir_misfits.specs.declared.misfit.Place.TheVariants as place
use Rattle.ir_misfits.specs.declared.misfit.Problem.TheVariants.{Length, UnknownSize}
use Rattle.ir_misfits.specs.declared.misfit.VariableField.TheVariants.{Ty}
use Rattle.ir_misfits.specs.MisfitPoints.{MisfitPoints, named}
use Rattle.ir_fits.specs.OfTypes.{types_points}
use Rattle.ir_fits.specs.OfGlobals.{globals_points}
use Rattle.ir_fits.specs.OfFunctions.{function_points}
use Rattle.ir_fits.specs.OfEntries.{entry_points}
use Rattle.ir_facts.specs.Meaning.{Meaning}
use Rattle.check_entry.specs.InterfacePoints.{HasPayloadSizes}
use Rattle.check_entry.specs.GivenInfos.{AreInfosOf}
use Rattle.naga_module.specs.ModuleJudgement.{first_infos}

-- of n types: that which makes a layout bad is there
abbrev pub layout_points : Place → ℕ → Result ℕ (ℕ × Disalignment) → MisfitPoints
layout_points place n (Ok alignment) = []
layout_points place n (Err bad) = named place Types n bad.0 ∷ []

abbrev pub info_points : ℕ → ℕ → TypeInfo → MisfitPoints
info_points n k info =
    layout_points (place.StorageLayout k) n info.storage_layout
    ++ layout_points (place.UniformLayout k) n info.uniform_layout

-- there is one info for each type, and the types that the infos name are there
abbrev pub one_info_each : Module → List TypeInfo → Point Misfit
one_info_each m infos = (
  length infos == length m.types,
  record { place = place.TypeInfos; problem = Length (length infos) (length m.types) },
)

abbrev pub infos_points : Module → List TypeInfo → MisfitPoints
infos_points m infos = one_info_each m infos ∷ points_of_each (info_points (length m.types)) infos

-- function k, with the functions before it
abbrev pub module_function_points : Module → ℕ → Function → MisfitPoints
module_function_points m k f = function_points (owner.Function k) f m k

-- entry point k: its function, after all functions, and what else it names
abbrev pub entry_point_points : Module → ℕ → EntryPoint → MisfitPoints
entry_point_points m k p =
    function_points (owner.EntryPoint k) p.function m (length m.functions) ++ entry_points k p m

-- the size of the type of a global in TaskPayload is known
abbrev pub size_points : Meaning → Module → ℕ → GlobalVariable → MisfitPoints
size_points below m k g = (
  not (is_task_payload g.space) || is_some (below.size_of m g.ty),
  record {
    place = place.InGlobal k Ty;
    problem = UnknownSize g.ty;
  },
)
    ∷ []

-- over a lower layer that means this, where these are the infos of types, and those the types of global expressions
module _ (below : Meaning) (types : List TypeInfo) (m : Module) (global_types : List TypeResolution) where
  -- the infos of types; the types; the globals; the functions in order; the sizes of payloads; the entry points in order
  abbrev pub module_points : MisfitPoints
  module_points =
      infos_points m types
      ++ (types_points m
      ++ (globals_points m global_types
      ++ (points_of_each (module_function_points m) m.functions
      ++ (points_of_each (size_points below m) m.global_variables
      ++ points_of_each (entry_point_points m) m.entry_points))))

  -- all tests of conditions hold that `check_module` may make: of the infos of types, of the types and the globals; of each
  -- function, with the functions before it; of the sizes of payloads; of each entry point
  pub record AllFits : Type 0 where
    pub infos : AreInfosOf m types
    pub types_fit : FitsTypes m
    pub globals : FitsGlobals m (first_infos global_types)
    pub functions : EachAt (λ k f. FitsFunction f m k) m.functions
    pub sizes : HasPayloadSizes below m
    pub entries : All (λ p. FitsFunction p.function m (length m.functions) × FitsEntry p m) m.entry_points
