-- What is known of each entry point that the judgement accepts: in words over the entry point, not over the points.
use Rattle.std.specs.Prelude.{◌≡◌, ◌≢◌, ⊤, ℕ, true, List, [], ◌∷◌, Option, None, Some, Ok, map, slice_get}
use Rattle.ir_facts.specs.Fits.{FitsTypes}
use Rattle.ir_facts.specs.FitsBody.{SignatureFits}
use Rattle.ir_types.specs.Types.{inner_at}
use Rattle.ir_leaves.specs.declared.built_in.BuiltIn.{BuiltIn}
use Rattle.ir_leaves.specs.declared.built_in.BuiltIn.TheVariants.{Position}
use Rattle.ir_module.specs.declared.functions.FunctionResult.{FunctionResult}
use Rattle.ir_module.specs.declared.module.EntryPoint.{EntryPoint}
use Rattle.ir_module.specs.declared.module.GlobalVariable.{GlobalVariable}
use Rattle.ir_module.specs.declared.module.MeshStageInfo.{MeshStageInfo}
use Rattle.ir_module.specs.declared.module.Module.{Module}
use Rattle.ir_module.specs.declared.module.ResourceBinding.{ResourceBinding}
use Rattle.ir_leaves.specs.declared.stage.ShaderStage.TheVariants.{Vertex}
use Rattle.ir_leaves.specs.declared.bindings.Binding.{Binding}
use Rattle.ir_leaves.specs.declared.bindings.Binding.TheVariants as binding
use Rattle.ir_types.specs.declared.types.StructMember.{StructMember}
use Rattle.ir_types.specs.declared.types.Type.{«Type» as IrType}
use Rattle.ir_types.specs.declared.types.TypeInner.{TypeInner}
use Rattle.ir_types.specs.declared.types.TypeInner.TheVariants as inner
use Rattle.ir_flags.specs.declared.valid.GlobalUse.{GlobalUse}
use Rattle.ir_facts.specs.declared.valid.info.ModuleInfo.{ModuleInfo}
use Rattle.ir_facts.specs.declared.valid.settings.Settings.{Settings}
use Rattle.ir_types.specs.declared.type_info.TypeInfo.{TypeInfo}
use Rattle.check_varyings.specs.BuiltIns.{canonical}
use Rattle.ir_facts.specs.WhatIsChecked.{checks_bindings}
use Rattle.ir_facts.specs.Meaning.{Meaning}
use Rattle.check_varyings.specs.Varyings.{Item, VaryingPart, Placed, Bound, BlendSources, group_parts}
use Rattle.check_varyings.specs.declared.varying.MeshOutputType.TheVariants.{VertexOutput, PrimitiveOutput}
use Rattle.check_laws.specs.EntryJudgement.{entry_judgement}
use Rattle.check_entry.specs.EntryVaryings.{argument_item, result_items, output_item}
use Rattle.check_statement.specs.FunctionJudgement.{FunctionOutcome, function_judgement}
use Rattle.check_scope.specs.declared.trace.TraceState.{TraceState}

-- the global with this handle is used, and is bound here
pub record IsUsedAt (globals : List GlobalVariable) (uses : List GlobalUse) (b : ResourceBinding) (h : ℕ) : Type 0 where
  pub var : GlobalVariable
  pub is : slice_get globals h ≡ Some var
  pub bound : var.binding ≡ Some b
  pub use_of : GlobalUse
  pub given : slice_get uses h ≡ Some use_of
  pub used : use_of.0 ≢ 0

-- no two globals that are used are bound at one place
abbrev pub BindingsAreDistinct : List GlobalVariable → List GlobalUse → Type 0
BindingsAreDistinct globals uses =
    (b : ResourceBinding) (h k : ℕ) → IsUsedAt globals uses b h → IsUsedAt globals uses b k → h ≡ k

-- a part takes this location: it is bound there, or is the two sources of a blend, which take location 0
abbrev pub TakesLocation : ℕ → VaryingPart → Type 0
TakesLocation l (Bound ty (binding.Location given interpolation sampling blend_src per_primitive)) = l ≡ given
TakesLocation l BlendSources = l ≡ 0
TakesLocation l _ = ⊥

-- no two of these parts take one location
abbrev pub LocationsAreDistinct : List Placed → Type 0
LocationsAreDistinct parts =
    (l i j : ℕ) (p q : Placed) → slice_get parts i ≡ Some p → slice_get parts j ≡ Some q → TakesLocation l p.part →
    TakesLocation l q.part → i ≡ j

-- a part is this built-in, once `invariant` and `perspective` are cleared
abbrev pub IsBuiltIn : BuiltIn → VaryingPart → Type 0
IsBuiltIn b (Bound ty (binding.BuiltIn given)) = b ≡ canonical given
IsBuiltIn b _ = ⊥

-- no two of these parts are one built-in
abbrev pub BuiltInsAreDistinct : List Placed → Type 0
BuiltInsAreDistinct parts =
    (b : BuiltIn) (i j : ℕ) (p q : Placed) → slice_get parts i ≡ Some p → slice_get parts j ≡ Some q →
    IsBuiltIn b p.part → IsBuiltIn b q.part → i ≡ j

-- what is bound is a position
abbrev pub IsPosition : Option Binding → Type 0
IsPosition (Some (binding.BuiltIn (Position invariant))) = ⊤
IsPosition _ = ⊥

-- a struct, one of whose members is a position
abbrev pub HasPositionMember : Option TypeInner → Type 0
HasPositionMember (Some (inner.Struct members span)) =
    (k : ℕ) × (m : StructMember) × (slice_get members k ≡ Some m) × IsPosition m.binding
HasPositionMember _ = ⊥

-- what is returned is bound as a position, or is bound to nothing, and a struct with one
abbrev pub IsReturnedPosition : List IrType → ℕ → Option Binding → Type 0
IsReturnedPosition types ty None = HasPositionMember (inner_at types ty)
IsReturnedPosition types ty (Some bound) = IsPosition (Some bound)

abbrev pub ReturnsPosition : List IrType → Option FunctionResult → Type 0
ReturnsPosition types None = ⊥
ReturnsPosition types (Some declared) = IsReturnedPosition types declared.ty declared.binding

-- the parts of the arguments, those of the result, and those of the two outputs of a mesh
abbrev pub argument_parts : Settings → List IrType → List TypeInfo → EntryPoint → List Placed
argument_parts settings types infos ep = group_parts types infos (map (argument_item settings ep) ep.function.arguments)

abbrev pub returned_parts : Settings → List IrType → List TypeInfo → EntryPoint → List Placed
returned_parts settings types infos ep = group_parts types infos (result_items settings ep ep.function.result)

abbrev pub mesh_items : Settings → EntryPoint → Option MeshStageInfo → List Item
mesh_items settings ep None = []
mesh_items settings ep (Some mesh) =
    output_item settings ep VertexOutput mesh.vertex_output_type
    ∷ output_item settings ep PrimitiveOutput mesh.primitive_output_type ∷ []

abbrev pub mesh_parts : Settings → List IrType → List TypeInfo → EntryPoint → List Placed
mesh_parts settings types infos ep = group_parts types infos (mesh_items settings ep ep.mesh_info)

-- the locations of each group are distinct
pub record GroupsAreDistinct (settings : Settings) (types : List IrType) (infos : List TypeInfo) (ep : EntryPoint) : Type 0 where
  pub arguments : LocationsAreDistinct (argument_parts settings types infos ep)
  pub results : LocationsAreDistinct (returned_parts settings types infos ep)
  pub outputs : LocationsAreDistinct (mesh_parts settings types infos ep)

-- something holds of every entry point that the judgement accepts, and of what is known of it
abbrev pub OfAcceptedEntry : (Settings → List TypeInfo → Module → EntryPoint → FunctionOutcome → Type 0) → Type 0
OfAcceptedEntry Holds =
    (below : Meaning) (settings : Settings) (infos : List TypeInfo) (trace : TraceState) (program : Module)
    (earlier : ModuleInfo) (ep : EntryPoint) (outcome : FunctionOutcome) →
    entry_judgement below settings infos trace program earlier ep ≡ Ok outcome → Holds settings infos program ep outcome

-- Where bindings are checked, the globals that are used and bound are bound at distinct places.
abbrev pub AcceptedBindingsAreDistinct : Type 0
AcceptedBindingsAreDistinct =
    OfAcceptedEntry (λ settings infos program ep outcome. checks_bindings settings.flags ≡ true →
    BindingsAreDistinct program.global_variables outcome.info.global_uses)

-- Where bindings are checked, the locations of each group are distinct.
abbrev pub AcceptedLocationsAreDistinct : Type 0
AcceptedLocationsAreDistinct =
    OfAcceptedEntry (λ settings infos program ep outcome. checks_bindings settings.flags ≡ true →
    GroupsAreDistinct settings program.types infos ep)

-- Where the types of the module and of its function's signature are there, the built-ins of its arguments are distinct.
abbrev pub AcceptedBuiltInsAreDistinct : Type 0
AcceptedBuiltInsAreDistinct =
    OfAcceptedEntry (λ settings infos program ep outcome. FitsTypes program → SignatureFits program ep.function →
    BuiltInsAreDistinct (argument_parts settings program.types infos ep))

-- At the vertex stage it returns a position.
abbrev pub AcceptedVertexHasPosition : Type 0
AcceptedVertexHasPosition =
    OfAcceptedEntry (λ settings infos program ep outcome. ep.stage ≡ Vertex → ReturnsPosition program.types ep.function.result)

-- Its function is accepted as an entry point's, and leaves what it leaves of ray traces.
abbrev pub AcceptedHasAcceptedFunction : Type 0
AcceptedHasAcceptedFunction =
    (below : Meaning) (settings : Settings) (infos : List TypeInfo) (trace : TraceState) (program : Module)
    (earlier : ModuleInfo) (ep : EntryPoint) (outcome : FunctionOutcome) →
    entry_judgement below settings infos trace program earlier ep ≡ Ok outcome →
    (function : FunctionOutcome) × (function_judgement below settings infos trace program earlier ep.function true ≡ Ok function)
    × (outcome.trace ≡ function.trace) × (outcome.info.available_stages ≡ function.info.available_stages)
