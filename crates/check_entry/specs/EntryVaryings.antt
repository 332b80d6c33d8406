-- The inputs and outputs of an entry point: its arguments are one group, its result is one, and the two outputs of a mesh are
-- one together.
use Rattle.std.specs.Prelude.{ℕ, Bool, true, false, ◌&&◌, List, [], ◌∷◌, ◌++◌, Option, None, Some, is_some, is_none, map, if◌then◌else◌}
use Rattle.std.specs.List.{list_any}
use Rattle.ir_flags.specs.Bits.{IO_SHAREABLE}
use Rattle.ir_arena.specs.Points.{Point, within}
use Rattle.ir_types.specs.TypeTests.{is_same_inner, is_struct, it_is}
use Rattle.ir_types.specs.Types.{inner_at}
use Rattle.ir_leaves.specs.declared.built_in.BuiltIn.{BuiltIn}
use Rattle.ir_leaves.specs.declared.built_in.BuiltIn.TheVariants.{Position, PointIndex, LineIndices, TriangleIndices}
use Rattle.ir_module.specs.declared.functions.FunctionArgument.{FunctionArgument}
use Rattle.ir_module.specs.declared.functions.FunctionResult.{FunctionResult}
use Rattle.ir_module.specs.declared.module.EntryPoint.{EntryPoint}
use Rattle.ir_leaves.specs.declared.stage.ShaderStage.{ShaderStage}
use Rattle.ir_leaves.specs.declared.stage.ShaderStage.TheVariants as stage
use Rattle.ir_leaves.specs.declared.scalars.ScalarKind.TheVariants as kind
use Rattle.ir_types.specs.declared.types.Type.{«Type» as IrType}
use Rattle.ir_types.specs.declared.types.TypeInner.{TypeInner}
use Rattle.ir_types.specs.declared.types.TypeInner.TheVariants as inner
use Rattle.ir_leaves.specs.declared.scalars.VectorSize.TheVariants.{Tri}
use Rattle.ir_facts.specs.declared.valid.info.FunctionInfo.{FunctionInfo}
use Rattle.ir_facts.specs.declared.valid.settings.Settings.{Settings}
use Rattle.ir_types.specs.declared.type_info.TypeInfo.{TypeInfo}
use Rattle.ir_types.specs.TypeInfos.{type_has}
use Rattle.check_varyings.specs.Varyings.{Item, VaryingPart, Placed, is_built_in, item_points, group_points, placed_parts, parts_of}
use Rattle.check_varyings.specs.declared.varying.MeshOutputType.{MeshOutputType}
use Rattle.check_varyings.specs.declared.varying.MeshOutputType.TheVariants.{Neither, VertexOutput, PrimitiveOutput}
use Rattle.check_varyings.specs.declared.varying.VaryingPlace.{VaryingPlace}
use Rattle.check_entry.specs.EntryFaults.{EntryFault, OfArgument, OfResult, Other, fault_of}
use Rattle.check_entry.specs.EntryAnswers.{EntryPoints}
use Rattle.check_faults.specs.declared.entry.EntryPointError.TheVariants as fault

-- a vector of three u32
abbrev pub is_three_counts : TypeInner → Bool
is_three_counts i = is_same_inner i (inner.Vector Tri (record { kind = kind.Uint; width = 4 }))

-- one of these parts is this built-in
abbrev pub has_built_in : BuiltIn → List VaryingPart → Bool
has_built_in b parts = list_any (is_built_in b) parts

-- exactly one of three
abbrev pub is_one_of_three : Bool → Bool → Bool → Bool
is_one_of_three true false false = true
is_one_of_three false true false = true
is_one_of_three false false true = true
is_one_of_three _ _ _ = false

-- exactly one of the three built-ins of indices
abbrev pub has_one_of_indices : List VaryingPart → Bool
has_one_of_indices parts =
    is_one_of_three (has_built_in PointIndex parts) (has_built_in LineIndices parts) (has_built_in TriangleIndices parts)

-- a result that is three counts
abbrev pub returns_counts : List IrType → Option FunctionResult → Bool
returns_counts types None = false
returns_counts types (Some declared) = it_is is_three_counts (inner_at types declared.ty)

-- what a stage has to return, where a position is among its outputs or not
abbrev pub returned_points : List IrType → ShaderStage → Bool → Option FunctionResult → EntryPoints
returned_points types stage.Vertex position declared = (position, fault.MissingVertexOutputPosition) ∷ []
returned_points types stage.Mesh position declared = (is_none declared, fault.UnexpectedMeshShaderEntryResult) ∷ []
returned_points types stage.Task position declared = (returns_counts types declared, fault.WrongTaskShaderEntryResult) ∷ []
returned_points types stage.Fragment position declared = []
returned_points types stage.Compute position declared = []
returned_points types stage.RayGeneration position declared = []
returned_points types stage.AnyHit position declared = []
returned_points types stage.ClosestHit position declared = []
returned_points types stage.Miss position declared = []

-- the two sources of a blend: a struct without binding that is shared between stages
abbrev pub are_blend_sources : List IrType → List TypeInfo → Option FunctionResult → Bool
are_blend_sources types infos None = false
are_blend_sources types infos (Some declared) =
    is_none declared.binding && (type_has infos declared.ty IO_SHAREABLE && it_is is_struct (inner_at types declared.ty))

-- an info that says so, where the result is that
abbrev pub with_blending : List IrType → List TypeInfo → EntryPoint → FunctionInfo → FunctionInfo
with_blending types infos ep info =
    if are_blend_sources types infos ep.function.result then record info { dual_source_blending = true } else info

-- where an input or an output of an entry point stands
module _ (settings : Settings) (ep : EntryPoint) where
  abbrev pub place_of : Bool → MeshOutputType → VaryingPlace
  place_of output mesh_output =
      record {
        stage = ep.stage;
        output = output;
        mesh_output = mesh_output;
        has_task_payload = is_some ep.task_payload;
        workgroup_size = ep.workgroup_size;
        capabilities = settings.capabilities;
        flags = settings.flags;
      }

  -- an argument, the result, and an output of a mesh
  abbrev pub argument_item : FunctionArgument → Item
  argument_item argument = record { place = place_of false Neither; ty = argument.ty; binding = argument.binding }

  abbrev pub result_item : FunctionResult → Item
  result_item declared = record { place = place_of true Neither; ty = declared.ty; binding = declared.binding }

  abbrev pub output_item : MeshOutputType → ℕ → Item
  output_item which ty = record { place = place_of true which; ty = ty; binding = None }

  abbrev pub result_items : Option FunctionResult → List Item
  result_items None = []
  result_items (Some declared) = result_item declared ∷ []

-- the parts of a result
abbrev pub result_parts : List IrType → List TypeInfo → Option FunctionResult → List VaryingPart
result_parts types infos None = []
result_parts types infos (Some declared) = parts_of types infos declared.ty declared.binding

module _ (settings : Settings) (types : List IrType) (infos : List TypeInfo) (ep : EntryPoint) where
  -- the arguments
  abbrev pub argument_points : List (Point EntryFault)
  argument_points = group_points types infos OfArgument (map (argument_item settings ep) ep.function.arguments)

  -- the result, if there is one, and then what the stage has to return
  abbrev pub declared_points : Option FunctionResult → List (Point EntryFault)
  declared_points declared = group_points types infos (λ _ f. OfResult f) (result_items settings ep declared)

  abbrev pub result_points : List (Point EntryFault)
  result_points =
      declared_points ep.function.result
      ++ within fault_of (returned_points types ep.stage
      (has_built_in (Position false) (result_parts types infos ep.function.result)) ep.function.result)

  -- an output of a mesh, after these parts of its group: a struct, whose members may be put out
  abbrev pub output_points : MeshOutputType → List Placed → ℕ → List (Point EntryFault)
  output_points which earlier ty =
      (it_is is_struct (inner_at types ty), Other fault.InvalidMeshOutputType)
      ∷ within OfResult (item_points types infos earlier (output_item settings ep which ty))

  -- the output of each vertex, which has a position
  abbrev pub vertex_points : ℕ → List (Point EntryFault)
  vertex_points ty =
      output_points VertexOutput [] ty
      ++ ((has_built_in (Position false) (parts_of types infos ty None), Other fault.MissingVertexOutputPosition) ∷ [])

  -- that of each primitive, which has one built-in of indices, after these parts
  abbrev pub primitive_points : List Placed → ℕ → List (Point EntryFault)
  primitive_points earlier ty =
      output_points PrimitiveOutput earlier ty
      ++ ((has_one_of_indices (parts_of types infos ty None), Other fault.InvalidMeshPrimitiveOutputType) ∷ [])

  -- the vertex output, and then the primitive output; the two share locations
  abbrev pub outputs_points : ℕ → ℕ → List (Point EntryFault)
  outputs_points vertex primitive =
      vertex_points vertex ++ primitive_points (placed_parts types infos (output_item settings ep VertexOutput vertex)) primitive
