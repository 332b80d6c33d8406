-- The table of built-ins: of each group where it is visible, of which type it is, and what the target has to have.
use Rattle.std.specs.Prelude.{Bool, true, false, not, ◌&&◌, List, [], ◌∷◌, Option, None, Some, if◌then◌else◌}
use Rattle.std.specs.List.{list_any, find}
use Rattle.ir_flags.specs.Capabilities.{CLIP_DISTANCES, CULL_DISTANCE, DRAW_INDEX, MULTISAMPLED_SHADING, MULTIVIEW, PRIMITIVE_INDEX, SHADER_BARYCENTRICS, SUBGROUP}
use Rattle.ir_leaves.specs.contracts.built_in.BuiltInPartialEq.TheImpl as built_in
use Rattle.ir_leaves.specs.contracts.stage.ShaderStagePartialEq.TheImpl as shader_stage
use Rattle.ir_leaves.specs.declared.built_in.BuiltIn.{BuiltIn}
use Rattle.ir_leaves.specs.declared.built_in.BuiltIn.TheVariants.{BaseInstance, BaseVertex, VertexIndex, InstanceIndex, DrawIndex, ClipDistances, CullDistance, PointSize, PointCoord, Position, ViewIndex, FragDepth, FrontFacing, PrimitiveIndex, Barycentric, SampleIndex, SampleMask, LocalInvocationIndex, GlobalInvocationId, LocalInvocationId, WorkGroupId, WorkGroupSize, NumWorkGroups, NumSubgroups, SubgroupId, SubgroupSize, SubgroupInvocationId, CullPrimitive, PointIndex, LineIndices, TriangleIndices, MeshTaskSize, RayInvocationId, NumRayInvocations, InstanceCustomData, GeometryIndex, HitKind, WorldRayOrigin, WorldRayDirection, ObjectRayOrigin, ObjectRayDirection, RayTmin, RayTCurrentMax, ObjectToWorld, WorldToObject, VertexCount, PrimitiveCount, Vertices, Primitives}
use Rattle.ir_leaves.specs.declared.stage.ShaderStage.{ShaderStage}
use Rattle.ir_leaves.specs.declared.stage.ShaderStage.TheVariants.{Vertex, Fragment, Compute, Mesh, Task, RayGeneration, AnyHit, ClosestHit, Miss}
use Rattle.ir_leaves.specs.declared.scalars.Scalar.{Scalar}
use Rattle.ir_leaves.specs.declared.scalars.ScalarKind.TheVariants as kind
use Rattle.ir_types.specs.declared.types.TypeInner.TheVariants as inner
use Rattle.ir_leaves.specs.declared.scalars.VectorSize.TheVariants.{Bi, Tri, Quad}
use Rattle.ir_flags.specs.declared.capabilities.Capabilities.{Capabilities}
use Rattle.check_varyings.specs.declared.varying.MeshOutputType.{MeshOutputType}
use Rattle.check_varyings.specs.declared.varying.MeshOutputType.TheVariants.{Neither, VertexOutput, PrimitiveOutput}
use Rattle.check_varyings.specs.declared.varying.VaryingPlace.{VaryingPlace}
use Rattle.check_varyings.specs.declared.rule.BuiltInRule.{BuiltInRule}
use Rattle.check_varyings.specs.declared.rule.BuiltInType.{BuiltInType}
use Rattle.check_varyings.specs.declared.rule.BuiltInType.TheVariants.{Inner, Distances, Any}

-- where a built-in may be visible: as an input of some stages, as an output of some, either way at some
pub data Visible : Type 0 where
  Into : List ShaderStage → Visible
  OutOf : List ShaderStage → Visible
  InAndOutOf : List ShaderStage → Visible
  -- as an input of every stage but one
  IntoAllBut : ShaderStage → Visible
  -- as an input of a mesh stage that no task stage stands before
  IntoMeshWithoutPayload : Visible
  -- where primitives of a mesh are put out, and there only as an output of the mesh stage
  OfPrimitives : Visible
  OutOfMeshOfPrimitives : Visible

-- which capability is needed: none, this one, or this one but at some stages
pub data Needed : Type 0 where
  Nothing : Needed
  Needs : Capabilities → Needed
  NeedsBut : List ShaderStage → Capabilities → Needed

-- one row of the table: built-ins that are visible at the same places (at one of these), are of one type and need the same
pub record Row : Type 0 where
  pub built_ins : List BuiltIn
  pub visible : List Visible
  pub ty : BuiltInType
  pub needed : Needed
  pub mesh_shader : Bool

abbrev row : List BuiltIn → List Visible → BuiltInType → Needed → Row
row built_ins visible ty needed = record {
  built_ins = built_ins;
  visible = visible;
  ty = ty;
  needed = needed;
  mesh_shader = false;
}

-- a row of built-ins that need mesh shaders
abbrev mesh_row : List BuiltIn → List Visible → BuiltInType → Row
mesh_row built_ins visible ty = record { built_ins = built_ins; visible = visible; ty = ty; needed = Nothing; mesh_shader = true }

-- the stages, a letter each
abbrev V : ShaderStage
V = Vertex

abbrev F : ShaderStage
F = Fragment

abbrev C : ShaderStage
C = Compute

abbrev M : ShaderStage
M = Mesh

abbrev T : ShaderStage
T = Task

abbrev R : ShaderStage
R = RayGeneration

abbrev A : ShaderStage
A = AnyHit

abbrev H : ShaderStage
H = ClosestHit

abbrev S : ShaderStage
S = Miss

-- the scalars, and the types
abbrev u32 : Scalar
u32 = record { kind = kind.Uint; width = 4 }

abbrev pub f32 : Scalar
f32 = record { kind = kind.Float; width = 4 }

abbrev pub bool : BuiltInType
bool = Inner (inner.Scalar (record { kind = kind.Bool; width = 1 }))

abbrev pub uint : BuiltInType
uint = Inner (inner.Scalar u32)

abbrev pub uint2 : BuiltInType
uint2 = Inner (inner.Vector Bi u32)

abbrev pub uint3 : BuiltInType
uint3 = Inner (inner.Vector Tri u32)

abbrev pub float : BuiltInType
float = Inner (inner.Scalar f32)

abbrev pub float2 : BuiltInType
float2 = Inner (inner.Vector Bi f32)

abbrev pub float3 : BuiltInType
float3 = Inner (inner.Vector Tri f32)

abbrev pub float4 : BuiltInType
float4 = Inner (inner.Vector Quad f32)

abbrev pub float4x3 : BuiltInType
float4x3 = Inner (inner.Matrix Quad Tri f32)

-- the 49 built-ins, with `invariant` and `perspective` cleared
abbrev pub table : List Row
table =
    row (BaseInstance ∷ BaseVertex ∷ VertexIndex ∷ []) (Into (V ∷ []) ∷ []) uint Nothing
    ∷ row (InstanceIndex ∷ []) (Into (V ∷ A ∷ H ∷ []) ∷ []) uint Nothing
    ∷ row (DrawIndex ∷ []) (Into (V ∷ T ∷ []) ∷ IntoMeshWithoutPayload ∷ []) uint (Needs DRAW_INDEX)
    ∷ row (ClipDistances ∷ []) (OutOf (V ∷ M ∷ []) ∷ []) Distances (Needs CLIP_DISTANCES)
    ∷ row (CullDistance ∷ []) (OutOf (V ∷ M ∷ []) ∷ []) Distances (Needs CULL_DISTANCE)
    ∷ row (PointSize ∷ []) (OutOf (V ∷ M ∷ []) ∷ []) float Nothing
    ∷ row (PointCoord ∷ []) (Into (F ∷ []) ∷ []) float2 Nothing
    ∷ row (Position false ∷ []) (OutOf (V ∷ M ∷ []) ∷ Into (F ∷ []) ∷ []) float4 Nothing
    ∷ row (ViewIndex ∷ []) (Into (V ∷ F ∷ T ∷ M ∷ []) ∷ []) uint (Needs MULTIVIEW)
    ∷ row (FragDepth ∷ []) (OutOf (F ∷ []) ∷ []) float Nothing
    ∷ row (FrontFacing ∷ []) (Into (F ∷ []) ∷ []) bool Nothing
    ∷ row (PrimitiveIndex ∷ []) (Into (F ∷ A ∷ H ∷ []) ∷ OutOfMeshOfPrimitives ∷ []) uint (NeedsBut (A ∷ H ∷ []) PRIMITIVE_INDEX)
    ∷ row (Barycentric false ∷ []) (Into (F ∷ []) ∷ []) float3 (Needs SHADER_BARYCENTRICS)
    ∷ row (SampleIndex ∷ []) (Into (F ∷ []) ∷ []) uint (Needs MULTISAMPLED_SHADING)
    ∷ row (SampleMask ∷ []) (InAndOutOf (F ∷ []) ∷ []) uint Nothing
    ∷ row (LocalInvocationIndex ∷ []) (Into (C ∷ T ∷ M ∷ []) ∷ []) uint Nothing
    ∷ row (GlobalInvocationId ∷ LocalInvocationId ∷ WorkGroupId ∷ WorkGroupSize ∷ NumWorkGroups ∷ [])
    (Into (C ∷ T ∷ M ∷ []) ∷ []) uint3 Nothing
    ∷ row (NumSubgroups ∷ SubgroupId ∷ []) (Into (C ∷ T ∷ M ∷ []) ∷ []) uint (Needs SUBGROUP)
    ∷ row (SubgroupSize ∷ SubgroupInvocationId ∷ []) (IntoAllBut V ∷ []) uint (Needs SUBGROUP)
    ∷ mesh_row (CullPrimitive ∷ []) (OfPrimitives ∷ []) bool
    ∷ mesh_row (PointIndex ∷ []) (OfPrimitives ∷ []) uint
    ∷ mesh_row (LineIndices ∷ []) (OfPrimitives ∷ []) uint2
    ∷ mesh_row (TriangleIndices ∷ []) (OfPrimitives ∷ []) uint3
    ∷ mesh_row (MeshTaskSize ∷ []) (OutOf (T ∷ []) ∷ []) uint3
    ∷ row (RayInvocationId ∷ NumRayInvocations ∷ []) (InAndOutOf (R ∷ A ∷ H ∷ S ∷ []) ∷ []) uint3 Nothing
    ∷ row (InstanceCustomData ∷ GeometryIndex ∷ HitKind ∷ []) (InAndOutOf (A ∷ H ∷ []) ∷ []) uint Nothing
    ∷ row (WorldRayOrigin ∷ WorldRayDirection ∷ []) (InAndOutOf (A ∷ H ∷ S ∷ []) ∷ []) float3 Nothing
    ∷ row (ObjectRayOrigin ∷ ObjectRayDirection ∷ []) (InAndOutOf (A ∷ H ∷ []) ∷ []) float3 Nothing
    ∷ row (RayTmin ∷ RayTCurrentMax ∷ []) (InAndOutOf (A ∷ H ∷ S ∷ []) ∷ []) float Nothing
    ∷ row (ObjectToWorld ∷ WorldToObject ∷ []) (InAndOutOf (A ∷ H ∷ []) ∷ []) float4x3 Nothing
    ∷ mesh_row (VertexCount ∷ PrimitiveCount ∷ Vertices ∷ Primitives ∷ []) [] Any
    ∷ []

-- a built-in with `invariant` and `perspective` cleared
abbrev pub canonical : BuiltIn → BuiltIn
canonical (Position invariant) = Position false
canonical (Barycentric perspective) = Barycentric false
canonical b = b

abbrev pub is_same_built_in : BuiltIn → BuiltIn → Bool
is_same_built_in a b = (built_in.ghosts).eq a b

abbrev pub is_stage : ShaderStage → ShaderStage → Bool
is_stage a b = (shader_stage.ghosts).eq a b

abbrev pub is_one_of : List ShaderStage → ShaderStage → Bool
is_one_of stages stage = list_any (is_stage stage) stages

abbrev pub is_primitive_output : MeshOutputType → Bool
is_primitive_output Neither = false
is_primitive_output VertexOutput = false
is_primitive_output PrimitiveOutput = true

-- whether a place is among these
abbrev pub is_there : VaryingPlace → Visible → Bool
is_there place (Into stages) = is_one_of stages place.stage && not place.output
is_there place (OutOf stages) = is_one_of stages place.stage && place.output
is_there place (InAndOutOf stages) = is_one_of stages place.stage
is_there place (IntoAllBut stage) = not (is_stage place.stage stage) && not place.output
is_there place IntoMeshWithoutPayload = is_stage place.stage Mesh && not place.output && not place.has_task_payload
is_there place OfPrimitives = is_primitive_output place.mesh_output
is_there place OutOfMeshOfPrimitives = is_stage place.stage Mesh && place.output && is_primitive_output place.mesh_output

-- the capability that is needed at a stage
abbrev pub required_at : ShaderStage → Needed → Option Capabilities
required_at stage Nothing = None
required_at stage (Needs capability) = Some capability
required_at stage (NeedsBut stages capability) = if is_one_of stages stage then None else Some capability

-- the row that has the built-in
abbrev pub row_of : BuiltIn → Option Row
row_of b = find (λ r. list_any (is_same_built_in (canonical b)) r.built_ins) table

-- what a row says at a place; without a row there would be nothing to see
abbrev pub rule_at : VaryingPlace → Option Row → BuiltInRule
rule_at place None = record { required = None; mesh_shader = false; visible = false; ty = Any }
rule_at place (Some r) =
    record {
      required = required_at place.stage r.needed;
      mesh_shader = r.mesh_shader;
      visible = list_any (is_there place) r.visible;
      ty = r.ty;
    }

-- what is asked of a built-in at a place
unfoldable pub built_in_rule : BuiltIn → VaryingPlace → BuiltInRule
built_in_rule b place = rule_at place (row_of b)
