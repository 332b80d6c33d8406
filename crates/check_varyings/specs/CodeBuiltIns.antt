-- The columns of the table of built-ins, built-in by built-in, as the code reads them.
use Rattle.std.specs.Prelude.{Bool, true, false, List, [], ◌∷◌, Option}
use Rattle.std.specs.List.{list_any}
use Rattle.ir_flags.specs.Capabilities.{CLIP_DISTANCES, CULL_DISTANCE, DRAW_INDEX, MULTISAMPLED_SHADING, MULTIVIEW, PRIMITIVE_INDEX, SHADER_BARYCENTRICS, SUBGROUP}
use Rattle.ir_leaves.specs.declared.built_in.BuiltIn.{BuiltIn}
use Rattle.ir_leaves.specs.declared.built_in.BuiltIn.TheVariants.{BaseInstance, BaseVertex, VertexIndex, InstanceIndex, DrawIndex, ClipDistances, CullDistance, PointSize, PointCoord, Position, ViewIndex, FragDepth, FrontFacing, PrimitiveIndex, Barycentric, SampleIndex, SampleMask, LocalInvocationIndex, GlobalInvocationId, LocalInvocationId, WorkGroupId, WorkGroupSize, NumWorkGroups, NumSubgroups, SubgroupId, SubgroupSize, SubgroupInvocationId, CullPrimitive, PointIndex, LineIndices, TriangleIndices, MeshTaskSize, RayInvocationId, NumRayInvocations, InstanceCustomData, GeometryIndex, HitKind, WorldRayOrigin, WorldRayDirection, ObjectRayOrigin, ObjectRayDirection, RayTmin, RayTCurrentMax, ObjectToWorld, WorldToObject, VertexCount, PrimitiveCount, Vertices, Primitives}
use Rattle.ir_leaves.specs.declared.stage.ShaderStage.{ShaderStage}
use Rattle.ir_leaves.specs.declared.stage.ShaderStage.TheVariants.{Vertex, Fragment, Compute, Mesh, Task, RayGeneration, AnyHit, ClosestHit, Miss}
use Rattle.ir_flags.specs.declared.capabilities.Capabilities.{Capabilities}
use Rattle.check_varyings.specs.BuiltIns.{Visible, Into, OutOf, InAndOutOf, IntoAllBut, IntoMeshWithoutPayload, OfPrimitives, OutOfMeshOfPrimitives, Needed, Nothing, Needs, NeedsBut, required_at, is_there, bool, uint, uint2, uint3, float, float2, float3, float4, float4x3}
use Rattle.check_varyings.specs.declared.varying.VaryingPlace.{VaryingPlace}
use Rattle.check_varyings.specs.declared.rule.BuiltInType.{BuiltInType}
use Rattle.check_varyings.specs.declared.rule.BuiltInType.TheVariants.{Distances, Any}

-- which capability it needs
abbrev pub needed_of : BuiltIn → Needed
needed_of DrawIndex = Needs DRAW_INDEX
needed_of ClipDistances = Needs CLIP_DISTANCES
needed_of CullDistance = Needs CULL_DISTANCE
needed_of ViewIndex = Needs MULTIVIEW
needed_of PrimitiveIndex = NeedsBut (AnyHit ∷ ClosestHit ∷ []) PRIMITIVE_INDEX
needed_of (Barycentric perspective) = Needs SHADER_BARYCENTRICS
needed_of SampleIndex = Needs MULTISAMPLED_SHADING
needed_of NumSubgroups = Needs SUBGROUP
needed_of SubgroupId = Needs SUBGROUP
needed_of SubgroupSize = Needs SUBGROUP
needed_of SubgroupInvocationId = Needs SUBGROUP
needed_of _ = Nothing

abbrev pub required_of : BuiltIn → ShaderStage → Option Capabilities
required_of b stage = required_at stage (needed_of b)

-- whether it needs mesh shaders
abbrev pub is_of_mesh_shaders : BuiltIn → Bool
is_of_mesh_shaders CullPrimitive = true
is_of_mesh_shaders PointIndex = true
is_of_mesh_shaders LineIndices = true
is_of_mesh_shaders TriangleIndices = true
is_of_mesh_shaders MeshTaskSize = true
is_of_mesh_shaders VertexCount = true
is_of_mesh_shaders PrimitiveCount = true
is_of_mesh_shaders Vertices = true
is_of_mesh_shaders Primitives = true
is_of_mesh_shaders _ = false

-- where it is visible
abbrev pub places_of : BuiltIn → List Visible
places_of BaseInstance = Into (Vertex ∷ []) ∷ []
places_of BaseVertex = Into (Vertex ∷ []) ∷ []
places_of VertexIndex = Into (Vertex ∷ []) ∷ []
places_of InstanceIndex = Into (Vertex ∷ AnyHit ∷ ClosestHit ∷ []) ∷ []
places_of DrawIndex = Into (Vertex ∷ Task ∷ []) ∷ IntoMeshWithoutPayload ∷ []
places_of ClipDistances = OutOf (Vertex ∷ Mesh ∷ []) ∷ []
places_of CullDistance = OutOf (Vertex ∷ Mesh ∷ []) ∷ []
places_of PointSize = OutOf (Vertex ∷ Mesh ∷ []) ∷ []
places_of PointCoord = Into (Fragment ∷ []) ∷ []
places_of (Position invariant) = OutOf (Vertex ∷ Mesh ∷ []) ∷ Into (Fragment ∷ []) ∷ []
places_of ViewIndex = Into (Vertex ∷ Fragment ∷ Task ∷ Mesh ∷ []) ∷ []
places_of FragDepth = OutOf (Fragment ∷ []) ∷ []
places_of FrontFacing = Into (Fragment ∷ []) ∷ []
places_of PrimitiveIndex = Into (Fragment ∷ AnyHit ∷ ClosestHit ∷ []) ∷ OutOfMeshOfPrimitives ∷ []
places_of (Barycentric perspective) = Into (Fragment ∷ []) ∷ []
places_of SampleIndex = Into (Fragment ∷ []) ∷ []
places_of SampleMask = InAndOutOf (Fragment ∷ []) ∷ []
places_of LocalInvocationIndex = Into (Compute ∷ Task ∷ Mesh ∷ []) ∷ []
places_of GlobalInvocationId = Into (Compute ∷ Task ∷ Mesh ∷ []) ∷ []
places_of LocalInvocationId = Into (Compute ∷ Task ∷ Mesh ∷ []) ∷ []
places_of WorkGroupId = Into (Compute ∷ Task ∷ Mesh ∷ []) ∷ []
places_of WorkGroupSize = Into (Compute ∷ Task ∷ Mesh ∷ []) ∷ []
places_of NumWorkGroups = Into (Compute ∷ Task ∷ Mesh ∷ []) ∷ []
places_of NumSubgroups = Into (Compute ∷ Task ∷ Mesh ∷ []) ∷ []
places_of SubgroupId = Into (Compute ∷ Task ∷ Mesh ∷ []) ∷ []
places_of SubgroupSize = IntoAllBut Vertex ∷ []
places_of SubgroupInvocationId = IntoAllBut Vertex ∷ []
places_of CullPrimitive = OfPrimitives ∷ []
places_of PointIndex = OfPrimitives ∷ []
places_of LineIndices = OfPrimitives ∷ []
places_of TriangleIndices = OfPrimitives ∷ []
places_of MeshTaskSize = OutOf (Task ∷ []) ∷ []
places_of RayInvocationId = InAndOutOf (RayGeneration ∷ AnyHit ∷ ClosestHit ∷ Miss ∷ []) ∷ []
places_of NumRayInvocations = InAndOutOf (RayGeneration ∷ AnyHit ∷ ClosestHit ∷ Miss ∷ []) ∷ []
places_of InstanceCustomData = InAndOutOf (AnyHit ∷ ClosestHit ∷ []) ∷ []
places_of GeometryIndex = InAndOutOf (AnyHit ∷ ClosestHit ∷ []) ∷ []
places_of HitKind = InAndOutOf (AnyHit ∷ ClosestHit ∷ []) ∷ []
places_of WorldRayOrigin = InAndOutOf (AnyHit ∷ ClosestHit ∷ Miss ∷ []) ∷ []
places_of WorldRayDirection = InAndOutOf (AnyHit ∷ ClosestHit ∷ Miss ∷ []) ∷ []
places_of ObjectRayOrigin = InAndOutOf (AnyHit ∷ ClosestHit ∷ []) ∷ []
places_of ObjectRayDirection = InAndOutOf (AnyHit ∷ ClosestHit ∷ []) ∷ []
places_of RayTmin = InAndOutOf (AnyHit ∷ ClosestHit ∷ Miss ∷ []) ∷ []
places_of RayTCurrentMax = InAndOutOf (AnyHit ∷ ClosestHit ∷ Miss ∷ []) ∷ []
places_of ObjectToWorld = InAndOutOf (AnyHit ∷ ClosestHit ∷ []) ∷ []
places_of WorldToObject = InAndOutOf (AnyHit ∷ ClosestHit ∷ []) ∷ []
places_of VertexCount = []
places_of PrimitiveCount = []
places_of Vertices = []
places_of Primitives = []

abbrev pub is_visible : BuiltIn → VaryingPlace → Bool
is_visible b place = list_any (is_there place) (places_of b)

-- its type
abbrev pub type_of : BuiltIn → BuiltInType
type_of BaseInstance = uint
type_of BaseVertex = uint
type_of VertexIndex = uint
type_of InstanceIndex = uint
type_of DrawIndex = uint
type_of ClipDistances = Distances
type_of CullDistance = Distances
type_of PointSize = float
type_of PointCoord = float2
type_of (Position invariant) = float4
type_of ViewIndex = uint
type_of FragDepth = float
type_of FrontFacing = bool
type_of PrimitiveIndex = uint
type_of (Barycentric perspective) = float3
type_of SampleIndex = uint
type_of SampleMask = uint
type_of LocalInvocationIndex = uint
type_of GlobalInvocationId = uint3
type_of LocalInvocationId = uint3
type_of WorkGroupId = uint3
type_of WorkGroupSize = uint3
type_of NumWorkGroups = uint3
type_of NumSubgroups = uint
type_of SubgroupId = uint
type_of SubgroupSize = uint
type_of SubgroupInvocationId = uint
type_of CullPrimitive = bool
type_of PointIndex = uint
type_of LineIndices = uint2
type_of TriangleIndices = uint3
type_of MeshTaskSize = uint3
type_of RayInvocationId = uint3
type_of NumRayInvocations = uint3
type_of InstanceCustomData = uint
type_of GeometryIndex = uint
type_of HitKind = uint
type_of WorldRayOrigin = float3
type_of WorldRayDirection = float3
type_of ObjectRayOrigin = float3
type_of ObjectRayDirection = float3
type_of RayTmin = float
type_of RayTCurrentMax = float
type_of ObjectToWorld = float4x3
type_of WorldToObject = float4x3
type_of VertexCount = Any
type_of PrimitiveCount = Any
type_of Vertices = Any
type_of Primitives = Any
