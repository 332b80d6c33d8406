-- Built-ins as numbers below 64, by which a state keeps those that are there.
use Rattle.std.specs.Prelude.{ℕ, true, false}
use Rattle.ir_leaves.specs.declared.built_in.BuiltIn.{BuiltIn}
use Rattle.ir_leaves.specs.declared.built_in.BuiltIn.TheVariants.{BaseInstance, BaseVertex, VertexIndex, InstanceIndex, DrawIndex, ClipDistances, CullDistance, PointSize, PointCoord, Position, ViewIndex, FragDepth, FrontFacing, PrimitiveIndex, Barycentric, SampleIndex, SampleMask, LocalInvocationIndex, GlobalInvocationId, LocalInvocationId, WorkGroupId, WorkGroupSize, NumWorkGroups, NumSubgroups, SubgroupId, SubgroupSize, SubgroupInvocationId, CullPrimitive, PointIndex, LineIndices, TriangleIndices, MeshTaskSize, RayInvocationId, NumRayInvocations, InstanceCustomData, GeometryIndex, HitKind, WorldRayOrigin, WorldRayDirection, ObjectRayOrigin, ObjectRayDirection, RayTmin, RayTCurrentMax, ObjectToWorld, WorldToObject, VertexCount, PrimitiveCount, Vertices, Primitives}

-- the number of a built-in, which no other has
abbrev pub number_of : BuiltIn → ℕ
number_of BaseInstance = 0
number_of BaseVertex = 1
number_of VertexIndex = 2
number_of InstanceIndex = 3
number_of DrawIndex = 4
number_of ClipDistances = 5
number_of CullDistance = 6
number_of PointSize = 7
number_of PointCoord = 8
number_of (Position false) = 9
number_of (Position true) = 49
number_of ViewIndex = 10
number_of FragDepth = 11
number_of FrontFacing = 12
number_of PrimitiveIndex = 13
number_of (Barycentric false) = 14
number_of (Barycentric true) = 50
number_of SampleIndex = 15
number_of SampleMask = 16
number_of LocalInvocationIndex = 17
number_of GlobalInvocationId = 18
number_of LocalInvocationId = 19
number_of WorkGroupId = 20
number_of WorkGroupSize = 21
number_of NumWorkGroups = 22
number_of NumSubgroups = 23
number_of SubgroupId = 24
number_of SubgroupSize = 25
number_of SubgroupInvocationId = 26
number_of CullPrimitive = 27
number_of PointIndex = 28
number_of LineIndices = 29
number_of TriangleIndices = 30
number_of MeshTaskSize = 31
number_of RayInvocationId = 32
number_of NumRayInvocations = 33
number_of InstanceCustomData = 34
number_of GeometryIndex = 35
number_of HitKind = 36
number_of WorldRayOrigin = 37
number_of WorldRayDirection = 38
number_of ObjectRayOrigin = 39
number_of ObjectRayDirection = 40
number_of RayTmin = 41
number_of RayTCurrentMax = 42
number_of ObjectToWorld = 43
number_of WorldToObject = 44
number_of VertexCount = 45
number_of PrimitiveCount = 46
number_of Vertices = 47
number_of Primitives = 48
