-- Built-in inputs and outputs: by name, and two with what they say.
use Rattle.std.specs.Prelude.{ℕ, List, codes}
use Rattle.json.specs.Json.{Json, boolean, string}
use Rattle.ir_leaves.specs.declared.built_in.BuiltIn.{BuiltIn}
use Rattle.ir_leaves.specs.declared.built_in.BuiltIn.TheVariants as built_ins
use Rattle.json_faults.specs.JsonForm.{holding, one_field}

-- the name of each
unfoldable pub built_in_name : BuiltIn → List ℕ
built_in_name built_ins.BaseInstance = codes "BaseInstance"
built_in_name built_ins.BaseVertex = codes "BaseVertex"
built_in_name built_ins.VertexIndex = codes "VertexIndex"
built_in_name built_ins.InstanceIndex = codes "InstanceIndex"
built_in_name built_ins.DrawIndex = codes "DrawIndex"
built_in_name built_ins.ClipDistances = codes "ClipDistances"
built_in_name built_ins.CullDistance = codes "CullDistance"
built_in_name built_ins.PointSize = codes "PointSize"
built_in_name built_ins.PointCoord = codes "PointCoord"
built_in_name (built_ins.Position _) = codes "Position"
built_in_name built_ins.ViewIndex = codes "ViewIndex"
built_in_name built_ins.FragDepth = codes "FragDepth"
built_in_name built_ins.FrontFacing = codes "FrontFacing"
built_in_name built_ins.PrimitiveIndex = codes "PrimitiveIndex"
built_in_name (built_ins.Barycentric _) = codes "Barycentric"
built_in_name built_ins.SampleIndex = codes "SampleIndex"
built_in_name built_ins.SampleMask = codes "SampleMask"
built_in_name built_ins.LocalInvocationIndex = codes "LocalInvocationIndex"
built_in_name built_ins.GlobalInvocationId = codes "GlobalInvocationId"
built_in_name built_ins.LocalInvocationId = codes "LocalInvocationId"
built_in_name built_ins.WorkGroupId = codes "WorkGroupId"
built_in_name built_ins.WorkGroupSize = codes "WorkGroupSize"
built_in_name built_ins.NumWorkGroups = codes "NumWorkGroups"
built_in_name built_ins.NumSubgroups = codes "NumSubgroups"
built_in_name built_ins.SubgroupId = codes "SubgroupId"
built_in_name built_ins.SubgroupSize = codes "SubgroupSize"
built_in_name built_ins.SubgroupInvocationId = codes "SubgroupInvocationId"
built_in_name built_ins.CullPrimitive = codes "CullPrimitive"
built_in_name built_ins.PointIndex = codes "PointIndex"
built_in_name built_ins.LineIndices = codes "LineIndices"
built_in_name built_ins.TriangleIndices = codes "TriangleIndices"
built_in_name built_ins.MeshTaskSize = codes "MeshTaskSize"
built_in_name built_ins.RayInvocationId = codes "RayInvocationId"
built_in_name built_ins.NumRayInvocations = codes "NumRayInvocations"
built_in_name built_ins.InstanceCustomData = codes "InstanceCustomData"
built_in_name built_ins.GeometryIndex = codes "GeometryIndex"
built_in_name built_ins.HitKind = codes "HitKind"
built_in_name built_ins.WorldRayOrigin = codes "WorldRayOrigin"
built_in_name built_ins.WorldRayDirection = codes "WorldRayDirection"
built_in_name built_ins.ObjectRayOrigin = codes "ObjectRayOrigin"
built_in_name built_ins.ObjectRayDirection = codes "ObjectRayDirection"
built_in_name built_ins.RayTmin = codes "RayTmin"
built_in_name built_ins.RayTCurrentMax = codes "RayTCurrentMax"
built_in_name built_ins.ObjectToWorld = codes "ObjectToWorld"
built_in_name built_ins.WorldToObject = codes "WorldToObject"
built_in_name built_ins.VertexCount = codes "VertexCount"
built_in_name built_ins.PrimitiveCount = codes "PrimitiveCount"
built_in_name built_ins.Vertices = codes "Vertices"
built_in_name built_ins.Primitives = codes "Primitives"

unfoldable pub built_in_form : BuiltIn → Json
built_in_form (built_ins.Position invariant) =
    holding (built_in_name (built_ins.Position invariant)) (one_field (codes "invariant") (boolean invariant))
built_in_form (built_ins.Barycentric perspective) =
    holding (built_in_name (built_ins.Barycentric perspective)) (one_field (codes "perspective") (boolean perspective))
built_in_form built_in = string (built_in_name built_in)
