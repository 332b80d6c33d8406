-- The table of built-ins, read row by row, says of each built-in what its columns say.
use Rattle.std.proofs.Common.{◌≡◌, refl}
use Rattle.ir_leaves.specs.declared.built_in.BuiltIn.{BuiltIn}
use Rattle.ir_leaves.specs.declared.built_in.BuiltIn.TheVariants.{BaseInstance, BaseVertex, VertexIndex, InstanceIndex, DrawIndex, ClipDistances, CullDistance, PointSize, PointCoord, Position, ViewIndex, FragDepth, FrontFacing, PrimitiveIndex, Barycentric, SampleIndex, SampleMask, LocalInvocationIndex, GlobalInvocationId, LocalInvocationId, WorkGroupId, WorkGroupSize, NumWorkGroups, NumSubgroups, SubgroupId, SubgroupSize, SubgroupInvocationId, CullPrimitive, PointIndex, LineIndices, TriangleIndices, MeshTaskSize, RayInvocationId, NumRayInvocations, InstanceCustomData, GeometryIndex, HitKind, WorldRayOrigin, WorldRayDirection, ObjectRayOrigin, ObjectRayDirection, RayTmin, RayTCurrentMax, ObjectToWorld, WorldToObject, VertexCount, PrimitiveCount, Vertices, Primitives}
use Rattle.check_varyings.specs.BuiltIns.{built_in_rule}
use Rattle.check_varyings.specs.CodeBuiltIns.{required_of, is_of_mesh_shaders, is_visible, type_of}
use Rattle.check_varyings.specs.declared.varying.VaryingPlace.{VaryingPlace}
use Rattle.check_varyings.specs.declared.rule.BuiltInRule.{BuiltInRule}

abbrev pub columns : BuiltIn → VaryingPlace → BuiltInRule
columns b place =
    record {
      required = required_of b place.stage;
      mesh_shader = is_of_mesh_shaders b;
      visible = is_visible b place;
      ty = type_of b;
    }

pub rule_is : (b : BuiltIn) (place : VaryingPlace) → built_in_rule b place ≡ columns b place
unfolding built_in_rule
rule_is BaseInstance place = refl
rule_is BaseVertex place = refl
rule_is VertexIndex place = refl
rule_is InstanceIndex place = refl
rule_is DrawIndex place = refl
rule_is ClipDistances place = refl
rule_is CullDistance place = refl
rule_is PointSize place = refl
rule_is PointCoord place = refl
rule_is (Position invariant) place = refl
rule_is ViewIndex place = refl
rule_is FragDepth place = refl
rule_is FrontFacing place = refl
rule_is PrimitiveIndex place = refl
rule_is (Barycentric perspective) place = refl
rule_is SampleIndex place = refl
rule_is SampleMask place = refl
rule_is LocalInvocationIndex place = refl
rule_is GlobalInvocationId place = refl
rule_is LocalInvocationId place = refl
rule_is WorkGroupId place = refl
rule_is WorkGroupSize place = refl
rule_is NumWorkGroups place = refl
rule_is NumSubgroups place = refl
rule_is SubgroupId place = refl
rule_is SubgroupSize place = refl
rule_is SubgroupInvocationId place = refl
rule_is CullPrimitive place = refl
rule_is PointIndex place = refl
rule_is LineIndices place = refl
rule_is TriangleIndices place = refl
rule_is MeshTaskSize place = refl
rule_is RayInvocationId place = refl
rule_is NumRayInvocations place = refl
rule_is InstanceCustomData place = refl
rule_is GeometryIndex place = refl
rule_is HitKind place = refl
rule_is WorldRayOrigin place = refl
rule_is WorldRayDirection place = refl
rule_is ObjectRayOrigin place = refl
rule_is ObjectRayDirection place = refl
rule_is RayTmin place = refl
rule_is RayTCurrentMax place = refl
rule_is ObjectToWorld place = refl
rule_is WorldToObject place = refl
rule_is VertexCount place = refl
rule_is PrimitiveCount place = refl
rule_is Vertices place = refl
rule_is Primitives place = refl
