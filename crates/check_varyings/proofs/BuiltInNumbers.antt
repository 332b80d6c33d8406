-- No two built-ins have one number.
use Rattle.std.proofs.Common.{◌≡◌, ◌==◌, Bool, true, false, List, [], ◌∷◌, Some, refl, sym, ap, ◌∙◌, subst}
use Rattle.std.specs.Prelude.{slice_get}
use Rattle.std.proofs.lemmas.Bool.{eq-eqb, eqb-true}
use Rattle.ir_leaves.specs.contracts.built_in.BuiltInEq.TheImpl.Laws.{laws-law as built_in_laws}
use Rattle.ir_leaves.specs.EqualBuiltIns.{built_in_same}
use Rattle.ir_leaves.specs.declared.built_in.BuiltIn.{BuiltIn}
use Rattle.ir_leaves.specs.declared.built_in.BuiltIn.TheVariants.{BaseInstance, BaseVertex, VertexIndex, InstanceIndex, DrawIndex, ClipDistances, CullDistance, PointSize, PointCoord, Position, ViewIndex, FragDepth, FrontFacing, PrimitiveIndex, Barycentric, SampleIndex, SampleMask, LocalInvocationIndex, GlobalInvocationId, LocalInvocationId, WorkGroupId, WorkGroupSize, NumWorkGroups, NumSubgroups, SubgroupId, SubgroupSize, SubgroupInvocationId, CullPrimitive, PointIndex, LineIndices, TriangleIndices, MeshTaskSize, RayInvocationId, NumRayInvocations, InstanceCustomData, GeometryIndex, HitKind, WorldRayOrigin, WorldRayDirection, ObjectRayOrigin, ObjectRayDirection, RayTmin, RayTCurrentMax, ObjectToWorld, WorldToObject, VertexCount, PrimitiveCount, Vertices, Primitives}
use Rattle.check_varyings.specs.BuiltIns.{is_same_built_in}
use Rattle.check_varyings.specs.BuiltInNumbers.{number_of}

-- the built-ins, each at its number
abbrev numbered : List BuiltIn
numbered =
    BaseInstance
    ∷ BaseVertex
    ∷ VertexIndex
    ∷ InstanceIndex
    ∷ DrawIndex
    ∷ ClipDistances
    ∷ CullDistance
    ∷ PointSize
    ∷ PointCoord
    ∷ Position false
    ∷ ViewIndex
    ∷ FragDepth
    ∷ FrontFacing
    ∷ PrimitiveIndex
    ∷ Barycentric false
    ∷ SampleIndex
    ∷ SampleMask
    ∷ LocalInvocationIndex
    ∷ GlobalInvocationId
    ∷ LocalInvocationId
    ∷ WorkGroupId
    ∷ WorkGroupSize
    ∷ NumWorkGroups
    ∷ NumSubgroups
    ∷ SubgroupId
    ∷ SubgroupSize
    ∷ SubgroupInvocationId
    ∷ CullPrimitive
    ∷ PointIndex
    ∷ LineIndices
    ∷ TriangleIndices
    ∷ MeshTaskSize
    ∷ RayInvocationId
    ∷ NumRayInvocations
    ∷ InstanceCustomData
    ∷ GeometryIndex
    ∷ HitKind
    ∷ WorldRayOrigin
    ∷ WorldRayDirection
    ∷ ObjectRayOrigin
    ∷ ObjectRayDirection
    ∷ RayTmin
    ∷ RayTCurrentMax
    ∷ ObjectToWorld
    ∷ WorldToObject
    ∷ VertexCount
    ∷ PrimitiveCount
    ∷ Vertices
    ∷ Primitives
    ∷ Position true
    ∷ Barycentric true
    ∷ []

at_its_number : (b : BuiltIn) → slice_get numbered (number_of b) ≡ Some b
at_its_number BaseInstance = refl
at_its_number BaseVertex = refl
at_its_number VertexIndex = refl
at_its_number InstanceIndex = refl
at_its_number DrawIndex = refl
at_its_number ClipDistances = refl
at_its_number CullDistance = refl
at_its_number PointSize = refl
at_its_number PointCoord = refl
at_its_number (Position false) = refl
at_its_number (Position true) = refl
at_its_number ViewIndex = refl
at_its_number FragDepth = refl
at_its_number FrontFacing = refl
at_its_number PrimitiveIndex = refl
at_its_number (Barycentric false) = refl
at_its_number (Barycentric true) = refl
at_its_number SampleIndex = refl
at_its_number SampleMask = refl
at_its_number LocalInvocationIndex = refl
at_its_number GlobalInvocationId = refl
at_its_number LocalInvocationId = refl
at_its_number WorkGroupId = refl
at_its_number WorkGroupSize = refl
at_its_number NumWorkGroups = refl
at_its_number NumSubgroups = refl
at_its_number SubgroupId = refl
at_its_number SubgroupSize = refl
at_its_number SubgroupInvocationId = refl
at_its_number CullPrimitive = refl
at_its_number PointIndex = refl
at_its_number LineIndices = refl
at_its_number TriangleIndices = refl
at_its_number MeshTaskSize = refl
at_its_number RayInvocationId = refl
at_its_number NumRayInvocations = refl
at_its_number InstanceCustomData = refl
at_its_number GeometryIndex = refl
at_its_number HitKind = refl
at_its_number WorldRayOrigin = refl
at_its_number WorldRayDirection = refl
at_its_number ObjectRayOrigin = refl
at_its_number ObjectRayDirection = refl
at_its_number RayTmin = refl
at_its_number RayTCurrentMax = refl
at_its_number ObjectToWorld = refl
at_its_number WorldToObject = refl
at_its_number VertexCount = refl
at_its_number PrimitiveCount = refl
at_its_number Vertices = refl
at_its_number Primitives = refl

number_tells : (a b : BuiltIn) → number_of a ≡ number_of b → a ≡ b
number_tells a b e =
    let same : Some a ≡ Some b = sym (at_its_number a) ∙ ap (slice_get numbered) e ∙ at_its_number b in cc

iff_same : (x y : Bool) → (x ≡ true → y ≡ true) → (y ≡ true → x ≡ true) → x ≡ y
iff_same true y f g = sym (f refl)
iff_same false true f g = g refl
iff_same false false f g = refl

-- one number, one built-in
pub same_number : (a b : BuiltIn) → (number_of a == number_of b) ≡ is_same_built_in a b
same_number a b =
    iff_same _ _
    (λ e. subst (λ x. is_same_built_in a x ≡ true) (number_tells a b (eqb-true _ _ e)) (built_in_laws.refl a))
    (λ e. eq-eqb _ _ (ap number_of (built_in_same a b e)))
