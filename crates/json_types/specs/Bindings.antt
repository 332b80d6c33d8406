-- What inputs and outputs of stages are bound to.
use Rattle.std.specs.Prelude.{ℕ, List, [], ◌∷◌, codes, Option, option_map}
use Rattle.serde_json.specs.Data.{Data}
use Rattle.serde_json.specs.Find.{as_bool}
use Rattle.ir_leaves.specs.declared.built_in.BuiltIn.{BuiltIn}
use Rattle.ir_leaves.specs.declared.built_in.BuiltIn.TheVariants as built_in
use Rattle.json_types.specs.declared.bindings.BuiltInName.{BuiltInName}
use Rattle.json_types.specs.declared.bindings.BuiltInName.TheVariants as built_in_name
use Rattle.ir_leaves.specs.declared.bindings.Interpolation.{Interpolation}
use Rattle.ir_leaves.specs.declared.bindings.Interpolation.TheVariants as interpolation
use Rattle.ir_leaves.specs.declared.bindings.Sampling.{Sampling}
use Rattle.ir_leaves.specs.declared.bindings.Sampling.TheVariants as sampling
use Rattle.ir_leaves.specs.declared.bindings.Binding.{Binding}
use Rattle.ir_leaves.specs.declared.bindings.Binding.TheVariants as binding
use Rattle.json_types.specs.declared.bindings.BindingName.{BindingName}
use Rattle.json_types.specs.declared.bindings.BindingName.TheVariants as binding_name
use Rattle.json_values.specs.Form.{five_fields, given, made_of_five, named, one_field, optional}
use Rattle.json_values.specs.ReadNumbers.{u32_of}
use Rattle.json_values.specs.Variants.{variant_of, either}

-- the built-ins of which no more is said
abbrev pub built_ins : List (List ℕ × BuiltIn)
built_ins =
    (codes "BaseInstance", built_in.BaseInstance) ∷ (codes "BaseVertex", built_in.BaseVertex) ∷
    (codes "VertexIndex", built_in.VertexIndex) ∷ (codes "InstanceIndex", built_in.InstanceIndex) ∷
    (codes "DrawIndex", built_in.DrawIndex) ∷ (codes "ClipDistances", built_in.ClipDistances) ∷
    (codes "CullDistance", built_in.CullDistance) ∷ (codes "PointSize", built_in.PointSize) ∷
    (codes "PointCoord", built_in.PointCoord) ∷ (codes "ViewIndex", built_in.ViewIndex) ∷
    (codes "FragDepth", built_in.FragDepth) ∷ (codes "FrontFacing", built_in.FrontFacing) ∷
    (codes "PrimitiveIndex", built_in.PrimitiveIndex) ∷ (codes "SampleIndex", built_in.SampleIndex) ∷
    (codes "SampleMask", built_in.SampleMask) ∷ (codes "LocalInvocationIndex", built_in.LocalInvocationIndex) ∷
    (codes "GlobalInvocationId", built_in.GlobalInvocationId) ∷
    (codes "LocalInvocationId", built_in.LocalInvocationId) ∷ (codes "WorkGroupId", built_in.WorkGroupId) ∷
    (codes "WorkGroupSize", built_in.WorkGroupSize) ∷ (codes "NumWorkGroups", built_in.NumWorkGroups) ∷
    (codes "NumSubgroups", built_in.NumSubgroups) ∷ (codes "SubgroupId", built_in.SubgroupId) ∷
    (codes "SubgroupSize", built_in.SubgroupSize) ∷
    (codes "SubgroupInvocationId", built_in.SubgroupInvocationId) ∷
    (codes "CullPrimitive", built_in.CullPrimitive) ∷ (codes "PointIndex", built_in.PointIndex) ∷
    (codes "LineIndices", built_in.LineIndices) ∷ (codes "TriangleIndices", built_in.TriangleIndices) ∷
    (codes "MeshTaskSize", built_in.MeshTaskSize) ∷ (codes "RayInvocationId", built_in.RayInvocationId) ∷
    (codes "NumRayInvocations", built_in.NumRayInvocations) ∷
    (codes "InstanceCustomData", built_in.InstanceCustomData) ∷ (codes "GeometryIndex", built_in.GeometryIndex) ∷
    (codes "HitKind", built_in.HitKind) ∷ (codes "WorldRayOrigin", built_in.WorldRayOrigin) ∷
    (codes "WorldRayDirection", built_in.WorldRayDirection) ∷
    (codes "ObjectRayOrigin", built_in.ObjectRayOrigin) ∷
    (codes "ObjectRayDirection", built_in.ObjectRayDirection) ∷ (codes "RayTmin", built_in.RayTmin) ∷
    (codes "RayTCurrentMax", built_in.RayTCurrentMax) ∷ (codes "ObjectToWorld", built_in.ObjectToWorld) ∷
    (codes "WorldToObject", built_in.WorldToObject) ∷ (codes "VertexCount", built_in.VertexCount) ∷
    (codes "PrimitiveCount", built_in.PrimitiveCount) ∷ (codes "Vertices", built_in.Vertices) ∷
    (codes "Primitives", built_in.Primitives) ∷ []

-- the built-ins of which more is said
abbrev pub holding_built_ins : List (List ℕ × BuiltInName)
holding_built_ins =
    (codes "Position", built_in_name.Position) ∷ (codes "Barycentric", built_in_name.Barycentric) ∷ []

-- what a variant that holds something stands for
abbrev pub built_in_from : BuiltInName → Data → Option BuiltIn
built_in_from built_in_name.Position d = option_map built_in.Position
    (one_field (codes "invariant") as_bool d)
built_in_from built_in_name.Barycentric d = option_map built_in.Barycentric
    (one_field (codes "perspective") as_bool d)

abbrev pub built_in_of : Data → Option BuiltIn
built_in_of d = given (variant_of built_ins holding_built_ins d) (either built_in_from)

-- the interpolations
abbrev pub interpolations : List (List ℕ × Interpolation)
interpolations =
    (codes "Perspective", interpolation.Perspective) ∷ (codes "Linear", interpolation.Linear) ∷
    (codes "Flat", interpolation.Flat) ∷ (codes "PerVertex", interpolation.PerVertex) ∷ []

abbrev pub interpolation_of : Data → Option Interpolation
interpolation_of = named interpolations

-- the samplings
abbrev pub samplings : List (List ℕ × Sampling)
samplings =
    (codes "Center", sampling.Center) ∷ (codes "Centroid", sampling.Centroid) ∷
    (codes "Sample", sampling.Sample) ∷ (codes "First", sampling.First) ∷ (codes "Either", sampling.Either) ∷ []

abbrev pub sampling_of : Data → Option Sampling
sampling_of = named samplings

-- the bindings
abbrev pub bindings : List (List ℕ × BindingName)
bindings =
    (codes "BuiltIn", binding_name.BuiltIn) ∷ (codes "Location", binding_name.Location) ∷ []

abbrev pub location_of : Data → Option Binding
location_of d = made_of_five binding.Location
    (five_fields (codes "location") u32_of (codes "interpolation") (optional interpolation_of)
    (codes "sampling") (optional sampling_of) (codes "blend_src") (optional u32_of)
    (codes "per_primitive") as_bool d)

-- what a variant that holds something stands for
abbrev pub binding_from : BindingName → Data → Option Binding
binding_from binding_name.BuiltIn d = option_map binding.BuiltIn (built_in_of d)
binding_from binding_name.Location d = location_of d

abbrev pub binding_of : Data → Option Binding
binding_of d = given (variant_of [] bindings d) (either binding_from)
