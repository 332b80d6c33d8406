-- Types, and what they are made from.
use Rattle.std.specs.Prelude.{ℕ, List, Option, None, Some, codes}
use Rattle.json.specs.Json.{Json, boolean, string}
use Rattle.ir_leaves.specs.declared.scalars.Scalar.{Scalar}
use Rattle.ir_types.specs.declared.types.StructMember.{StructMember}
use Rattle.ir_types.specs.declared.types.AddressSpace.{AddressSpace}
use Rattle.ir_types.specs.declared.types.AddressSpace.TheVariants as spaces
use Rattle.ir_types.specs.declared.types.ImageClass.{ImageClass}
use Rattle.ir_types.specs.declared.types.ImageClass.TheVariants as classes
use Rattle.ir_types.specs.declared.types.ArraySize.{ArraySize}
use Rattle.ir_types.specs.declared.types.ArraySize.TheVariants as array_sizes
use Rattle.ir_statements.specs.declared.operations.AtomicFunction.{AtomicFunction}
use Rattle.ir_statements.specs.declared.operations.AtomicFunction.TheVariants as atomic_functions
use Rattle.ir_statements.specs.declared.operations.SwitchValue.{SwitchValue}
use Rattle.ir_statements.specs.declared.operations.SwitchValue.TheVariants as switch_values
use Rattle.ir_leaves.specs.declared.bindings.Binding.{Binding}
use Rattle.ir_leaves.specs.declared.bindings.Binding.TheVariants as bindings
use Rattle.ir_types.specs.declared.types.TypeInner.{TypeInner}
use Rattle.ir_types.specs.declared.types.TypeInner.TheVariants as types
use Rattle.json_faults.specs.BuiltInJson.{built_in_form}
use Rattle.json_faults.specs.JsonForm.{five_fields, four_fields, holding, list_form, number_form, one_field, optional, signed_form, three_fields, two_fields, variant}
use Rattle.json_faults.specs.NameJson.{image_dimension_form, interpolation_form, sampling_form, scalar_kind_form, storage_format_form, vector_size_form}
use Rattle.json_faults.specs.SetJson.{storage_access_form}

-- a scalar: its kind, and its width in bytes
unfoldable pub scalar_form : Scalar → Json
scalar_form scalar = two_fields (codes "kind") (scalar_kind_form scalar.kind) (codes "width") (number_form scalar.width)

-- where a variable lies
unfoldable pub space_name : AddressSpace → List ℕ
space_name spaces.Function = codes "Function"
space_name spaces.Private = codes "Private"
space_name spaces.WorkGroup = codes "WorkGroup"
space_name spaces.Uniform = codes "Uniform"
space_name (spaces.Storage _) = codes "Storage"
space_name spaces.Handle = codes "Handle"
space_name spaces.Immediate = codes "Immediate"
space_name spaces.TaskPayload = codes "TaskPayload"
space_name spaces.RayPayload = codes "RayPayload"
space_name spaces.IncomingRayPayload = codes "IncomingRayPayload"

unfoldable pub space_form : AddressSpace → Json
space_form (spaces.Storage access) = holding (codes "Storage") (one_field (codes "access") (storage_access_form access))
space_form spaces.Function = string (space_name spaces.Function)
space_form spaces.Private = string (space_name spaces.Private)
space_form spaces.WorkGroup = string (space_name spaces.WorkGroup)
space_form spaces.Uniform = string (space_name spaces.Uniform)
space_form spaces.Handle = string (space_name spaces.Handle)
space_form spaces.Immediate = string (space_name spaces.Immediate)
space_form spaces.TaskPayload = string (space_name spaces.TaskPayload)
space_form spaces.RayPayload = string (space_name spaces.RayPayload)
space_form spaces.IncomingRayPayload = string (space_name spaces.IncomingRayPayload)

-- the class of an image
unfoldable pub image_class_name : ImageClass → List ℕ
image_class_name (classes.Sampled _ _) = codes "Sampled"
image_class_name (classes.Depth _) = codes "Depth"
image_class_name classes.External = codes "External"
image_class_name (classes.Storage _ _) = codes "Storage"

-- what it holds
unfoldable pub image_class_held : ImageClass → Option Json
image_class_held (classes.Sampled kind multi) =
    Some (two_fields (codes "kind") (scalar_kind_form kind) (codes "multi") (boolean multi))
image_class_held (classes.Depth multi) = Some (one_field (codes "multi") (boolean multi))
image_class_held classes.External = None
image_class_held (classes.Storage format access) =
    Some (two_fields (codes "format") (storage_format_form format) (codes "access") (storage_access_form access))

unfoldable pub image_class_form : ImageClass → Json
image_class_form class = variant (image_class_name class) (image_class_held class)

-- how many items an array has
unfoldable pub array_size_form : ArraySize → Json
array_size_form (array_sizes.Constant count) = holding (codes "Constant") (number_form count.value)
array_size_form (array_sizes.Pending size) = holding (codes "Pending") (number_form size)
array_size_form array_sizes.Dynamic = string (codes "Dynamic")

-- what an atomic operation does
unfoldable pub atomic_function_name : AtomicFunction → List ℕ
atomic_function_name atomic_functions.Add = codes "Add"
atomic_function_name atomic_functions.Subtract = codes "Subtract"
atomic_function_name atomic_functions.And = codes "And"
atomic_function_name atomic_functions.ExclusiveOr = codes "ExclusiveOr"
atomic_function_name atomic_functions.InclusiveOr = codes "InclusiveOr"
atomic_function_name atomic_functions.Min = codes "Min"
atomic_function_name atomic_functions.Max = codes "Max"
atomic_function_name (atomic_functions.Exchange _) = codes "Exchange"

unfoldable pub atomic_function_form : AtomicFunction → Json
atomic_function_form (atomic_functions.Exchange compare) =
    holding (codes "Exchange") (one_field (codes "compare") (optional number_form compare))
atomic_function_form function = string (atomic_function_name function)

-- the value of a case
unfoldable pub switch_value_form : SwitchValue → Json
switch_value_form (switch_values.I32 value) = holding (codes "I32") (signed_form value)
switch_value_form (switch_values.U32 value) = holding (codes "U32") (number_form value)
switch_value_form switch_values.Default = string (codes "Default")

-- what an input or output is bound to
unfoldable pub binding_form : Binding → Json
binding_form (bindings.BuiltIn built_in) = holding (codes "BuiltIn") (built_in_form built_in)
binding_form (bindings.Location location interpolation sampling blend_src per_primitive) =
    holding (codes "Location") (five_fields (codes "location") (number_form location)
    (codes "interpolation") (optional interpolation_form interpolation) (codes "sampling") (optional sampling_form sampling)
    (codes "blend_src") (optional number_form blend_src) (codes "per_primitive") (boolean per_primitive))

-- a member of a struct
unfoldable pub member_form : StructMember → Json
member_form member =
    four_fields (codes "name") (optional string member.name) (codes "ty") (number_form member.ty)
    (codes "binding") (optional binding_form member.binding) (codes "offset") (number_form member.offset)

-- a type without its name
unfoldable pub inner_name : TypeInner → List ℕ
inner_name (types.Scalar _) = codes "Scalar"
inner_name (types.Vector _ _) = codes "Vector"
inner_name (types.Matrix _ _ _) = codes "Matrix"
inner_name (types.CooperativeMatrix _ _) = codes "CooperativeMatrix"
inner_name (types.Atomic _) = codes "Atomic"
inner_name (types.Pointer _ _) = codes "Pointer"
inner_name (types.ValuePointer _ _ _) = codes "ValuePointer"
inner_name (types.Array _ _ _) = codes "Array"
inner_name (types.Struct _ _) = codes "Struct"
inner_name (types.Image _ _ _) = codes "Image"
inner_name (types.Sampler _) = codes "Sampler"
inner_name (types.AccelerationStructure _) = codes "AccelerationStructure"
inner_name (types.RayQuery _) = codes "RayQuery"
inner_name (types.BindingArray _ _) = codes "BindingArray"

-- what it holds
unfoldable pub inner_held : TypeInner → Json
inner_held (types.Scalar scalar) = scalar_form scalar
inner_held (types.Vector size scalar) = two_fields (codes "size") (vector_size_form size) (codes "scalar") (scalar_form scalar)
inner_held (types.Matrix columns rows scalar) =
    three_fields (codes "columns") (vector_size_form columns) (codes "rows") (vector_size_form rows)
    (codes "scalar") (scalar_form scalar)
inner_held (types.CooperativeMatrix scalar detail) =
    two_fields (codes "scalar") (scalar_form scalar) (codes "detail") (number_form detail)
inner_held (types.Atomic scalar) = scalar_form scalar
inner_held (types.Pointer base space) = two_fields (codes "base") (number_form base) (codes "space") (space_form space)
inner_held (types.ValuePointer size scalar space) =
    three_fields (codes "size") (optional vector_size_form size) (codes "scalar") (scalar_form scalar)
    (codes "space") (space_form space)
inner_held (types.Array base size stride) =
    three_fields (codes "base") (number_form base) (codes "size") (array_size_form size) (codes "stride") (number_form stride)
inner_held (types.Struct members span) =
    two_fields (codes "members") (list_form member_form members) (codes "span") (number_form span)
inner_held (types.Image dim arrayed class) =
    three_fields (codes "dim") (image_dimension_form dim) (codes "arrayed") (boolean arrayed)
    (codes "class") (image_class_form class)
inner_held (types.Sampler comparison) = one_field (codes "comparison") (boolean comparison)
inner_held (types.AccelerationStructure vertex_return) = one_field (codes "vertex_return") (boolean vertex_return)
inner_held (types.RayQuery vertex_return) = one_field (codes "vertex_return") (boolean vertex_return)
inner_held (types.BindingArray base size) = two_fields (codes "base") (number_form base) (codes "size") (array_size_form size)

unfoldable pub type_form : TypeInner → Json
type_form inner = holding (inner_name inner) (inner_held inner)
