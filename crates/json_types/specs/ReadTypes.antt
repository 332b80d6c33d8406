-- Types.
use Rattle.std.specs.Prelude.{ℕ, List, [], ◌∷◌, codes, Option, option_map}
use Rattle.serde_json.specs.Data.{Data}
use Rattle.serde_json.specs.Find.{as_bool, as_str}
use Rattle.ir_types.specs.declared.types.ArraySize.{ArraySize}
use Rattle.ir_types.specs.declared.types.ArraySize.TheVariants as array_size
use Rattle.json_types.specs.declared.types.SizeName.{SizeName}
use Rattle.json_types.specs.declared.types.SizeName.TheVariants as size_name
use Rattle.ir_types.specs.declared.types.StructMember.{StructMember}
use Rattle.ir_types.specs.declared.types.TypeInner.{TypeInner}
use Rattle.ir_types.specs.declared.types.TypeInner.TheVariants as type_inner
use Rattle.json_types.specs.declared.types.TypeName.{TypeName}
use Rattle.json_types.specs.declared.types.TypeName.TheVariants as type_name
use Rattle.ir_types.specs.declared.types.Type.{«Type» as IrType}
use Rattle.ir_types.specs.declared.typifier.TypeResolution.{TypeResolution}
use Rattle.ir_types.specs.declared.typifier.TypeResolution.TheVariants as type_resolution
use Rattle.json_types.specs.declared.types.ResolutionName.{ResolutionName}
use Rattle.json_types.specs.declared.types.ResolutionName.TheVariants as resolution_name
use Rattle.json_values.specs.Form.{four_fields, given, list_of, made_of_four, made_of_three, made_of_two, one_field, optional, three_fields, two_fields}
use Rattle.json_values.specs.ReadNumbers.{nonzero_of, u32_of}
use Rattle.json_values.specs.Variants.{variant_of, either}
use Rattle.json_types.specs.Bindings.{binding_of}
use Rattle.json_types.specs.ReadImages.{image_class_of, image_dimension_of}
use Rattle.json_values.specs.Scalars.{scalar_of, vector_size_of}
use Rattle.json_types.specs.ReadSpaces.{address_space_of}

-- the size that holds nothing
abbrev pub array_sizes : List (List ℕ × ArraySize)
array_sizes =
    (codes "Dynamic", array_size.Dynamic) ∷ []

-- the sizes that hold a number or an override
abbrev pub holding_sizes : List (List ℕ × SizeName)
holding_sizes =
    (codes "Constant", size_name.Constant) ∷ (codes "Pending", size_name.Pending) ∷ []

-- what a variant that holds something stands for
abbrev pub array_size_from : SizeName → Data → Option ArraySize
array_size_from size_name.Constant d = option_map array_size.Constant (nonzero_of d)
array_size_from size_name.Pending d = option_map array_size.Pending (u32_of d)

abbrev pub array_size_of : Data → Option ArraySize
array_size_of d = given (variant_of array_sizes holding_sizes d) (either array_size_from)

-- a member of a struct
abbrev pub struct_member_of : Data → Option StructMember
struct_member_of d = made_of_four
    (λ name ty binding offset. record { name = name; ty = ty; binding = binding; offset = offset })
    (four_fields (codes "name") (optional as_str) (codes "ty") u32_of (codes "binding") (optional binding_of)
    (codes "offset") u32_of d)

-- the kinds of types
abbrev pub type_names : List (List ℕ × TypeName)
type_names =
    (codes "Scalar", type_name.Scalar) ∷ (codes "Vector", type_name.Vector) ∷
    (codes "Matrix", type_name.Matrix) ∷ (codes "CooperativeMatrix", type_name.CooperativeMatrix) ∷
    (codes "Atomic", type_name.Atomic) ∷ (codes "Pointer", type_name.Pointer) ∷
    (codes "ValuePointer", type_name.ValuePointer) ∷ (codes "Array", type_name.Array) ∷
    (codes "Struct", type_name.Struct) ∷ (codes "Image", type_name.Image) ∷
    (codes "Sampler", type_name.Sampler) ∷ (codes "AccelerationStructure", type_name.AccelerationStructure) ∷
    (codes "RayQuery", type_name.RayQuery) ∷ (codes "BindingArray", type_name.BindingArray) ∷ []

abbrev pub vector_of : Data → Option TypeInner
vector_of d = made_of_two type_inner.Vector (two_fields (codes "size") vector_size_of (codes "scalar") scalar_of d)

abbrev pub matrix_of : Data → Option TypeInner
matrix_of d = made_of_three type_inner.Matrix
    (three_fields (codes "columns") vector_size_of (codes "rows") vector_size_of (codes "scalar") scalar_of d)

abbrev pub cooperative_matrix_of : Data → Option TypeInner
cooperative_matrix_of d = made_of_two type_inner.CooperativeMatrix
    (two_fields (codes "scalar") scalar_of (codes "detail") u32_of d)

abbrev pub pointer_of : Data → Option TypeInner
pointer_of d = made_of_two type_inner.Pointer (two_fields (codes "base") u32_of (codes "space") address_space_of d)

abbrev pub value_pointer_of : Data → Option TypeInner
value_pointer_of d = made_of_three type_inner.ValuePointer
    (three_fields (codes "size") (optional vector_size_of) (codes "scalar") scalar_of (codes "space") address_space_of
    d)

abbrev pub array_of : Data → Option TypeInner
array_of d = made_of_three type_inner.Array
    (three_fields (codes "base") u32_of (codes "size") array_size_of (codes "stride") u32_of d)

abbrev pub struct_of : Data → Option TypeInner
struct_of d = made_of_two type_inner.Struct
    (two_fields (codes "members") (list_of struct_member_of) (codes "span") u32_of d)

abbrev pub image_of : Data → Option TypeInner
image_of d = made_of_three type_inner.Image
    (three_fields (codes "dim") image_dimension_of (codes "arrayed") as_bool (codes "class") image_class_of d)

abbrev pub sampler_of : Data → Option TypeInner
sampler_of d = option_map type_inner.Sampler (one_field (codes "comparison") as_bool d)

abbrev pub acceleration_structure_of : Data → Option TypeInner
acceleration_structure_of d = option_map type_inner.AccelerationStructure (one_field (codes "vertex_return") as_bool d)

abbrev pub ray_query_of : Data → Option TypeInner
ray_query_of d = option_map type_inner.RayQuery (one_field (codes "vertex_return") as_bool d)

abbrev pub binding_array_of : Data → Option TypeInner
binding_array_of d = made_of_two type_inner.BindingArray
    (two_fields (codes "base") u32_of (codes "size") array_size_of d)

-- what a variant that holds something stands for
abbrev pub type_inner_from : TypeName → Data → Option TypeInner
type_inner_from type_name.Scalar d = option_map type_inner.Scalar (scalar_of d)
type_inner_from type_name.Vector d = vector_of d
type_inner_from type_name.Matrix d = matrix_of d
type_inner_from type_name.CooperativeMatrix d = cooperative_matrix_of d
type_inner_from type_name.Atomic d = option_map type_inner.Atomic (scalar_of d)
type_inner_from type_name.Pointer d = pointer_of d
type_inner_from type_name.ValuePointer d = value_pointer_of d
type_inner_from type_name.Array d = array_of d
type_inner_from type_name.Struct d = struct_of d
type_inner_from type_name.Image d = image_of d
type_inner_from type_name.Sampler d = sampler_of d
type_inner_from type_name.AccelerationStructure d = acceleration_structure_of d
type_inner_from type_name.RayQuery d = ray_query_of d
type_inner_from type_name.BindingArray d = binding_array_of d

abbrev pub type_inner_of : Data → Option TypeInner
type_inner_of d = given (variant_of [] type_names d) (either type_inner_from)

-- a type of a module
abbrev pub type_of : Data → Option IrType
type_of d = made_of_two (λ name inner. record { name = name; inner = inner })
    (two_fields (codes "name") (optional as_str) (codes "inner") type_inner_of d)

-- types by handle and by value
abbrev pub resolutions : List (List ℕ × ResolutionName)
resolutions =
    (codes "Handle", resolution_name.Handle) ∷ (codes "Value", resolution_name.Value) ∷ []

-- what a variant that holds something stands for
abbrev pub type_resolution_from : ResolutionName → Data → Option TypeResolution
type_resolution_from resolution_name.Handle d = option_map type_resolution.Handle (u32_of d)
type_resolution_from resolution_name.Value d = option_map type_resolution.Value (type_inner_of d)

abbrev pub type_resolution_of : Data → Option TypeResolution
type_resolution_of d = given (variant_of [] resolutions d) (either type_resolution_from)
