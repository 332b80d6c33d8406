-- The types of accesses and loads.
use Rattle.std.specs.Prelude.{ℕ, Bool, true, false, List, Option, None, Some, Result, Err, length, slice_get, nat_lt, if◌then◌else◌, option_and_then}
use Rattle.ir_types.specs.Types.{inner_at, sized}
use Rattle.ir_types.specs.declared.types.AddressSpace.{AddressSpace}
use Rattle.ir_types.specs.declared.types.ArraySize.{ArraySize}
use Rattle.ir_types.specs.declared.types.ArraySize.TheVariants as size
use Rattle.ir_types.specs.declared.types.Type.{«Type» as IrType}
use Rattle.ir_types.specs.declared.types.TypeInner.{TypeInner}
use Rattle.ir_types.specs.declared.types.TypeInner.TheVariants as inner
use Rattle.ir_types.specs.declared.typifier.TypeResolution.{TypeResolution}
use Rattle.ir_types.specs.declared.typifier.TypeResolution.TheVariants.{Handle, Value}
use Rattle.layer_types.specs.Sizes.{components_of}
use Rattle.layer_expressions.specs.declared.rules.Rule.{Rule}
use Rattle.layer_expressions.specs.declared.rules.Rule.TheVariants as rule
use Rattle.layer_shapes.specs.Resolutions.{type_at, pointer_to}
use Rattle.layer_expressions.specs.RuleNumbers.{or_broken}
use Rattle.layer_shapes.specs.Shapes.{is_integer}

-- an item of a value: of an array what it holds, of a matrix a column, of a vector a component
abbrev pub value_item : ℕ → TypeInner → Option TypeResolution
value_item count (inner.Array base n stride) = type_at count base
value_item count (inner.BindingArray base n) = type_at count base
value_item count (inner.Matrix c r s) = Some (Value (inner.Vector r s))
value_item count (inner.Vector n s) = Some (Value (inner.Scalar s))
value_item count _ = None

-- behind a pointer, a pointer to an item, into the same space
abbrev pub pointer_item : ℕ → AddressSpace → TypeInner → Option TypeResolution
pointer_item count p (inner.Array base n stride) = pointer_to count base p
pointer_item count p (inner.BindingArray base n) = pointer_to count base p
pointer_item count p (inner.Matrix c r s) = Some (Value (inner.ValuePointer (Some r) s p))
pointer_item count p (inner.Vector n s) = Some (Value (inner.ValuePointer None s p))
pointer_item count p _ = None

-- an item of a value, or of what a pointer points to
abbrev pub item_of : List IrType → TypeInner → Option TypeResolution
item_of types (inner.Pointer b p) = option_and_then (pointer_item (length types) p) (inner_at types b)
item_of types (inner.ValuePointer (Some n) s p) = Some (Value (inner.ValuePointer None s p))
item_of types i = value_item (length types) i

-- an index is an integer scalar
abbrev pub is_index : TypeInner → Bool
is_index (inner.Scalar s) = is_integer s.kind
is_index _ = false

-- Access: an item
abbrev pub access_by : List IrType → TypeInner → Option TypeInner → Result TypeResolution Rule
access_by types base None = Err rule.Index
access_by types base (Some index) = if is_index index then or_broken rule.Access (item_of types base) else Err rule.Index

abbrev pub access_type : List IrType → Option TypeInner → Option TypeInner → Result TypeResolution Rule
access_type types None index = Err rule.Access
access_type types (Some base) index = access_by types base index

-- how many items or members there are, where the number is known
abbrev pub array_count : ArraySize → Option ℕ
array_count (size.Constant n) = Some n.value
array_count (size.Pending o) = None
array_count size.Dynamic = None

abbrev pub item_count : TypeInner → Option ℕ
item_count (inner.Vector n s) = Some (components_of n)
item_count (inner.Matrix c r s) = Some (components_of c)
item_count (inner.Array base n stride) = array_count n
item_count (inner.BindingArray base n) = array_count n
item_count (inner.Struct members span) = Some (length members)
item_count _ = None

abbrev pub count_behind : List IrType → TypeInner → Option ℕ
count_behind types (inner.Pointer b p) = option_and_then item_count (inner_at types b)
count_behind types (inner.ValuePointer (Some n) s p) = Some (components_of n)
count_behind types i = item_count i

abbrev pub is_below : Option ℕ → ℕ → Bool
is_below None k = true
is_below (Some n) k = nat_lt k n

-- a member of a struct behind a pointer, a pointer to it, into the same space
abbrev pub pointer_member : ℕ → AddressSpace → ℕ → TypeInner → Option TypeResolution
pointer_member count p k (inner.Struct members span) = option_and_then (λ m. pointer_to count m.ty p) (slice_get members k)
pointer_member count p k i = pointer_item count p i

-- a member of a struct, and else an item
abbrev pub member_of : List IrType → TypeInner → ℕ → Option TypeResolution
member_of types (inner.Struct members span) k = option_and_then (λ m. type_at (length types) m.ty) (slice_get members k)
member_of types (inner.Pointer b p) k = option_and_then (pointer_member (length types) p k) (inner_at types b)
member_of types i k = item_of types i

-- AccessIndex: a member or an item, by a number that lies below their count
abbrev pub access_index_type : List IrType → Option TypeInner → ℕ → Result TypeResolution Rule
access_index_type types None k = Err rule.Access
access_index_type types (Some base) k =
    if is_below (count_behind types base) k then or_broken rule.Access (member_of types base k) else Err rule.Bounds

-- what can be loaded: values, and arrays of a size that is known when the pipeline is made
abbrev pub is_sized_array : ArraySize → Bool
is_sized_array size.Dynamic = false
is_sized_array _ = true

abbrev pub is_loadable : TypeInner → Bool
is_loadable (inner.Scalar s) = true
is_loadable (inner.Vector n s) = true
is_loadable (inner.Matrix c r s) = true
is_loadable (inner.CooperativeMatrix s d) = true
is_loadable (inner.Struct members span) = true
is_loadable (inner.Array base n stride) = is_sized_array n
is_loadable _ = false

-- of an atomic its scalar, of what can be loaded itself
abbrev pub loaded_at : ℕ → TypeInner → Option TypeResolution
loaded_at t (inner.Atomic s) = Some (Value (inner.Scalar s))
loaded_at t i = if is_loadable i then Some (Handle t) else None

-- Load: what a pointer points to
abbrev pub loaded : List IrType → TypeInner → Option TypeResolution
loaded types (inner.Pointer b p) = option_and_then (loaded_at b) (inner_at types b)
loaded types (inner.ValuePointer n s p) = Some (Value (sized n s))
loaded types _ = None
