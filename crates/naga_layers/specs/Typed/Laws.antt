-- The laws that the layer which computes keeps as a lower layer.
use Rattle.std.specs.Prelude.{ℕ, ◌≡◌, ◌+◌, ◌++◌, ◌∷◌, [], Bool, true, false, List, All, Option, Some, None, Result, Ok, Err, ◌<◌, length, slice_get, if◌then◌else◌}
use Rattle.std.specs.Option.{option_map}
use Rattle.std.proofs.Common.{refl, ◌∙◌, arith}
use Rattle.std.proofs.lemmas.List.{length-append}
use Rattle.std.proofs.lemmas.List.Elements.{All-push, All-nil}
use Rattle.std.proofs.lemmas.Option.{slice_get_within}
use Rattle.std.proofs.lemmas.Result.{IfOk-at_ok}
use Rattle.ir_types.specs.Types.{ResolutionFits, inner_at}
use Rattle.ir_types.specs.declared.types.AddressSpace.{AddressSpace}
use Rattle.ir_leaves.specs.declared.scalars.Scalar.{Scalar}
use Rattle.ir_types.specs.declared.types.StructMember.{StructMember}
use Rattle.ir_types.specs.declared.types.Type.{«Type» as IrType}
use Rattle.ir_types.specs.declared.types.TypeInner.{TypeInner}
use Rattle.ir_types.specs.declared.types.TypeInner.TheVariants as inner
use Rattle.ir_types.specs.declared.typifier.TypeResolution.{TypeResolution}
use Rattle.ir_types.specs.declared.typifier.TypeResolution.TheVariants.{Handle}
use Rattle.ir_module.specs.declared.expressions.Expression.{Expression}
use Rattle.ir_module.specs.declared.expressions.Expression.TheVariants as e
use Rattle.ir_module.specs.declared.functions.Function.{Function}
use Rattle.ir_module.specs.declared.functions.FunctionArgument.{FunctionArgument}
use Rattle.ir_module.specs.declared.functions.FunctionResult.{FunctionResult}
use Rattle.ir_module.specs.declared.functions.LocalVariable.{LocalVariable}
use Rattle.ir_module.specs.declared.module.Module.{Module}
use Rattle.ir_module.specs.Operands.{listed_operands}
use Rattle.ir_facts.specs.declared.valid.info.FunctionInfo.{FunctionInfo}
use Rattle.ir_facts.specs.declared.valid.info.ModuleInfo.{ModuleInfo}
use Rattle.ir_facts.specs.Lawful.{IsNoStruct}
use Rattle.layer_expressions.specs.declared.rules.Rule.{Rule}
use Rattle.layer_expressions.specs.declared.rules.Rule.TheVariants as rule
use Rattle.layer_shapes.specs.declared.shapes.Shape.{Shape}
use Rattle.layer_shapes.specs.declared.shapes.Shape.TheVariants as shape
use Rattle.layer_expressions.specs.declared.types.Untyped.{Untyped}
use Rattle.layer_expressions.specs.Access.{value_item, pointer_item, item_of, is_index, access_type, count_behind, is_below, pointer_member, member_of, access_index_type, is_loadable, loaded_at, loaded}
use Rattle.layer_expressions.specs.Loading.{load_type, query_type}
use Rattle.layer_expressions.specs.Named.{result_type, callee_type, named_type}
use Rattle.layer_shapes.specs.Resolutions.{type_at, pointer_to}
use Rattle.layer_expressions.specs.OperandTypes.{arguments_of, type_of_operand}
use Rattle.layer_expressions.specs.declared.operands.Arguments.{Arguments}
use Rattle.layer_expressions.specs.Others.{cooperative_load, cooperative_of, length_type, has_length, matrix_of, multiply_add, scalar_behind}
use Rattle.layer_expressions.specs.RuleNumbers.{or_broken}
use Rattle.layer_expressions.specs.Sampling.{sample_type}
use Rattle.layer_shapes.specs.Shapes.{value_of}
use Rattle.layer_expressions.specs.ComputedTypes.{computed, rule_of, some_shape, shape_value, computed_type, load_value, named, is_computed, plain_type, type_of, or_untyped, types_from, types_of}
use Rattle.naga_layers.specs.Lengths.{uses_of-length}
use Rattle.naga_layers.specs.NamedTypes.{IsLawful, OfSome, where_some, of_and_then, type_at-lawful, pointer_to-lawful, named_type-lawful}
use Rattle.naga_layers.specs.Typed.Meaning.{computed_info, info_of_types, with_types}

-- what an answer gives, where it gives something, has a property
abbrev OfOk : {A E : Type 0} → (A → Type 0) → Result A E → Type 0
OfOk P (Ok x) = P x
OfOk P (Err error) = Unit {0}

of_or_broken : (P : TypeResolution → Type 0) (r : Rule) (o : Option TypeResolution) → OfSome P o → OfOk P (or_broken r o)
of_or_broken P r None h = tt
of_or_broken P r (Some x) h = h

of_if : {A E : Type 0} (P : A → Type 0) (b : Bool) (x y : Result A E) → OfOk P x → OfOk P y → OfOk P (if b then x else y)
of_if P true x y h k = h
of_if P false x y h k = k

module _ (types : List IrType) where
  value_of-lawful : (x : Shape) → IsLawful types (value_of x)
  value_of-lawful (shape.Scalar s) = (tt, tt)
  value_of-lawful (shape.Vector n s) = (tt, tt)
  value_of-lawful (shape.Matrix c r s) = (tt, tt)

  -- accesses
  value_item-lawful : (i : TypeInner) → OfSome (IsLawful types) (value_item (length types) i)
  value_item-lawful (inner.Array base n stride) = type_at-lawful types base
  value_item-lawful (inner.BindingArray base n) = type_at-lawful types base
  value_item-lawful (inner.Matrix c r s) = (tt, tt)
  value_item-lawful (inner.Vector n s) = (tt, tt)
  value_item-lawful _ = tt

  pointer_item-lawful : (p : AddressSpace) (i : TypeInner) → OfSome (IsLawful types) (pointer_item (length types) p i)
  pointer_item-lawful p (inner.Array base n stride) = pointer_to-lawful types base p
  pointer_item-lawful p (inner.BindingArray base n) = pointer_to-lawful types base p
  pointer_item-lawful p (inner.Matrix c r s) = (tt, tt)
  pointer_item-lawful p (inner.Vector n s) = (tt, tt)
  pointer_item-lawful p _ = tt

  item_of-lawful : (i : TypeInner) → OfSome (IsLawful types) (item_of types i)
  item_of-lawful (inner.Pointer b p) =
      of_and_then (IsLawful types) (pointer_item (length types) p) (inner_at types b) (λ i is. pointer_item-lawful p i)
  item_of-lawful (inner.ValuePointer (Some n) s p) = (tt, tt)
  item_of-lawful (inner.ValuePointer None s p) = tt
  item_of-lawful i = value_item-lawful i

  access_type-lawful : (base index : Option TypeInner) → OfOk (IsLawful types) (access_type types base index)
  access_type-lawful None index = tt
  access_type-lawful (Some base) None = tt
  access_type-lawful (Some base) (Some index) =
      of_if (IsLawful types) (is_index index) (or_broken rule.Access (item_of types base)) (Err rule.Index)
      (of_or_broken (IsLawful types) rule.Access (item_of types base) (item_of-lawful base)) tt

  pointer_member-lawful : (p : AddressSpace) (k : ℕ) (i : TypeInner)
      → OfSome (IsLawful types) (pointer_member (length types) p k i)
  pointer_member-lawful p k (inner.Struct members span) =
      of_and_then (IsLawful types) (λ (m : StructMember). pointer_to (length types) m.ty p) (slice_get members k)
      (λ m is. pointer_to-lawful types m.ty p)
  pointer_member-lawful p k i = pointer_item-lawful p i

  member_of-lawful : (i : TypeInner) (k : ℕ) → OfSome (IsLawful types) (member_of types i k)
  member_of-lawful (inner.Struct members span) k =
      of_and_then (IsLawful types) (λ (m : StructMember). type_at (length types) m.ty) (slice_get members k)
      (λ m is. type_at-lawful types m.ty)
  member_of-lawful (inner.Pointer b p) k =
      of_and_then (IsLawful types) (pointer_member (length types) p k) (inner_at types b) (λ i is. pointer_member-lawful p k i)
  member_of-lawful i k = item_of-lawful i

  access_index_type-lawful : (base : Option TypeInner) (k : ℕ) → OfOk (IsLawful types) (access_index_type types base k)
  access_index_type-lawful None k = tt
  access_index_type-lawful (Some base) k =
      of_if (IsLawful types) (is_below (count_behind types base) k) (or_broken rule.Access (member_of types base k))
      (Err rule.Bounds) (of_or_broken (IsLawful types) rule.Access (member_of types base k) (member_of-lawful base k)) tt

  -- loads
  there : (o : Option IrType) (i : TypeInner) → option_map (λ t. t.inner) o ≡ Some i → (t : IrType) × (o ≡ Some t)
  there None i h = absurd cc
  there (Some t) i h = (t, refl)

  inner_at-within : (t : ℕ) (i : TypeInner) → inner_at types t ≡ Some i → t < length types
  inner_at-within t i h =
      let found = there (slice_get types t) i h in
      slice_get_within types t found.0 found.1

  loaded_at-lawful : (t : ℕ) (i : TypeInner) → inner_at types t ≡ Some i → OfSome (IsLawful types) (loaded_at t i)
  loaded_at-lawful t (inner.Atomic s) h = (tt, tt)
  loaded_at-lawful t i h =
      where_some (IsLawful types) (is_loadable i) (Handle t) (λ can. (inner_at-within t i h, tt))

  loaded-lawful : (i : TypeInner) → OfSome (IsLawful types) (loaded types i)
  loaded-lawful (inner.Pointer b p) =
      of_and_then (IsLawful types) (loaded_at b) (inner_at types b) (λ i is. loaded_at-lawful b i is)
  loaded-lawful (inner.ValuePointer None s p) = (tt, tt)
  loaded-lawful (inner.ValuePointer (Some n) s p) = (tt, tt)
  loaded-lawful _ = tt

  load_value-lawful : (pointer : Option TypeInner) → OfOk (IsLawful types) (load_value types pointer)
  load_value-lawful None = tt
  load_value-lawful (Some i) = of_or_broken (IsLawful types) rule.Load (loaded types i) (loaded-lawful i)

  -- what is computed by shapes
  shape_value-lawful : (r : Result Shape Rule) → OfOk (IsLawful types) (shape_value r)
  shape_value-lawful (Ok x) = value_of-lawful x
  shape_value-lawful (Err broken) = tt

  some_shape-lawful : (k : Rule) (r : Result (Option Shape) Rule) → OfOk (IsLawful types) (some_shape k r)
  some_shape-lawful k (Ok (Some x)) = value_of-lawful x
  some_shape-lawful k (Ok None) = tt
  some_shape-lawful k (Err broken) = tt

  computed_type-lawful : (x : Expression) (given : Option Arguments) → OfOk (IsLawful types) (computed_type x given)
  computed_type-lawful x None = tt
  computed_type-lawful x (Some given) = some_shape-lawful (rule_of x) (computed x given)

  -- lengths of arrays and cooperative operations
  length_type-lawful : (earlier : List TypeResolution) (hs : List ℕ) → OfOk (IsLawful types) (length_type types earlier hs)
  length_type-lawful earlier [] = tt
  length_type-lawful earlier (h ∷ []) =
      of_if (IsLawful types) (has_length types (type_of_operand types earlier h)) _ (Err rule.ArrayLength) (tt, tt) tt
  length_type-lawful earlier (h ∷ k ∷ hs) = tt

  matrix_of-lawful : (detail : ℕ) (s : Option Scalar) → OfOk (IsLawful types) (matrix_of detail s)
  matrix_of-lawful detail None = tt
  matrix_of-lawful detail (Some s) = (tt, tt)

  cooperative_load-lawful : (earlier : List TypeResolution) (hs : List ℕ) (detail : ℕ)
      → OfOk (IsLawful types) (cooperative_load types earlier hs detail)
  cooperative_load-lawful earlier [] detail = tt
  cooperative_load-lawful earlier (h ∷ hs) detail =
      matrix_of-lawful detail (scalar_behind types (type_of_operand types earlier h))

  cooperative_of-lawful : (i : Option TypeInner) → OfSome (IsLawful types) (cooperative_of i)
  cooperative_of-lawful None = tt
  cooperative_of-lawful (Some (inner.CooperativeMatrix s d)) = (tt, tt)
  cooperative_of-lawful (Some _) = tt

  multiply_add-lawful : (earlier : List TypeResolution) (hs : List ℕ) → OfOk (IsLawful types) (multiply_add types earlier hs)
  multiply_add-lawful earlier [] = tt
  multiply_add-lawful earlier (a ∷ []) = tt
  multiply_add-lawful earlier (a ∷ b ∷ []) = tt
  multiply_add-lawful earlier (a ∷ b ∷ c ∷ []) =
      let third = cooperative_of (type_of_operand types earlier c) in
      of_if (IsLawful types) _ (or_broken rule.Cooperative third) (Err rule.Cooperative)
      (of_or_broken (IsLawful types) rule.Cooperative third (cooperative_of-lawful (type_of_operand types earlier c))) tt
  multiply_add-lawful earlier (a ∷ b ∷ c ∷ d ∷ hs) = tt

  -- results of calls
  result_type-lawful : (r : Option FunctionResult) → OfOk (IsLawful types) (result_type (length types) r)
  result_type-lawful None = tt
  result_type-lawful (Some r) = of_or_broken (IsLawful types) rule.Named (type_at (length types) r.ty) (type_at-lawful types r.ty)

  callee_type-lawful : (f : Option Function) → OfOk (IsLawful types) (callee_type (length types) f)
  callee_type-lawful None = tt
  callee_type-lawful (Some f) = result_type-lawful f.result

module _ (m : Module) (arguments : List FunctionArgument) (locals : List LocalVariable) where
  plain_type-lawful : (earlier : List TypeResolution) (x : Expression)
      → OfOk (IsLawful m.types) (plain_type m arguments locals earlier x)
  plain_type-lawful earlier x =
      let given = arguments_of m.types earlier (listed_operands x) in
      of_if (IsLawful m.types) (is_computed x) (computed_type x given) (named m arguments locals x)
      (computed_type-lawful m.types x given)
      (of_or_broken (IsLawful m.types) rule.Named (named_type m arguments locals x) (named_type-lawful m arguments locals x))

  type_of-lawful : (xs : List Expression) (earlier : List TypeResolution) (x : Expression)
      → OfOk (IsLawful m.types) (type_of m arguments locals xs earlier x)
  type_of-lawful xs earlier (e.Access base index) =
      access_type-lawful m.types (type_of_operand m.types earlier base) (type_of_operand m.types earlier index)
  type_of-lawful xs earlier (e.AccessIndex base k) =
      access_index_type-lawful m.types (type_of_operand m.types earlier base) k
  type_of-lawful xs earlier (e.Load pointer) = load_value-lawful m.types (type_of_operand m.types earlier pointer)
  type_of-lawful xs earlier (e.CallResult f) = callee_type-lawful m.types (slice_get m.functions f)
  type_of-lawful xs earlier (e.ImageSample d hs) = shape_value-lawful m.types (sample_type m.types xs earlier hs d)
  type_of-lawful xs earlier (e.ImageLoad d hs) = shape_value-lawful m.types (load_type m.types xs earlier hs d)
  type_of-lawful xs earlier (e.ImageQuery d hs) = shape_value-lawful m.types (query_type m.types xs earlier hs d)
  type_of-lawful xs earlier (e.ArrayLength d hs) = length_type-lawful m.types earlier hs
  type_of-lawful xs earlier (e.RayQueryGetIntersection d hs) = tt
  type_of-lawful xs earlier (e.RayQueryVertexPositions d hs) = tt
  type_of-lawful xs earlier (e.CooperativeLoad d hs) = cooperative_load-lawful m.types earlier hs d
  type_of-lawful xs earlier (e.CooperativeMultiplyAdd d hs) = multiply_add-lawful m.types earlier hs
  type_of-lawful xs earlier x = plain_type-lawful earlier x

  -- the types of so many expressions, each lawful
  abbrev AreTypes : ℕ → List TypeResolution → Type 0
  AreTypes n types = All (IsLawful m.types) types × (length types ≡ n)

  of_or_untyped : (n h : ℕ) (next : TypeResolution → Result (List TypeResolution) Untyped) (r : Result TypeResolution Rule)
      → OfOk (IsLawful m.types) r → ((t : TypeResolution) → IsLawful m.types t → OfOk (AreTypes n) (next t))
      → OfOk (AreTypes n) (or_untyped h next r)
  of_or_untyped n h next (Ok t) lawful p = p t lawful
  of_or_untyped n h next (Err broken) lawful p = tt

  as_many : (n k : ℕ) (r : Result (List TypeResolution) Untyped) → n ≡ k → OfOk (AreTypes n) r → OfOk (AreTypes k) r
  as_many n k (Ok types) e h = (h.0, h.1 ∙ e)
  as_many n k (Err untyped) e h = tt

  types_from-lawful : (xs : List Expression) (earlier : List TypeResolution) (rest : List Expression)
      → All (IsLawful m.types) earlier
      → OfOk (AreTypes (length earlier + length rest)) (types_from m arguments locals xs earlier rest)
  unfolding types_from
  types_from-lawful xs earlier [] all = (all, omega arith)
  types_from-lawful xs earlier (x ∷ rest) all =
      let n = length earlier + length (x ∷ rest) in
      of_or_untyped n (length earlier) (λ t. types_from m arguments locals xs (earlier ++ t ∷ []) rest)
      (type_of m arguments locals xs earlier x) (type_of-lawful xs earlier x) (λ t lawful.
      let more = types_from-lawful xs (earlier ++ t ∷ []) rest (All-push (IsLawful m.types) earlier t all lawful) in
      as_many (length (earlier ++ t ∷ []) + length rest) n (types_from m arguments locals xs (earlier ++ t ∷ []) rest)
      (omega (arith, length-append earlier (t ∷ []))) more)

-- an info is of types that were found
by_types : (f : Function) (m : Module) (infos : ModuleInfo) (info : FunctionInfo) (P : FunctionInfo → Type 0)
    → ((types : List TypeResolution) → All (IsLawful m.types) types → length types ≡ length f.expressions
    → P (info_of_types f m infos types))
    → (found : Result (List TypeResolution) Untyped)
    → OfOk (AreTypes m f.arguments f.local_variables (length f.expressions)) found
    → with_types f m infos found ≡ Ok info → P info
by_types f m infos info P p (Err untyped) lawful h = absurd cc
by_types f m infos info P p (Ok types) lawful h = IfOk-at_ok P h (p types lawful.0 lawful.1)

module _ (f : Function) (m : Module) (infos : ModuleInfo) (info : FunctionInfo)
    (answered : computed_info f m infos ≡ Ok info) where
  by_answer : (P : FunctionInfo → Type 0)
      → ((types : List TypeResolution) → All (IsLawful m.types) types → length types ≡ length f.expressions
      → P (info_of_types f m infos types))
      → P info
  by_answer P p =
      let n = length f.expressions in
      let found = types_of m f.arguments f.local_variables f.expressions in
      let lawful = types_from-lawful m f.arguments f.local_variables f.expressions [] f.expressions
      (All-nil (IsLawful m.types)) in
      by_types f m infos info P p found
      (as_many m f.arguments f.local_variables (0 + n) n found (omega arith) lawful) answered

  pub one_type_each : length info.expression_types ≡ length f.expressions
  one_type_each = by_answer (λ i. length i.expression_types ≡ length f.expressions) (λ types all count. count)

  pub one_use_each : length info.global_uses ≡ length m.global_variables
  one_use_each =
      by_answer (λ i. length i.global_uses ≡ length m.global_variables) (λ types all count. uses_of-length m f infos)

  pub types_in_range : All (ResolutionFits (length m.types)) info.expression_types
  types_in_range =
      by_answer (λ i. All (ResolutionFits (length m.types)) i.expression_types) (λ types all count k d lt. (all k d lt).0)

  pub no_struct_values : All IsNoStruct info.expression_types
  no_struct_values = by_answer (λ i. All IsNoStruct i.expression_types) (λ types all count k d lt. (all k d lt).1)
