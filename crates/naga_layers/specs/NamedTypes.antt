-- The types of expressions that name something are lawful: lemmas, which both layers that give types share.
use Rattle.std.specs.Prelude.{ℕ, ◌≡◌, Bool, true, false, List, Option, Some, None, length, nat_lt, slice_get, if◌then◌else◌, option_and_then}
use Rattle.std.proofs.Common.{refl}
use Rattle.std.proofs.lemmas.Bool.{ltb-true}
use Rattle.ir_types.specs.Types.{ResolutionFits}
use Rattle.ir_types.specs.declared.types.AddressSpace.{AddressSpace}
use Rattle.ir_types.specs.declared.types.AddressSpace.TheVariants as space
use Rattle.ir_types.specs.declared.types.Type.{«Type» as IrType}
use Rattle.ir_types.specs.declared.types.TypeInner.TheVariants as inner
use Rattle.ir_types.specs.declared.typifier.TypeResolution.{TypeResolution}
use Rattle.ir_types.specs.declared.typifier.TypeResolution.TheVariants.{Handle, Value}
use Rattle.ir_module.specs.declared.expressions.Expression.{Expression}
use Rattle.ir_module.specs.declared.expressions.Expression.TheVariants as e
use Rattle.ir_module.specs.declared.functions.FunctionArgument.{FunctionArgument}
use Rattle.ir_module.specs.declared.functions.LocalVariable.{LocalVariable}
use Rattle.ir_module.specs.declared.module.Constant.{Constant}
use Rattle.ir_module.specs.declared.module.GlobalVariable.{GlobalVariable}
use Rattle.ir_module.specs.declared.module.Module.{Module}
use Rattle.ir_module.specs.declared.module.Override.{Override}
use Rattle.ir_facts.specs.Lawful.{IsNoStruct}
use Rattle.layer_expressions.specs.Named.{global_type, named_type}
use Rattle.layer_shapes.specs.Resolutions.{type_at, pointer_to}

-- a type that the module has, and that is no struct as a value
abbrev pub IsLawful : List IrType → TypeResolution → Type 0
IsLawful types t = ResolutionFits (length types) t × IsNoStruct t

-- what an answer gives, where it gives something, has a property
abbrev pub OfSome : {A : Type 0} → (A → Type 0) → Option A → Type 0
OfSome P (Some x) = P x
OfSome P None = Unit {0}

pub where_some : {A : Type 0} (P : A → Type 0) (b : Bool) (x : A) → (b ≡ true → P x) → OfSome P (if b then Some x else None)
where_some P true x p = p refl
where_some P false x p = tt

pub of_and_then : {A B : Type 0} (P : B → Type 0) (f : A → Option B) (o : Option A) → ((x : A) → o ≡ Some x → OfSome P (f x))
    → OfSome P (option_and_then f o)
of_and_then P f None p = tt
of_and_then P f (Some x) p = p x refl

module _ (types : List IrType) where
  pub type_at-lawful : (t : ℕ) → OfSome (IsLawful types) (type_at (length types) t)
  type_at-lawful t =
      where_some (IsLawful types) (nat_lt t (length types)) (Handle t) (λ h. (ltb-true t (length types) h, tt))

  pub pointer_to-lawful : (t : ℕ) (p : AddressSpace) → OfSome (IsLawful types) (pointer_to (length types) t p)
  pointer_to-lawful t p =
      where_some (IsLawful types) (nat_lt t (length types)) (Value (inner.Pointer t p)) (λ h. (ltb-true t (length types) h, tt))

  pub global_type-lawful : (t : ℕ) (p : AddressSpace) → OfSome (IsLawful types) (global_type (length types) t p)
  global_type-lawful t space.Handle = type_at-lawful t
  global_type-lawful t p = pointer_to-lawful t p

module _ (m : Module) (arguments : List FunctionArgument) (locals : List LocalVariable) where
  pub named_type-lawful : (x : Expression) → OfSome (IsLawful m.types) (named_type m arguments locals x)
  named_type-lawful (e.Literal l) = (tt, tt)
  named_type-lawful (e.Constant h) =
      of_and_then (IsLawful m.types) (λ (c : Constant). type_at (length m.types) c.ty) (slice_get m.constants h)
      (λ c is. type_at-lawful m.types c.ty)
  named_type-lawful (e.Override h) =
      of_and_then (IsLawful m.types) (λ (o : Override). type_at (length m.types) o.ty) (slice_get m.overrides h)
      (λ o is. type_at-lawful m.types o.ty)
  named_type-lawful (e.ZeroValue t) = type_at-lawful m.types t
  named_type-lawful (e.Compose t hs) = type_at-lawful m.types t
  named_type-lawful (e.FunctionArgument n) =
      of_and_then (IsLawful m.types) (λ (a : FunctionArgument). type_at (length m.types) a.ty) (slice_get arguments n)
      (λ a is. type_at-lawful m.types a.ty)
  named_type-lawful (e.GlobalVariable h) =
      of_and_then (IsLawful m.types) (λ (g : GlobalVariable). global_type (length m.types) g.ty g.space)
      (slice_get m.global_variables h) (λ g is. global_type-lawful m.types g.ty g.space)
  named_type-lawful (e.LocalVariable h) =
      of_and_then (IsLawful m.types) (λ (v : LocalVariable). pointer_to (length m.types) v.ty space.Function)
      (slice_get locals h) (λ v is. pointer_to-lawful m.types v.ty space.Function)
  named_type-lawful (e.AtomicResult t c) = type_at-lawful m.types t
  named_type-lawful (e.WorkGroupUniformLoadResult t) = type_at-lawful m.types t
  named_type-lawful e.RayQueryProceedResult = (tt, tt)
  named_type-lawful e.SubgroupBallotResult = (tt, tt)
  named_type-lawful (e.SubgroupOperationResult t) = type_at-lawful m.types t
  named_type-lawful _ = tt
