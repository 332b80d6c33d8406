-- What is named is there: facts of a context that fits.
use Rattle.std.proofs.Common.{◌≡◌, ℕ, List, All, Option, None, Some, length, refl, subst}
use Rattle.std.proofs.lemmas.Option.{slice_get_within, get_or_from_slice_get}
use Rattle.std.specs.Option.{option_map}
use Rattle.std.specs.Prelude.{slice_get, option_and_then, IfSome}
use Rattle.ir_facts.proofs.Callers.{types_name_each_other}
use Rattle.ir_types.specs.Types.{NamesTypesBelow, NameEachOther, ResolutionFits, inner_at, resolved}
use Rattle.ir_types.specs.declared.types.Type.{«Type» as IrType}
use Rattle.ir_types.specs.declared.typifier.TypeResolution.{TypeResolution}
use Rattle.ir_types.specs.declared.typifier.TypeResolution.TheVariants.{Handle, Value}
use Rattle.check_scope.specs.Context.{Context, ContextFits}
use Rattle.check_scope.specs.ExpressionTypes.{resolution_at, type_at}

-- what holds of each item holds of the one at an index
pub all_at : {A : Type 0} (P : A → Type 0) (xs : List A) (k : ℕ) (x : A) → All P xs → slice_get xs k ≡ Some x → P x
all_at P xs k x all e = subst P (get_or_from_slice_get xs k x x e) (all k x (slice_get_within xs k x e))

module _ (context : Context) (fits : ContextFits context) where
  pub types_fit : NameEachOther context.program.types
  types_fit = types_name_each_other context.program fits.types

  pub resolution_fits : (h : ℕ) (r : TypeResolution) → resolution_at context h ≡ Some r → ResolutionFits (length context.program.types) r
  resolution_fits h r e = all_at (ResolutionFits (length context.program.types)) context.info.expression_types h r fits.types_in_range e

  pub inner_fits : (t : ℕ) → IfSome (inner_at context.program.types t) (NamesTypesBelow (length context.program.types))
  inner_fits t = go (slice_get context.program.types t) refl
    where
      go : (o : Option IrType) → slice_get context.program.types t ≡ o → IfSome (option_map (λ ty. ty.inner) o) (NamesTypesBelow (length context.program.types))
      go None e = tt
      go (Some ty) e = all_at (λ ty. NamesTypesBelow (length context.program.types) ty.inner) context.program.types t ty types_fit e

  pub type_fits : (h : ℕ) → IfSome (type_at context h) (NamesTypesBelow (length context.program.types))
  type_fits h = go (resolution_at context h) refl
    where
      go : (o : Option TypeResolution) → resolution_at context h ≡ o → IfSome (option_and_then (resolved context.program.types) o) (NamesTypesBelow (length context.program.types))
      go None e = tt
      go (Some (Handle t)) e = inner_fits t
      go (Some (Value i)) e = resolution_fits h (Value i) e
