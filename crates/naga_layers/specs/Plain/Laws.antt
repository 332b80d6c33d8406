-- The laws that the plain layer keeps as a lower layer.
use Rattle.std.specs.Prelude.{ℕ, ◌≡◌, ◌+◌, ◌++◌, ◌∷◌, [], List, All, Option, Some, None, Result, Ok, Err, length, replicate, slice_get, slice_set, option_and_then}
use Rattle.std.proofs.Common.{refl, ◌∙◌, subst, arith}
use Rattle.std.proofs.lemmas.List.{length-append, length-set, length-replicate}
use Rattle.std.proofs.lemmas.List.Elements.{All-push, All-nil}
use Rattle.std.proofs.lemmas.Option.{slice_get_within, get_or_from_slice_get, option_and_then_some, same_Some}
use Rattle.std.proofs.lemmas.Result.{IfOk-at_ok}
use Rattle.ir_flags.specs.Bits.{READ, NO_USE}
use Rattle.ir_types.specs.Types.{ResolutionFits, pointer_base_of, resolved}
use Rattle.ir_module.specs.declared.expressions.Expression.{Expression}
use Rattle.ir_module.specs.declared.expressions.Expression.TheVariants as e
use Rattle.ir_module.specs.declared.functions.Function.{Function}
use Rattle.ir_module.specs.declared.functions.FunctionResult.{FunctionResult}
use Rattle.ir_module.specs.declared.module.Module.{Module}
use Rattle.ir_types.specs.declared.types.TypeInner.{TypeInner}
use Rattle.ir_types.specs.declared.types.TypeInner.TheVariants as inner
use Rattle.ir_types.specs.declared.typifier.TypeResolution.{TypeResolution}
use Rattle.ir_types.specs.declared.typifier.TypeResolution.TheVariants.{Handle, Value}
use Rattle.ir_flags.specs.declared.valid.GlobalUse.{GlobalUse}
use Rattle.ir_facts.specs.declared.valid.info.FunctionInfo.{FunctionInfo}
use Rattle.ir_facts.specs.Lawful.{IsNoStruct}
use Rattle.ir_errors.specs.declared.function.FunctionError.{FunctionError}
use Rattle.ir_errors.specs.declared.function.FunctionError.TheVariants.{Expression as InExpression}
use Rattle.ir_errors.specs.declared.expression.ExpressionError.TheVariants.{Lower}
use Rattle.naga_layers.specs.Plain.Infos.{plain_info, info_of_types, with_types}
use Rattle.layer_expressions.specs.Named.{named_type}
use Rattle.layer_shapes.specs.Resolutions.{type_at}
use Rattle.naga_layers.specs.NamedTypes.{IsLawful, OfSome, named_type-lawful, type_at-lawful}
use Rattle.naga_layers.specs.Plain.Types.{known_type, loaded_type, own_type, type_of, or_refuse, types_from}
use Rattle.naga_layers.specs.Plain.Uses.{with_all_named}

-- what holds of each item holds of the one at an index
at_index : {A : Type 0} (P : A → Type 0) (xs : List A) (k : ℕ) (x : A) → All P xs → slice_get xs k ≡ Some x → P x
at_index P xs k x all e = subst P (get_or_from_slice_get xs k x x e) (all k x (slice_get_within xs k x e))

-- what is found in an option, of which all that may be found is lawful
found_lawful : (m : Module) (o : Option TypeResolution) (r : TypeResolution) → OfSome (IsLawful m.types) o → o ≡ Some r
    → IsLawful m.types r
found_lawful m (Some x) r lawful h = subst (IsLawful m.types) (same_Some x r h) lawful
found_lawful m None r lawful h = absurd cc

found_type : (m : Module) (t : ℕ) (r : TypeResolution) → type_at (length m.types) t ≡ Some r → IsLawful m.types r
found_type m t r h = found_lawful m (type_at (length m.types) t) r (type_at-lawful m.types t) h

value_is : (m : Module) (i : TypeInner) (r : TypeResolution) → IsLawful m.types (Value i) → Some (Value i) ≡ Some r
    → IsLawful m.types r
value_is m i r h e = found_lawful m (Some (Value i)) r h e

-- what a pointer points to
known_type-lawful : (m : Module) (i : TypeInner) (base r : TypeResolution) → pointer_base_of i ≡ Some base
    → known_type m base ≡ Some r → IsLawful m.types r
known_type-lawful m i (Handle t) r h e = found_type m t r e
known_type-lawful m (inner.ValuePointer None s p) (Value b) r h e = value_is m (inner.Scalar s) r (tt, tt) (h ∙ e)
known_type-lawful m (inner.ValuePointer (Some n) s p) (Value b) r h e = value_is m (inner.Vector n s) r (tt, tt) (h ∙ e)
known_type-lawful m i (Value b) r h e = absurd cc

loaded_type-lawful : (m : Module) (pointer r : TypeResolution) → loaded_type m pointer ≡ Some r → IsLawful m.types r
loaded_type-lawful m pointer r e =
    option_and_then_some (known_type m) (option_and_then pointer_base_of (resolved m.types pointer)) r e (λ base is known.
    option_and_then_some pointer_base_of (resolved m.types pointer) base is (λ i there points.
    known_type-lawful m i base r points known))

own_type-lawful : (m : Module) (f : Function) (x : Expression) (r : TypeResolution) → own_type m f x ≡ Some r → IsLawful m.types r
own_type-lawful m f (e.CallResult c) r h =
    option_and_then_some _ _ r h (λ (d : FunctionResult) there is. found_type m d.ty r is)
own_type-lawful m f x r h =
    found_lawful m (named_type m f.arguments f.local_variables x) r (named_type-lawful m f.arguments f.local_variables x) h

type_of-lawful : (m : Module) (f : Function) (earlier : List TypeResolution) (x : Expression) (r : TypeResolution)
    → All (IsLawful m.types) earlier → type_of m f earlier x ≡ Some r → IsLawful m.types r
type_of-lawful m f earlier (e.Load p) r all h = option_and_then_some _ _ r h (λ t there is. loaded_type-lawful m t r is)
type_of-lawful m f earlier (e.Unary d hs) r all h =
    option_and_then_some _ _ r h (λ k there is. at_index (IsLawful m.types) earlier k r all is)
type_of-lawful m f earlier x r all h = own_type-lawful m f x r h

-- where nothing is refused there is a type
or_refuse-ok : {A P : Type 0} (fault : FunctionError) (next : TypeResolution → Result A FunctionError)
    (o : Option TypeResolution) (y : A) → or_refuse fault next o ≡ Ok y
    → ((t : TypeResolution) → o ≡ Some t → next t ≡ Ok y → P) → P
or_refuse-ok fault next None y h p = absurd cc
or_refuse-ok fault next (Some t) y h p = p t refl h

-- each type that is found is lawful, and there is one for each expression
types_from-lawful : (m : Module) (f : Function) (earlier : List TypeResolution) (xs : List Expression)
    (types : List TypeResolution) → All (IsLawful m.types) earlier → types_from m f earlier xs ≡ Ok types
    → All (IsLawful m.types) types × (length types ≡ length earlier + length xs)
unfolding types_from
types_from-lawful m f earlier [] types all h =
    IfOk-at_ok (λ ts. All (IsLawful m.types) ts × (length ts ≡ length earlier + 0)) h (all, omega arith)
types_from-lawful m f earlier (x ∷ rest) types all h =
    let next = λ (t : TypeResolution). types_from m f (earlier ++ t ∷ []) rest in
    or_refuse-ok (InExpression (length earlier) (Lower 1)) next (type_of m f earlier x) types h (λ t is found.
    let lawful = All-push (IsLawful m.types) earlier t all (type_of-lawful m f earlier x t all is) in
    let more = types_from-lawful m f (earlier ++ t ∷ []) rest types lawful found in
    (more.0, omega (arith, more.1, length-append earlier (t ∷ []))))

-- an info is of types that were found
by_types : (f : Function) (m : Module) (info : FunctionInfo) (P : FunctionInfo → Type 0)
    → ((types : List TypeResolution) → All (IsLawful m.types) types → length types ≡ length f.expressions
    → P (info_of_types m f types))
    → (found : Result (List TypeResolution) FunctionError) → types_from m f [] f.expressions ≡ found
    → with_types m f found ≡ Ok info → P info
by_types f m info P p (Err fault) e h = absurd cc
by_types f m info P p (Ok types) e h =
    let lawful = types_from-lawful m f [] f.expressions types (All-nil (IsLawful m.types)) e in
    IfOk-at_ok P h (p types lawful.0 (omega (arith, lawful.1)))

pub info_one_type_each : (f : Function) (m : Module) (info : FunctionInfo) → plain_info f m ≡ Ok info
    → length info.expression_types ≡ length f.expressions
info_one_type_each f m info h =
    by_types f m info (λ i. length i.expression_types ≡ length f.expressions)
    (λ types all count. count) (types_from m f [] f.expressions) refl h

with_all_named-length : (uses : List GlobalUse) (xs : List Expression) → length (with_all_named uses xs) ≡ length uses
unfolding with_all_named
with_all_named-length uses [] = refl
with_all_named-length uses (e.GlobalVariable g ∷ rest) =
    with_all_named-length (slice_set uses g READ) rest ∙ length-set uses g READ
with_all_named-length uses (x ∷ rest) = with_all_named-length uses rest

pub info_one_use_each : (f : Function) (m : Module) (info : FunctionInfo) → plain_info f m ≡ Ok info
    → length info.global_uses ≡ length m.global_variables
info_one_use_each f m info h =
    let none = replicate (length m.global_variables) NO_USE in
    by_types f m info (λ i. length i.global_uses ≡ length m.global_variables)
    (λ types all count. with_all_named-length none f.expressions ∙ length-replicate (length m.global_variables) NO_USE)
    (types_from m f [] f.expressions) refl h

pub info_types_in_range : (f : Function) (m : Module) (info : FunctionInfo) → plain_info f m ≡ Ok info
    → All (ResolutionFits (length m.types)) info.expression_types
info_types_in_range f m info h =
    by_types f m info (λ i. All (ResolutionFits (length m.types)) i.expression_types)
    (λ types all count k d lt. (all k d lt).0) (types_from m f [] f.expressions) refl h

pub info_no_struct_values : (f : Function) (m : Module) (info : FunctionInfo) → plain_info f m ≡ Ok info
    → All IsNoStruct info.expression_types
info_no_struct_values f m info h =
    by_types f m info (λ i. All IsNoStruct i.expression_types)
    (λ types all count k d lt. (all k d lt).1) (types_from m f [] f.expressions) refl h
