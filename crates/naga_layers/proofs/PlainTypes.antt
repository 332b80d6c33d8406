-- The types of a function's expressions, one after another.
use Rattle.std.proofs.Common.{◌≡◌, ◌<◌, ◌+◌, ℕ, List, ◌++◌, ◌∷◌, [], Some, None, Err, length, drop, ap, ◌∙◌}
use Rattle.std.proofs.lemmas.List.{at_drop_more}
use Rattle.std.proofs.lemmas.Option.{get_or_from_slice_get}
use Rattle.std.specs.Prelude.{slice_get}
use Rattle.ir_module.specs.declared.expressions.Expression.{Expression}
use Rattle.ir_module.specs.declared.functions.Function.{Function}
use Rattle.ir_module.specs.declared.module.Module.{Module}
use Rattle.ir_types.specs.declared.typifier.TypeResolution.{TypeResolution}
use Rattle.ir_errors.specs.declared.expression.ExpressionError.TheVariants.{Lower}
use Rattle.ir_errors.specs.declared.function.FunctionError.TheVariants.{Expression as InExpression}
use Rattle.naga_layers.specs.Plain.Types.{types_from, type_of, or_refuse}

module _ (m : Module) (f : Function) (earlier : List TypeResolution) (xs : List Expression) (i : ℕ) (x : Expression) (lt : i < length xs) (is : slice_get xs i ≡ Some x) (place : length earlier ≡ i) where
  here : types_from m f earlier (drop i xs) ≡ or_refuse (InExpression (length earlier) (Lower 1)) (λ t. types_from m f (earlier ++ t ∷ []) (drop (i + 1) xs)) (type_of m f earlier x)
  unfolding types_from
  here =
      at_drop_more (types_from m f earlier) xs i x lt
      ∙ ap (λ z. types_from m f earlier (z ∷ drop (i + 1) xs)) (get_or_from_slice_get xs i x x is)

  -- an expression without a type is the first fault
  pub none_here : type_of m f earlier x ≡ None → types_from m f earlier (drop i xs) ≡ Err (InExpression i (Lower 1))
  none_here e =
      here
      ∙ ap (or_refuse (InExpression (length earlier) (Lower 1)) (λ t. types_from m f (earlier ++ t ∷ []) (drop (i + 1) xs))) e
      ∙ ap (λ k. Err (InExpression k (Lower 1))) place

  -- a type that is found goes behind those before it
  pub some_here : (t : TypeResolution) → type_of m f earlier x ≡ Some t → types_from m f earlier (drop i xs) ≡ types_from m f (earlier ++ t ∷ []) (drop (i + 1) xs)
  some_here t e =
      here
      ∙ ap (or_refuse (InExpression (length earlier) (Lower 1)) (λ t. types_from m f (earlier ++ t ∷ []) (drop (i + 1) xs))) e
