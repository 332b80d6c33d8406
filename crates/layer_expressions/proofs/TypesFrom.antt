-- The types of expressions, one after another.
use Rattle.std.proofs.Common.{◌≡◌, ◌<◌, ◌+◌, ℕ, List, ◌++◌, ◌∷◌, [], Some, Ok, Err, length, drop, ap, ◌∙◌}
use Rattle.std.proofs.lemmas.List.{at_drop_more}
use Rattle.std.proofs.lemmas.Option.{get_or_from_slice_get}
use Rattle.std.specs.Prelude.{slice_get}
use Rattle.ir_module.specs.declared.expressions.Expression.{Expression}
use Rattle.ir_module.specs.declared.functions.FunctionArgument.{FunctionArgument}
use Rattle.ir_module.specs.declared.functions.LocalVariable.{LocalVariable}
use Rattle.ir_module.specs.declared.module.Module.{Module}
use Rattle.ir_types.specs.declared.typifier.TypeResolution.{TypeResolution}
use Rattle.layer_expressions.specs.declared.rules.Rule.{Rule}
use Rattle.layer_expressions.specs.declared.types.Untyped.{Untyped}
use Rattle.layer_expressions.specs.ComputedTypes.{types_from, type_of, or_untyped}

abbrev pub untyped : ℕ → Rule → Untyped
untyped h broken = record { handle = h; rule = broken }

module _ (m : Module) (arguments : List FunctionArgument) (locals : List LocalVariable) (earlier : List TypeResolution) (xs : List Expression) (i : ℕ) (x : Expression) (lt : i < length xs) (is : slice_get xs i ≡ Some x) (place : length earlier ≡ i) where
  here : types_from m arguments locals xs earlier (drop i xs)
      ≡ or_untyped (length earlier) (λ t. types_from m arguments locals xs (earlier ++ t ∷ []) (drop (i + 1) xs)) (type_of m arguments locals xs earlier x)
  unfolding types_from
  here =
      at_drop_more (types_from m arguments locals xs earlier) xs i x lt
      ∙ ap (λ z. types_from m arguments locals xs earlier (z ∷ drop (i + 1) xs)) (get_or_from_slice_get xs i x x is)

  -- an expression without a type is the first that has none
  pub none_here : (broken : Rule) → type_of m arguments locals xs earlier x ≡ Err broken
      → types_from m arguments locals xs earlier (drop i xs) ≡ Err (untyped i broken)
  none_here broken e =
      here
      ∙ ap (or_untyped (length earlier) (λ t. types_from m arguments locals xs (earlier ++ t ∷ []) (drop (i + 1) xs))) e
      ∙ ap (λ k. Err (untyped k broken)) place

  -- a type that is found goes behind those before it
  pub some_here : (t : TypeResolution) → type_of m arguments locals xs earlier x ≡ Ok t
      → types_from m arguments locals xs earlier (drop i xs)
      ≡ types_from m arguments locals xs (earlier ++ t ∷ []) (drop (i + 1) xs)
  some_here t e =
      here
      ∙ ap (or_untyped (length earlier) (λ t. types_from m arguments locals xs (earlier ++ t ∷ []) (drop (i + 1) xs))) e
