-- The uses of a texel, and what the check list of ImageStore says of uses.
use Rattle.std.proofs.Common.{◌≡◌, ℕ, Bool, true, List, [], ◌∷◌, ◌++◌, Option, None, Some, sym, subst}
use Rattle.std.specs.Prelude.{IfSome}
use Rattle.ir_types.specs.EqualTypes.{inner_iff}
use Rattle.ir_types.specs.Members.{HasNoMembers}
use Rattle.ir_leaves.specs.declared.images.StorageFormat.{StorageFormat}
use Rattle.ir_types.specs.declared.types.TypeInner.{TypeInner}
use Rattle.ir_arena.proofs.Points.{both_hold}
use Rattle.ir_arena.specs.Points.{first_fault}
use Rattle.ir_statements.specs.Tree.{Act, Use}
use Rattle.ir_statements.specs.View.{used_if}
use Rattle.ir_errors.specs.declared.expression.ExpressionError.{ExpressionError}
use Rattle.ir_errors.specs.declared.function.FunctionError.{FunctionError}
use Rattle.ir_errors.specs.declared.function.FunctionError.TheVariants.{InvalidImageStore}
use Rattle.naga_runs.specs.Soundness.{Fit}
use Rattle.naga_runs.specs.Visits.{VisitPlace}
use Rattle.check_resources.specs.walk.ImageParts.{texel_value_points}
use Rattle.check_scope.specs.Context.{Context}
use Rattle.check_resources.specs.Image.{array_index_points, stored_format}
use Rattle.check_resources.specs.ImageStore.{stored_shape, texel_type, is_of_type, image_store_points}
use Rattle.check_scope.specs.ScopePoints.{may_use, is_in_scope}
use Rattle.check_scope.specs.ExpressionTypes.{type_at}
use Rattle.check_scope.proofs.Flat.{holds_at, holds_behind}

texel_has_no_members : (given : Option TypeInner) (format : StorageFormat) → is_of_type (texel_type format) given ≡ true → IfSome given HasNoMembers
texel_has_no_members None format e = tt
texel_has_no_members (Some given) format e =
    let same : given ≡ texel_type format = (inner_iff given (texel_type format)).0 e in
    subst HasNoMembers (sym same) tt

module _ (context : Context) (place : VisitPlace) where
  -- the use of an array index is allowed
  pub index_fits : (inside : ExpressionError → FunctionError) (arrayed : Bool) (index : Option ℕ) (acts : List Act) → first_fault (array_index_points inside context place arrayed index) ≡ None → Fit (may_use place) (is_in_scope place) acts → Fit (may_use place) (is_in_scope place) (used_if index ++ acts)
  index_fits inside arrayed None acts e rest = rest
  index_fits inside arrayed (Some k) acts e rest =
      (holds_at 1 (array_index_points inside context place arrayed (Some k)) e, rest)

  -- the uses of an image store are allowed
  pub image_store_fits : (image coordinate : ℕ) (index : Option ℕ) (value : ℕ) → first_fault (image_store_points context place image coordinate index value) ≡ None → Fit (may_use place) (is_in_scope place) (Use coordinate ∷ (used_if index ++ Use value ∷ []))
  image_store_fits image coordinate index value e =
      let points = image_store_points context place image coordinate index value in
      let shape = stored_shape context image in
      let values = texel_value_points context place (stored_format shape.class) value in
      let both = both_hold (array_index_points InvalidImageStore context place shape.arrayed index) values (holds_behind 6 points e) in
      (holds_at 4 points e, index_fits InvalidImageStore shape.arrayed index (Use value ∷ []) both.0 (holds_at 0 values both.1, tt))

  -- of what is stored the type holds no members, so that its copy takes no memory
  pub stored_has_no_members : (image coordinate : ℕ) (index : Option ℕ) (value : ℕ) → first_fault (image_store_points context place image coordinate index value) ≡ None → IfSome (type_at context value) HasNoMembers
  stored_has_no_members image coordinate index value e =
      let points = image_store_points context place image coordinate index value in
      let shape = stored_shape context image in
      let format = stored_format shape.class in
      let values = texel_value_points context place format value in
      let both = both_hold (array_index_points InvalidImageStore context place shape.arrayed index) values (holds_behind 6 points e) in
      texel_has_no_members (type_at context value) format (holds_at 1 values both.1)
