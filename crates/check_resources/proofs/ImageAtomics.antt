-- The check list of ImageAtomic: what it says of uses.
use Rattle.std.proofs.Common.{◌≡◌, ℕ, [], ◌∷◌, ◌++◌, Option, None}
use Rattle.ir_arena.proofs.Points.{both_hold}
use Rattle.ir_arena.specs.Points.{first_fault}
use Rattle.ir_statements.specs.Tree.{Use}
use Rattle.ir_statements.specs.View.{used_if}
use Rattle.ir_statements.specs.declared.operations.AtomicFunction.{AtomicFunction}
use Rattle.ir_errors.specs.declared.function.FunctionError.TheVariants.{InvalidImageAtomic}
use Rattle.naga_runs.specs.Soundness.{Fit}
use Rattle.naga_runs.specs.Visits.{VisitPlace}
use Rattle.check_resources.specs.walk.ImageParts.{changed_value_points, changed_class_points}
use Rattle.check_scope.specs.Context.{Context}
use Rattle.check_resources.specs.ImageAtomic.{changed_shape, format_points, image_atomic_points}
use Rattle.check_resources.specs.Image.{array_index_points, stored_format}
use Rattle.check_scope.specs.ScopePoints.{may_use, is_in_scope}
use Rattle.check_scope.proofs.Flat.{holds_at, holds_behind}
use Rattle.check_resources.proofs.Images.{index_fits}

-- the uses of an image's atomic operation are allowed
pub image_atomic_fits : (context : Context) (place : VisitPlace) (image coordinate : ℕ) (index : Option ℕ) (fun : AtomicFunction) (value : ℕ) → first_fault (image_atomic_points context place image coordinate index fun value) ≡ None → Fit (may_use place) (is_in_scope place) (Use coordinate ∷ (used_if index ++ Use value ∷ []))
image_atomic_fits context place image coordinate index fun value e =
    let points = image_atomic_points context place image coordinate index fun value in
    let shape = changed_shape context image in
    let format = stored_format shape.class in
    let classes = changed_class_points context place shape.class fun value in
    let both = both_hold (array_index_points InvalidImageAtomic context place shape.arrayed index) classes (holds_behind 4 points e) in
    let values = changed_value_points context place format value in
    let last = both_hold (format_points context.settings.capabilities format fun) values (holds_behind 2 classes both.1) in
    (holds_at 2 points e, index_fits context place InvalidImageAtomic shape.arrayed index (Use value ∷ []) both.0 (holds_at 0 values last.1, tt))
