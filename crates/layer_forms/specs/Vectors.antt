-- The sizes of vectors and the swizzles that `detail` stands for.
use Rattle.std.specs.Prelude.{ℕ, ◌/◌, ◌%◌, List, [], ◌∷◌, Option, None, Some, slice_get}
use Rattle.ir_leaves.specs.declared.scalars.VectorSize.{VectorSize}
use Rattle.ir_leaves.specs.declared.scalars.VectorSize.TheVariants.{Bi, Tri, Quad}
use Rattle.layer_forms.specs.declared.vectors.Swizzle.{Swizzle}
use Rattle.layer_forms.specs.declared.vectors.SwizzleComponent.{SwizzleComponent}
use Rattle.layer_forms.specs.declared.vectors.SwizzleComponent.TheVariants as component

-- a Splat says its size by the place here, from 0
abbrev pub sizes : List VectorSize
sizes = Bi ∷ Tri ∷ Quad ∷ []

abbrev pub components : List SwizzleComponent
components = component.X ∷ component.Y ∷ component.Z ∷ component.W ∷ []

abbrev pub swizzle_with : Option VectorSize → Option SwizzleComponent → Option SwizzleComponent → Option SwizzleComponent
    → Option SwizzleComponent → Option Swizzle
swizzle_with (Some size) (Some a) (Some b) (Some c) (Some d) =
    Some (record { size = size; first = a; second = b; third = c; fourth = d })
swizzle_with _ _ _ _ _ = None

-- 256 times the size, and two bits for each component, the first in the lowest
abbrev pub swizzle_of : ℕ → Option Swizzle
swizzle_of detail =
    swizzle_with (slice_get sizes (detail / 256)) (slice_get components (detail % 4)) (slice_get components (detail / 4 % 4))
    (slice_get components (detail / 16 % 4)) (slice_get components (detail / 64 % 4))
