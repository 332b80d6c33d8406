-- Scalars, and sizes of vectors.
use Rattle.std.specs.Prelude.{ℕ, List, [], ◌∷◌, codes, Option}
use Rattle.serde_json.specs.Data.{Data}
use Rattle.ir_leaves.specs.declared.scalars.ScalarKind.{ScalarKind}
use Rattle.ir_leaves.specs.declared.scalars.ScalarKind.TheVariants as scalar_kind
use Rattle.ir_leaves.specs.declared.scalars.Scalar.{Scalar}
use Rattle.ir_leaves.specs.declared.scalars.VectorSize.{VectorSize}
use Rattle.ir_leaves.specs.declared.scalars.VectorSize.TheVariants as vector_size
use Rattle.json_values.specs.Form.{made_of_two, named, two_fields}
use Rattle.json_values.specs.ReadNumbers.{u8_of}

-- the kinds of scalars
abbrev pub scalar_kinds : List (List ℕ × ScalarKind)
scalar_kinds =
    (codes "Sint", scalar_kind.Sint) ∷ (codes "Uint", scalar_kind.Uint) ∷ (codes "Float", scalar_kind.Float) ∷
    (codes "Bool", scalar_kind.Bool) ∷ (codes "AbstractInt", scalar_kind.AbstractInt) ∷
    (codes "AbstractFloat", scalar_kind.AbstractFloat) ∷ []

abbrev pub scalar_kind_of : Data → Option ScalarKind
scalar_kind_of = named scalar_kinds

-- a scalar
abbrev pub scalar_of : Data → Option Scalar
scalar_of d = made_of_two (λ kind width. record { kind = kind; width = width })
    (two_fields (codes "kind") scalar_kind_of (codes "width") u8_of d)

-- the sizes of vectors
abbrev pub vector_sizes : List (List ℕ × VectorSize)
vector_sizes =
    (codes "Bi", vector_size.Bi) ∷ (codes "Tri", vector_size.Tri) ∷ (codes "Quad", vector_size.Quad) ∷ []

abbrev pub vector_size_of : Data → Option VectorSize
vector_size_of = named vector_sizes
