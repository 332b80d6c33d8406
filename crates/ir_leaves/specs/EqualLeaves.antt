-- `==` of the parts of types finds only the same ones equal: lemmas.
use Rattle.std.proofs.Common.{rules, ◌≡◌, ℕ, List, [], ◌∷◌, Bool, true, refl, ap, Option, Some, None, ◌&&◌}
use Rattle.std.specs.Option.{option_eq}
use lib.Dec.{eqb}
use lib.Pointwise.{pointwise}
use Rattle.ir_leaves.specs.declared.scalars.VectorSize.{VectorSize}
use Rattle.ir_leaves.specs.contracts.scalars.VectorSizePartialEq.TheImpl as size
use Rattle.ir_leaves.specs.declared.images.ImageDimension.{ImageDimension}
use Rattle.ir_leaves.specs.contracts.images.ImageDimensionPartialEq.TheImpl as dimension
use Rattle.ir_leaves.specs.declared.bindings.Interpolation.{Interpolation}
use Rattle.ir_leaves.specs.contracts.bindings.InterpolationPartialEq.TheImpl as interpolation
use Rattle.ir_leaves.specs.declared.bindings.Sampling.{Sampling}
use Rattle.ir_leaves.specs.contracts.bindings.SamplingPartialEq.TheImpl as sampling
use Rattle.ir_leaves.specs.declared.scalars.Scalar.{Scalar}
use Rattle.ir_leaves.specs.contracts.scalars.ScalarPartialEq.TheImpl as scalar
use Rattle.ir_leaves.specs.declared.bindings.Binding.{Binding}
use Rattle.ir_leaves.specs.declared.bindings.Binding.TheVariants as binding
use Rattle.ir_leaves.specs.contracts.bindings.BindingPartialEq.TheImpl as binding_eq
use Rattle.ir_leaves.specs.contracts.name.NamePartialEq.TheImpl as name
use Rattle.std.specs.contracts.prelude.BoolPartialEq.TheImpl as flag
use Rattle.ir_leaves.specs.EqualBuiltIns.{built_in_same}

-- both parts of a conjunction
pub both : (x y : Bool) → (x && y) ≡ true → (x ≡ true) × (y ≡ true)
both true true h = (refl, refl)
both _ _ h = cc

-- what each of two tests tells
pub split : {x y : Bool} {P Q : Type 0} → (x ≡ true → P) → (y ≡ true → Q) → (x && y) ≡ true → P × Q
split {x} {y} f g h = let p = both x y h in (f p.0, g p.1)

-- two options that a test finds equal are the same, where it finds only the same values equal
pub option_same : {A : Type 0} (eq : A → A → Bool) → ((a b : A) → eq a b ≡ true → a ≡ b) →
    (x y : Option A) → option_eq eq x y ≡ true → x ≡ y
option_same eq f None None h = refl
option_same eq f (Some a) (Some b) h = ap Some (f a b h)
option_same eq f _ _ h = cc

-- two lists that a test finds equal item by item are the same
pub list_same : {A : Type 0} (eq : A → A → Bool) → ((a b : A) → eq a b ≡ true → a ≡ b) →
    (xs ys : List A) → pointwise eq xs ys ≡ true → xs ≡ ys
list_same eq f [] [] h = refl
list_same eq f (x ∷ xs) (y ∷ ys) h =
    let p = both (eq x y) (pointwise eq xs ys) h in
    let head = f x y p.0 in
    let tail = list_same eq f xs ys p.1 in
    cc
list_same eq f _ _ h = cc

pub number_same : (a b : ℕ) → eqb a b ≡ true → a ≡ b
number_same a b h = search rules

pub flag_same : (a b : Bool) → (flag.ghosts).eq a b ≡ true → a ≡ b
flag_same a b h = search rules

pub name_same : (a b : List ℕ) → (name.ghosts).eq a b ≡ true → a ≡ b
name_same a b h = list_same eqb number_same a b h

pub size_same : (a b : VectorSize) → (size.ghosts).eq a b ≡ true → a ≡ b
size_same a b h = search rules

pub dimension_same : (a b : ImageDimension) → (dimension.ghosts).eq a b ≡ true → a ≡ b
dimension_same a b h = search rules

interpolation_same : (a b : Interpolation) → (interpolation.ghosts).eq a b ≡ true → a ≡ b
interpolation_same a b h = search rules

sampling_same : (a b : Sampling) → (sampling.ghosts).eq a b ≡ true → a ≡ b
sampling_same a b h = search rules

pub scalar_same : (a b : Scalar) → (scalar.ghosts).eq a b ≡ true → a ≡ b
scalar_same a b h = search rules

pub binding_same : (a b : Binding) → (binding_eq.ghosts).eq a b ≡ true → a ≡ b
binding_same (binding.BuiltIn x) (binding.BuiltIn y) h = ap binding.BuiltIn (built_in_same x y h)
binding_same (binding.Location l i s b p) (binding.Location l2 i2 s2 b2 p2) h =
    let e = split (number_same l l2)
    (split (option_same (interpolation.ghosts).eq interpolation_same i i2)
    (split (option_same (sampling.ghosts).eq sampling_same s s2)
    (split (option_same eqb number_same b b2) (flag_same p p2)))) h in
    cc
binding_same _ _ h = cc
