-- The check list of what is bound to a location.
use Rattle.std.specs.Prelude.{ℕ, Bool, true, false, not, ◌&&◌, ◌||◌, ◌==◌, List, [], ◌∷◌, ◌++◌, Option, None, Some, is_none, is_some, option_and_then, if◌then◌else◌}
use Rattle.ir_flags.specs.Bits.{IO_SHAREABLE}
use Rattle.ir_flags.specs.Capabilities.{MESH_SHADER, MULTISAMPLED_SHADING, PER_VERTEX, has_capability}
use Rattle.ir_arena.specs.Points.{Point}
use Rattle.ir_types.specs.Types.{inner_at, scalar_kind_of}
use Rattle.ir_leaves.specs.declared.stage.ShaderStage.{ShaderStage}
use Rattle.ir_leaves.specs.declared.stage.ShaderStage.TheVariants.{Vertex, Fragment, Mesh}
use Rattle.ir_types.specs.declared.types.ArraySize.TheVariants.{Constant}
use Rattle.ir_leaves.specs.declared.bindings.Interpolation.{Interpolation}
use Rattle.ir_leaves.specs.declared.bindings.Interpolation.TheVariants.{Perspective, Linear, Flat, PerVertex}
use Rattle.ir_leaves.specs.declared.bindings.Sampling.{Sampling}
use Rattle.ir_leaves.specs.declared.bindings.Sampling.TheVariants.{Center, Centroid, Sample, First, Either}
use Rattle.ir_leaves.specs.declared.scalars.ScalarKind.{ScalarKind}
use Rattle.ir_leaves.specs.declared.scalars.ScalarKind.TheVariants.{Sint, Uint, Float}
use Rattle.ir_types.specs.declared.types.Type.{«Type» as IrType}
use Rattle.ir_types.specs.declared.types.TypeInner.{TypeInner}
use Rattle.ir_types.specs.declared.types.TypeInner.TheVariants as inner
use Rattle.ir_types.specs.declared.type_info.TypeInfo.{TypeInfo}
use Rattle.check_varyings.specs.BuiltIns.{is_primitive_output, is_stage}
use Rattle.check_varyings.specs.Seen.{Seen}
use Rattle.ir_types.specs.TypeInfos.{type_has}
use Rattle.ir_facts.specs.WhatIsChecked.{checks_bindings}
use Rattle.ir_errors.specs.declared.interface.VaryingError.{VaryingError}
use Rattle.ir_errors.specs.declared.interface.VaryingError.TheVariants.{InvalidType, NotIOShareableType, InvalidInterpolationInStage, InvalidInterpolationSamplingCombination, InvalidInterpolationForInteger, MissingInterpolation, BindingCollision, UnsupportedCapability, BlendSrcNotOnStructMember, InvalidPerPrimitive, MissingPerPrimitive, PerVertexNotArrayOfThree, InvalidPerVertexSampling}
use Rattle.check_varyings.specs.declared.varying.VaryingPlace.{VaryingPlace}

-- a location is free, or bindings aren't checked
abbrev pub may_take : VaryingPlace → Seen → ℕ → Bool
may_take place seen location = not (checks_bindings place.flags) || not (seen.locations location)

abbrev pub is_per_vertex : Option Interpolation → Bool
is_per_vertex (Some PerVertex) = true
is_per_vertex _ = false

abbrev pub is_flat : Option Interpolation → Bool
is_flat (Some Flat) = true
is_flat _ = false

abbrev pub is_sample : Option Sampling → Bool
is_sample (Some Sample) = true
is_sample _ = false

-- no sampling, or one at the center
abbrev pub is_at_center : Option Sampling → Bool
is_at_center None = true
is_at_center (Some Center) = true
is_at_center _ = false

abbrev pub is_array_of_three : Option TypeInner → Bool
is_array_of_three (Some (inner.Array base (Constant n) stride)) = n.value == 3
is_array_of_three _ = false

-- the type of one of its items, where this is an array, else the type itself
abbrev pub item_type : ℕ → Option TypeInner → ℕ
item_type ty (Some (inner.Array base size stride)) = base
item_type ty _ = ty

-- the type that a location carries: for each vertex that of an item of the array
abbrev pub carried_type : List IrType → ℕ → Option Interpolation → ℕ
carried_type types ty interpolation = if is_per_vertex interpolation then item_type ty (inner_at types ty) else ty

-- what is given for each vertex: at the fragment stage alone, with the capability, at the center, and of an array of 3
abbrev pub per_vertex_points : VaryingPlace → List IrType → ℕ → Option Interpolation → Option Sampling → List (Point VaryingError)
per_vertex_points place types ty interpolation sampling =
    (not (is_per_vertex interpolation) || is_stage place.stage Fragment, InvalidInterpolationInStage PerVertex Fragment)
    ∷ (not (is_per_vertex interpolation) || has_capability place.capabilities PER_VERTEX, UnsupportedCapability PER_VERTEX)
    ∷ (not (is_per_vertex interpolation) || is_at_center sampling, InvalidPerVertexSampling)
    ∷ (not (is_per_vertex interpolation) || is_array_of_three (inner_at types ty), PerVertexNotArrayOfThree)
    ∷ []

abbrev pub is_fragment_input : VaryingPlace → Bool
is_fragment_input place = is_stage place.stage Fragment && not place.output

-- how the carried type is shared between stages: whether it may be; by primitive; from no blend source; its location
abbrev pub sharing_points : VaryingPlace → List TypeInfo → Seen → ℕ → ℕ → Option ℕ → Bool → List (Point VaryingError)
sharing_points place infos seen ty location blend_src per_primitive =
    (type_has infos ty IO_SHAREABLE, NotIOShareableType ty)
    ∷ (not (is_primitive_output place.mesh_output) || per_primitive, MissingPerPrimitive)
    ∷ (is_primitive_output place.mesh_output || is_fragment_input place || not per_primitive, InvalidPerPrimitive)
    ∷ (is_none blend_src, BlendSrcNotOnStructMember)
    ∷ (may_take place seen location, BindingCollision location)
    ∷ []

-- which interpolations go with which samplings: none for what is given for each vertex
abbrev pub go_together : Interpolation → Sampling → Bool
go_together Perspective Center = true
go_together Perspective Centroid = true
go_together Perspective Sample = true
go_together Linear Center = true
go_together Linear Centroid = true
go_together Linear Sample = true
go_together Flat First = true
go_together Flat Either = true
go_together _ _ = false

abbrev pub combination_points : Option Interpolation → Option Sampling → List (Point VaryingError)
combination_points (Some interpolation) (Some sampling) =
    (go_together interpolation sampling, InvalidInterpolationSamplingCombination interpolation sampling) ∷ []
combination_points _ _ = []

-- outputs of a vertex or a mesh stage, and inputs of a fragment that are by vertex, have to be interpolated
abbrev pub is_interpolated : ShaderStage → Bool → Bool → Bool
is_interpolated Vertex output per_primitive = output
is_interpolated Mesh output per_primitive = output
is_interpolated Fragment output per_primitive = not output && not per_primitive
is_interpolated _ output per_primitive = false

-- the kind of the carried type: a float is interpolated in some way, an integer flat, where it has to be; nothing else goes
abbrev pub kind_points : Bool → Option Interpolation → ℕ → Option ScalarKind → List (Point VaryingError)
kind_points interpolated interpolation ty (Some Float) = (not interpolated || is_some interpolation, MissingInterpolation) ∷ []
kind_points interpolated interpolation ty (Some Sint) =
    (not interpolated || is_flat interpolation, InvalidInterpolationForInteger) ∷ []
kind_points interpolated interpolation ty (Some Uint) =
    (not interpolated || is_flat interpolation, InvalidInterpolationForInteger) ∷ []
kind_points interpolated interpolation ty _ = (false, InvalidType ty) ∷ []

-- how the carried type is interpolated: whether the sampling goes with it and can be had; and, but for what is given for
-- each vertex, as the kind of the type asks
abbrev pub interpolation_points : VaryingPlace → List IrType → ℕ → Option Interpolation → Option Sampling → Bool →
    List (Point VaryingError)
interpolation_points place types ty interpolation sampling per_primitive =
    combination_points interpolation sampling
    ++ ((
      not (is_sample sampling)
          || has_capability place.capabilities MULTISAMPLED_SHADING,
      UnsupportedCapability MULTISAMPLED_SHADING,
    )
    ∷ (if is_per_vertex interpolation then []
    else kind_points (is_interpolated place.stage place.output per_primitive) interpolation ty
    (option_and_then scalar_kind_of (inner_at types ty))))

-- what is bound to a location, where this was seen before
abbrev pub location_points : VaryingPlace → List IrType → List TypeInfo → Seen → ℕ → ℕ → Option Interpolation →
    Option Sampling → Option ℕ → Bool → List (Point VaryingError)
location_points place types infos seen ty location interpolation sampling blend_src per_primitive =
    (not per_primitive || has_capability place.capabilities MESH_SHADER, UnsupportedCapability MESH_SHADER)
    ∷ (per_vertex_points place types ty interpolation sampling
    ++ (sharing_points place infos seen (carried_type types ty interpolation) location blend_src per_primitive
    ++ interpolation_points place types (carried_type types ty interpolation) interpolation sampling per_primitive))
