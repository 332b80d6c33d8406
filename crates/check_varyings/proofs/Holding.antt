-- What is bound to a location holds, by the plainest tests.
use Rattle.std.proofs.Common.{◌≡◌, ℕ, Bool, true, false, not, ◌||◌, List, [], ◌∷◌, ◌++◌, Option, None, Some, refl, ap, ◌∙◌}
use Rattle.std.specs.Prelude.{is_none, option_and_then, if◌then◌else◌}
use Rattle.std.specs.Option.{option_or}
use Rattle.ir_arena.proofs.Points.{first_of_both}
use Rattle.ir_arena.specs.Points.{Point, first_fault}
use Rattle.ir_flags.specs.Bits.{IO_SHAREABLE}
use Rattle.ir_flags.specs.Capabilities.{MULTISAMPLED_SHADING, has_capability}
use Rattle.ir_types.specs.Types.{inner_at, scalar_kind_of}
use Rattle.ir_leaves.specs.declared.bindings.Interpolation.{Interpolation}
use Rattle.ir_leaves.specs.declared.bindings.Interpolation.TheVariants.{Perspective, Linear, Flat, PerVertex}
use Rattle.ir_leaves.specs.declared.bindings.Sampling.{Sampling}
use Rattle.ir_types.specs.declared.types.Type.{«Type» as IrType}
use Rattle.ir_types.specs.declared.type_info.TypeInfo.{TypeInfo}
use Rattle.ir_types.specs.TypeInfos.{type_has}
use Rattle.ir_errors.specs.declared.interface.VaryingError.{VaryingError}
use Rattle.ir_errors.specs.declared.interface.VaryingError.TheVariants.{BindingCollision, BlendSrcNotOnStructMember, InvalidPerPrimitive, MissingPerPrimitive, NotIOShareableType, UnsupportedCapability}
use Rattle.check_varyings.specs.BuiltIns.{is_primitive_output}
use Rattle.check_varyings.specs.Locations.{combination_points, interpolation_points, is_fragment_input, is_interpolated, is_per_vertex, is_sample, kind_points, location_points, may_take, sharing_points}
use Rattle.check_varyings.specs.Seen.{Seen}
use Rattle.check_varyings.specs.declared.varying.VaryingPlace.{VaryingPlace}

passes : {Fault : Type 0} (c : Bool) (f : Fault) (ps : List (Point Fault)) → c ≡ true → first_fault ps ≡ None → first_fault ((c, f) ∷ ps) ≡ None
passes c f ps e h = ap (λ b. if b then first_fault ps else Some f) e ∙ h

both_pass : {Fault : Type 0} (ps qs : List (Point Fault)) → first_fault ps ≡ None → first_fault qs ≡ None → first_fault (ps ++ qs) ≡ None
both_pass ps qs e f = first_of_both ps qs ∙ ap (λ o. option_or o (first_fault qs)) e ∙ f

may_be : (p f : Bool) → (p || f || true) ≡ true
may_be true true = refl
may_be true false = refl
may_be false true = refl
may_be false false = refl

if_else : {Fault : Type 0} (b : Bool) (points : List (Point Fault)) → b ≡ false → first_fault points ≡ None → first_fault (if b then [] else points) ≡ None
if_else false points e h = h
if_else true points e h = cc

module _ (place : VaryingPlace) (types : List IrType) (ty : ℕ) where
  pub interpolation_all_hold : (i : Option Interpolation) (s : Option Sampling) → is_per_vertex i ≡ false → first_fault (combination_points i s) ≡ None →
      (not (is_sample s) || has_capability place.capabilities MULTISAMPLED_SHADING) ≡ true →
      first_fault (kind_points (is_interpolated place.stage place.output false) i ty (option_and_then scalar_kind_of (inner_at types ty))) ≡ None →
      first_fault (interpolation_points place types ty i s false) ≡ None
  interpolation_all_hold i s by_vertex combined sampled kind =
      let kinds = kind_points (is_interpolated place.stage place.output false) i ty (option_and_then scalar_kind_of (inner_at types ty)) in
      let rest : List (Point VaryingError) = if is_per_vertex i then [] else kinds in
      let last = if_else (is_per_vertex i) kinds by_vertex kind in
      let sampling = not (is_sample s) || has_capability place.capabilities MULTISAMPLED_SHADING in
      both_pass (combination_points i s) ((sampling, UnsupportedCapability MULTISAMPLED_SHADING) ∷ rest) combined
      (passes sampling (UnsupportedCapability MULTISAMPLED_SHADING) rest sampled last)

  module _ (infos : List TypeInfo) (seen : Seen) (location : ℕ) where
    abbrev sharing : Bool → Bool → Bool → Bool → Bool → Option VaryingError
    sharing a b c d e =
        first_fault ((a, NotIOShareableType ty) ∷ (b, MissingPerPrimitive) ∷ (c, InvalidPerPrimitive) ∷ (d, BlendSrcNotOnStructMember) ∷ (e, BindingCollision location) ∷ [])

    shared : (blend_src : Option ℕ) → is_none blend_src ≡ true → type_has infos ty IO_SHAREABLE ≡ true → is_primitive_output place.mesh_output ≡ false →
        may_take place seen location ≡ true → first_fault (sharing_points place infos seen ty location blend_src false) ≡ None
    shared blend_src none shareable vertices free =
        let primitive = is_primitive_output place.mesh_output in
        let third = primitive || is_fragment_input place || true in
        ap (λ a. sharing a (not primitive || false) third (is_none blend_src) (may_take place seen location)) shareable
        ∙ ap (λ p. sharing true (not p || false) third (is_none blend_src) (may_take place seen location)) vertices
        ∙ ap (λ c. sharing true true c (is_none blend_src) (may_take place seen location)) (may_be primitive (is_fragment_input place))
        ∙ ap (λ d. sharing true true true d (may_take place seen location)) none
        ∙ ap (λ e. sharing true true true true e) free

    pub plain_holds : (i : Option Interpolation) (s : Option Sampling) (blend_src : Option ℕ) (per_primitive : Bool) → per_primitive ≡ false → is_per_vertex i ≡ false → is_none blend_src ≡ true →
        type_has infos ty IO_SHAREABLE ≡ true → is_primitive_output place.mesh_output ≡ false → may_take place seen location ≡ true →
        first_fault (interpolation_points place types ty i s false) ≡ None →
        first_fault (location_points place types infos seen ty location i s blend_src per_primitive) ≡ None
    plain_holds i s blend_src true by e none shareable vertices free h = cc
    plain_holds None s blend_src false by e none shareable vertices free h =
        both_pass (sharing_points place infos seen ty location blend_src false) (interpolation_points place types ty None s false) (shared blend_src none shareable vertices free) h
    plain_holds (Some Perspective) s blend_src false by e none shareable vertices free h =
        both_pass (sharing_points place infos seen ty location blend_src false) (interpolation_points place types ty (Some Perspective) s false) (shared blend_src none shareable vertices free) h
    plain_holds (Some Linear) s blend_src false by e none shareable vertices free h =
        both_pass (sharing_points place infos seen ty location blend_src false) (interpolation_points place types ty (Some Linear) s false) (shared blend_src none shareable vertices free) h
    plain_holds (Some Flat) s blend_src false by e none shareable vertices free h =
        both_pass (sharing_points place infos seen ty location blend_src false) (interpolation_points place types ty (Some Flat) s false) (shared blend_src none shareable vertices free) h
    plain_holds (Some PerVertex) s blend_src false by e none shareable vertices free h = cc
