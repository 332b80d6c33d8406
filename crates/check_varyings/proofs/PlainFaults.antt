-- What is bound has plain faults: none names an attribute.
use Rattle.std.proofs.Common.{◌≡◌, ℕ, Bool, true, false, List, [], ◌∷◌, ◌++◌, Option, None, Some, Result, Ok, Err, refl, sym, ap, ◌∙◌, subst}
use Rattle.std.specs.Prelude.{option_and_then, if◌then◌else◌}
use Rattle.std.specs.Option.{option_map}
use Rattle.ir_arena.proofs.Points.{first_within}
use Rattle.ir_arena.specs.Points.{Point, first_fault, within}
use Rattle.ir_types.specs.Types.{inner_at, scalar_kind_of}
use Rattle.ir_leaves.specs.declared.built_in.BuiltIn.{BuiltIn}
use Rattle.ir_leaves.specs.declared.bindings.Binding.{Binding}
use Rattle.ir_leaves.specs.declared.bindings.Binding.TheVariants as binding
use Rattle.ir_leaves.specs.declared.bindings.Interpolation.{Interpolation}
use Rattle.ir_leaves.specs.declared.bindings.Interpolation.TheVariants.{Perspective, Linear, Flat, PerVertex}
use Rattle.ir_leaves.specs.declared.bindings.Sampling.{Sampling}
use Rattle.ir_leaves.specs.declared.scalars.ScalarKind.{ScalarKind}
use Rattle.ir_leaves.specs.declared.scalars.ScalarKind.TheVariants.{Sint, Uint, Float}
use Rattle.ir_types.specs.declared.types.Type.{«Type» as IrType}
use Rattle.ir_types.specs.declared.types.TypeInner.{TypeInner}
use Rattle.ir_arena.specs.declared.span.Refusal.{Refusal}
use Rattle.ir_arena.specs.declared.span.Refusal.TheVariants.{Fault, Memory}
use Rattle.ir_types.specs.declared.type_info.TypeInfo.{TypeInfo}
use Rattle.ir_facts.specs.Answers.{Answers, FirstOf, read_by}
use Rattle.check_varyings.specs.Locations.{carried_type, combination_points, interpolation_points, is_interpolated, is_per_vertex, kind_points, per_vertex_points, sharing_points}
use Rattle.check_varyings.specs.Seen.{Seen}
use Rattle.check_varyings.specs.VaryingFaults.{Itself, varying_fault_of}
use Rattle.check_varyings.specs.Varyings.{bound_points, built_in_points}
use Rattle.ir_errors.specs.declared.interface.VaryingError.{VaryingError}
use Rattle.check_varyings.specs.declared.varying.VaryingPlace.{VaryingPlace}

abbrev ArePlain : List (Point VaryingError) → Type 0
ArePlain [] = Unit {0}
ArePlain (p ∷ ps) = (varying_fault_of p.1 ≡ Itself p.1) × ArePlain ps

both_plain : (ps qs : List (Point VaryingError)) → ArePlain ps → ArePlain qs → ArePlain (ps ++ qs)
both_plain [] qs h k = k
both_plain (p ∷ ps) qs h k = (h.0, both_plain ps qs h.1 k)

built_in_plain : (place : VaryingPlace) (types : List IrType) (seen : Seen) (given : Option TypeInner) (b : BuiltIn) → ArePlain (built_in_points place types seen given b)
built_in_plain place types seen None b = (refl, tt)
built_in_plain place types seen (Some given) b = (refl, (refl, (refl, (refl, (refl, (refl, tt))))))

combination_plain : (i : Option Interpolation) (s : Option Sampling) → ArePlain (combination_points i s)
combination_plain (Some i) (Some s) = (refl, tt)
combination_plain (Some i) None = tt
combination_plain None s = tt

kind_plain : (interpolated : Bool) (i : Option Interpolation) (ty : ℕ) (k : Option ScalarKind) → ArePlain (kind_points interpolated i ty k)
kind_plain interpolated i ty (Some Float) = (refl, tt)
kind_plain interpolated i ty (Some Sint) = (refl, tt)
kind_plain interpolated i ty (Some Uint) = (refl, tt)
kind_plain interpolated i ty _ = (refl, tt)

interpolation_plain : (place : VaryingPlace) (types : List IrType) (ty : ℕ) (i : Option Interpolation) (s : Option Sampling) (per_primitive : Bool) →
    ArePlain (interpolation_points place types ty i s per_primitive)
interpolation_plain place types ty i s per_primitive = both_plain (combination_points i s) _ (combination_plain i s) (refl, behind i) where
  behind : (i : Option Interpolation) → ArePlain (if is_per_vertex i then [] else kind_points (is_interpolated place.stage place.output per_primitive) i ty (option_and_then scalar_kind_of (inner_at types ty)))
  behind None = kind_plain _ None ty _
  behind (Some PerVertex) = tt
  behind (Some Perspective) = kind_plain _ (Some Perspective) ty _
  behind (Some Linear) = kind_plain _ (Some Linear) ty _
  behind (Some Flat) = kind_plain _ (Some Flat) ty _

bound_plain : (place : VaryingPlace) (types : List IrType) (infos : List TypeInfo) (seen : Seen) (ty : ℕ) (given : Binding) →
    ArePlain (bound_points place types infos seen ty given)
bound_plain place types infos seen ty (binding.BuiltIn b) = built_in_plain place types seen (inner_at types ty) b
bound_plain place types infos seen ty (binding.Location location i s blend_src per_primitive) =
    let carried = carried_type types ty i in
    let sharing = sharing_points place infos seen carried location blend_src per_primitive in
    let interpolation = interpolation_points place types carried i s per_primitive in
    let behind : ArePlain (sharing ++ interpolation) =
    both_plain sharing interpolation (refl, (refl, (refl, (refl, (refl, tt))))) (interpolation_plain place types carried i s per_primitive) in
    (refl, both_plain (per_vertex_points place types ty i s) (sharing ++ interpolation) (refl, (refl, (refl, (refl, tt)))) behind)

first_plain : (ps : List (Point VaryingError)) (e : VaryingError) → ArePlain ps → first_fault ps ≡ Some e → Itself e ≡ varying_fault_of e
first_plain [] e all h = cc
first_plain ((true, f) ∷ ps) e all h = first_plain ps e all.1 h
first_plain ((false, f) ∷ ps) e all h =
    let same : f ≡ e = cc in
    let P : VaryingError → Type 0 = λ e. Itself e ≡ varying_fault_of e in
    subst P same (sym all.0)

-- an answer of the points of what is bound is one of the points of the part
pub part_answers : (place : VaryingPlace) (types : List IrType) (infos : List TypeInfo) (seen : Seen) (ty : ℕ) (given : Binding) {T : Type 0} (r : Result T (Refusal VaryingError)) →
    Answers (FirstOf (bound_points place types infos seen ty given)) r → Answers (FirstOf (within Itself (bound_points place types infos seen ty given))) (read_by varying_fault_of r)
part_answers place types infos seen ty given (Ok t) h = first_within Itself (bound_points place types infos seen ty given) ∙ ap (option_map Itself) h
part_answers place types infos seen ty given (Err (Fault e)) h =
    first_within Itself (bound_points place types infos seen ty given)
    ∙ ap (option_map Itself) h
    ∙ ap Some (first_plain (bound_points place types infos seen ty given) e (bound_plain place types infos seen ty given) h)
part_answers place types infos seen ty given (Err Memory) h = tt
