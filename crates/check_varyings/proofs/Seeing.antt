-- What is seen by position, and what a state has seen.
use Rattle.std.proofs.Common.{◌≡◌, ℕ, Bool, true, false, ◌&&◌, ◌||◌, List, [], ◌∷◌, ◌++◌, refl, sym, ap, ◌∙◌}
use Rattle.std.proofs.lemmas.List.{append-nil, append_assoc, map-append}
use Rattle.std.proofs.lemmas.List.Folds.{list_any-append}
use Rattle.std.specs.List.{list_any}
use Rattle.ir_leaves.specs.declared.built_in.BuiltIn.{BuiltIn}
use Rattle.ir_types.specs.declared.types.Type.{«Type» as IrType}
use Rattle.ir_types.specs.declared.type_info.TypeInfo.{TypeInfo}
use Rattle.check_varyings.specs.Seen.{Seen}
use Rattle.check_varyings.specs.Varyings.{VaryingPart, Placed, is_at, is_built_in, go_same_way, is_same_bool, seen_at, placed, placed_points, part_points, parts_of, points_behind, PointsAreByPosition, LeavesTheNext, SeesLocationsAlone}
use Rattle.check_varyings.specs.contracts.varying.MeshOutputTypePartialEq.TheImpl as mesh_output
use Rattle.check_varyings.specs.declared.varying.MeshOutputType.{MeshOutputType}
use Rattle.check_varyings.specs.declared.varying.MeshOutputType.TheVariants.{Neither, VertexOutput, PrimitiveOutput}
use Rattle.check_varyings.specs.declared.varying.VaryingPlace.{VaryingPlace}

-- two that have seen the same are the same
pub seen_same : (s t : Seen) → ((l : ℕ) → s.locations l ≡ t.locations l) → ((b : BuiltIn) → s.built_ins b ≡ t.built_ins b) → s ≡ t
seen_same s t p q = λ i. record { locations = λ l. p l i; built_ins = λ b. q b i }

any_placed : (test : VaryingPart → Bool) (place : VaryingPlace) (parts : List VaryingPart) →
    list_any (λ p. test p.part) (placed place parts) ≡ list_any test parts
any_placed test place [] = refl
any_placed test place (p ∷ ps) = ap (λ b. test p || b) (any_placed test place ps)

any_going : (way : Bool) (test : VaryingPart → Bool) (place other : VaryingPlace) (parts : List VaryingPart) → go_same_way place other ≡ way →
    list_any (λ p. go_same_way place p.place && test p.part) (placed other parts) ≡ (way && list_any test parts)
any_going true test place other [] e = refl
any_going true test place other (p ∷ ps) e =
    ap (λ w. (w && test p) || list_any (λ p. go_same_way place p.place && test p.part) (placed other ps)) e
    ∙ ap (λ b. test p || b) (any_going true test place other ps e)
any_going false test place other [] e = refl
any_going false test place other (p ∷ ps) e =
    ap (λ w. (w && test p) || list_any (λ p. go_same_way place p.place && test p.part) (placed other ps)) e
    ∙ any_going false test place other ps e

bool_same : (b : Bool) → is_same_bool b b ≡ true
bool_same true = refl
bool_same false = refl

output_same : (m : MeshOutputType) → (mesh_output.ghosts).eq m m ≡ true
output_same Neither = refl
output_same VertexOutput = refl
output_same PrimitiveOutput = refl

-- each place goes its own way
pub goes_own_way : (place : VaryingPlace) → go_same_way place place ≡ true
goes_own_way place = ap (λ b. b && (mesh_output.ghosts).eq place.mesh_output place.mesh_output) (bool_same place.output) ∙ output_same place.mesh_output

pub leaves_the_next : LeavesTheNext
leaves_the_next place earlier parts =
    seen_same _ _
    (λ l. ap (λ b. list_any (λ p. is_at l p.part) earlier || b) (sym (any_placed (is_at l) place parts))
    ∙ sym (list_any-append (λ p. is_at l p.part) earlier (placed place parts)))
    (λ b. ap (λ x. list_any (λ p. go_same_way place p.place && is_built_in b p.part) earlier || x)
    (sym (any_going true (is_built_in b) place place parts (goes_own_way place)))
    ∙ sym (list_any-append (λ p. go_same_way place p.place && is_built_in b p.part) earlier (placed place parts)))

pub sees_locations_alone : SeesLocationsAlone
sees_locations_alone place other parts e = seen_same _ _ (λ l. refl) (λ b. any_going false (is_built_in b) place other parts e)

-- the same parts, one moved from behind to before
moved : (place : VaryingPlace) (earlier : List Placed) (done : List VaryingPart) (p : VaryingPart) →
    earlier ++ placed place (done ++ p ∷ []) ≡ (earlier ++ placed place done) ++ (record { place = place; part = p } ∷ [])
moved place earlier done p =
    ap (λ l. earlier ++ l) (map-append (λ part. let made : Placed = record { place = place; part = part } in made) done (p ∷ []))
    ∙ sym (append_assoc earlier (placed place done) (record { place = place; part = p } ∷ []))

module _ (place : VaryingPlace) (types : List IrType) (infos : List TypeInfo) (earlier : List Placed) where
  points_by_position : (done parts : List VaryingPart) →
      points_behind place types infos (seen_at place earlier) done parts ≡ placed_points types infos (earlier ++ placed place done) (placed place parts)
  points_by_position done [] = refl
  points_by_position done (p ∷ ps) =
      ap (λ seen. part_points place types infos seen p ++ points_behind place types infos (seen_at place earlier) (done ++ p ∷ []) ps) (leaves_the_next place earlier done)
      ∙ ap (λ rest. part_points place types infos (seen_at place (earlier ++ placed place done)) p ++ rest)
      (points_by_position (done ++ p ∷ []) ps ∙ ap (λ l. placed_points types infos l (placed place ps)) (moved place earlier done p))

pub points_are_by_position : PointsAreByPosition
points_are_by_position types infos earlier item =
    points_by_position item.place types infos earlier [] (parts_of types infos item.ty item.binding)
    ∙ ap (λ l. placed_points types infos l (placed item.place (parts_of types infos item.ty item.binding))) (append-nil earlier)
