-- What a stage takes in and puts out: items, their parts, the check list of each part, and the judgement of a group.
--
-- An *item* is an argument, a result or an output of a mesh: a type with or without a binding, at a place. Its *parts* are
-- what is checked one by one (`parts_of`). A *group* is a list of items: the arguments of an entry point; its result; the
-- two outputs of a mesh together. `group_points` is its check list: the points of each item in order (`item_points`), and of
-- each part of it in order (`part_points`). A part is judged against what was seen before it, `seen_at`, which is read off the
-- earlier parts of the group by position: its locations, and those of its built-ins that go the same way.
--
-- `check_varying_item` keeps two sets, `seen_in state`, in place of the earlier parts. Its check list is `points_from`, of the
-- item's parts after a state, and it leaves `seen_with` of them. `varyings_law` has the bridge, with which a caller that
-- starts from a new state goes from item to item:
--   start   a new state has seen what is seen at any place after no part
--   points  after a state that has seen what is seen at the item's place after the earlier parts, `points_from` of the
--           item's parts is `item_points` of it
--   next    what it leaves is what is seen at that place after the earlier parts and those of the item
--   other   where all earlier parts go another way, the same without the built-ins is seen (so a state whose built-ins are
--           cleared goes from the vertex output of a mesh to its primitive output)
-- In an accepted group no location and no built-in stands twice (`DistinctVaryings`).
use Rattle.std.specs.Prelude.{◌≡◌, ℕ, suc, Bool, true, false, not, ◌&&◌, ◌||◌, ◌==◌, List, [], ◌∷◌, ◌++◌, slice_index, Option, None, Some, if◌then◌else◌, map, codes, nat_le, nat_lt, unwrap_or}
use Rattle.std.specs.BTreeSet.{contains as set_contains}
use Rattle.std.specs.List.{list_any}
use Rattle.std.specs.Ordering.{nat_cmp}
use Rattle.ir_flags.specs.Bits.{IO_SHAREABLE}
use Rattle.ir_flags.specs.Capabilities.{MESH_SHADER, NO_CAPABILITY, has_capability}
use Rattle.ir_arena.specs.Points.{Point, within}
use Rattle.ir_types.specs.TypeTests.{is_same_inner, is_scalar}
use Rattle.ir_types.specs.Types.{inner_at}
use Rattle.ir_leaves.specs.declared.built_in.BuiltIn.{BuiltIn}
use Rattle.ir_leaves.specs.declared.built_in.BuiltIn.TheVariants.{SubgroupId, SubgroupInvocationId}
use Rattle.ir_leaves.specs.declared.stage.ShaderStage.TheVariants.{Fragment}
use Rattle.ir_types.specs.declared.types.ArraySize.TheVariants.{Constant}
use Rattle.ir_leaves.specs.declared.bindings.Binding.{Binding}
use Rattle.ir_leaves.specs.declared.bindings.Binding.TheVariants as binding
use Rattle.ir_types.specs.declared.types.StructMember.{StructMember}
use Rattle.ir_types.specs.declared.types.Type.{«Type» as IrType}
use Rattle.ir_types.specs.declared.types.TypeInner.{TypeInner}
use Rattle.ir_types.specs.declared.types.TypeInner.TheVariants as inner
use Rattle.ir_flags.specs.declared.capabilities.Capabilities.{Capabilities}
use Rattle.ir_types.specs.declared.type_info.TypeInfo.{TypeInfo}
use Rattle.check_varyings.specs.BuiltInNumbers.{number_of}
use Rattle.check_varyings.specs.BuiltIns.{built_in_rule, canonical, f32, is_same_built_in, is_stage}
use Rattle.check_varyings.specs.Locations.{location_points, may_take}
use Rattle.ir_facts.specs.WhatIsChecked.{checks_bindings}
use Rattle.check_varyings.specs.Seen.{Seen}
use Rattle.check_varyings.specs.SmallSets.{has_number}
use Rattle.ir_types.specs.TypeInfos.{type_has}
use Rattle.check_varyings.specs.VaryingFaults.{VaryingFault, InvalidInputAttribute, InvalidAttribute, Itself}
use Rattle.ir_errors.specs.declared.interface.VaryingError.{VaryingError}
use Rattle.ir_errors.specs.declared.interface.VaryingError.TheVariants.{DuplicateBuiltIn, UnsupportedCapability, InvalidMultiDimensionalSubgroupBuiltIn, InvalidBuiltInStage, InvalidBuiltInType, MissingBinding, MemberMissingBinding, BindingCollision}
use Rattle.check_varyings.specs.declared.varying.Near.{Near}
use Rattle.check_varyings.specs.declared.varying.VaryingPlace.{VaryingPlace}
use Rattle.check_varyings.specs.declared.varying.VaryingState.{VaryingState}
use Rattle.check_varyings.specs.declared.rule.BuiltInRule.{BuiltInRule}
use Rattle.check_varyings.specs.declared.rule.BuiltInType.{BuiltInType}
use Rattle.check_varyings.specs.declared.rule.BuiltInType.TheVariants as built_in_type
use Rattle.check_varyings.specs.contracts.varying.MeshOutputTypePartialEq.TheImpl as mesh_output

-- what a part of an item is
pub data VaryingPart : Type 0 where
  -- a type with its binding: an item, or a member of a struct
  Bound : (ty : ℕ) (given : Binding) → VaryingPart
  -- a member of a struct, with its index, and an item that is no struct, both without binding
  UnboundMember : (index : ℕ) → VaryingPart
  Unbound : VaryingPart
  -- a struct without binding that is shared between stages: the two sources of a blend
  BlendSources : VaryingPart

-- a member of a struct, with its index
abbrev pub member_part : ℕ → ℕ → Option Binding → VaryingPart
member_part index ty None = UnboundMember index
member_part index ty (Some given) = Bound ty given

-- members, the first of which has this index
abbrev pub member_parts : ℕ → List StructMember → List VaryingPart
member_parts index [] = []
member_parts index (m ∷ ms) = member_part index m.ty m.binding ∷ member_parts (suc index) ms

-- the parts of an item without binding, by whether its type is shared between stages: of a struct that isn't its members
abbrev pub unbound_parts : Bool → Option TypeInner → List VaryingPart
unbound_parts shareable (Some (inner.Struct members span)) = if shareable then BlendSources ∷ [] else member_parts 0 members
unbound_parts shareable _ = Unbound ∷ []

-- the parts of an item
abbrev pub parts_of : List IrType → List TypeInfo → ℕ → Option Binding → List VaryingPart
parts_of types infos ty (Some given) = Bound ty given ∷ []
parts_of types infos ty None = unbound_parts (type_has infos ty IO_SHAREABLE) (inner_at types ty)

-- what is bound has this location
abbrev pub is_bound_at : ℕ → Binding → Bool
is_bound_at location (binding.BuiltIn b) = false
is_bound_at location (binding.Location l interpolation sampling blend_src per_primitive) = location == l

-- what is bound is this built-in, once `invariant` and `perspective` are cleared
abbrev pub is_bound_to : BuiltIn → Binding → Bool
is_bound_to b (binding.BuiltIn given) = is_same_built_in b (canonical given)
is_bound_to b (binding.Location l interpolation sampling blend_src per_primitive) = false

-- a part has this location
abbrev pub is_at : ℕ → VaryingPart → Bool
is_at location (Bound ty given) = is_bound_at location given
is_at location BlendSources = location == 0
is_at location _ = false

-- a part is this built-in
abbrev pub is_built_in : BuiltIn → VaryingPart → Bool
is_built_in b (Bound ty given) = is_bound_to b given
is_built_in b _ = false

-- SubgroupId and SubgroupInvocationId are for work groups of one dimension
abbrev pub is_of_one_dimension : BuiltIn → Bool
is_of_one_dimension SubgroupId = true
is_of_one_dimension SubgroupInvocationId = true
is_of_one_dimension _ = false

-- the work group of a place has one dimension
abbrev pub has_one_dimension : VaryingPlace → Bool
has_one_dimension place = nat_le (slice_index place.workgroup_size 1) 1 && nat_le (slice_index place.workgroup_size 2) 1

-- an array of at most 8 floats of 32 bits
abbrev pub is_distances : List IrType → TypeInner → Bool
is_distances types (inner.Array base (Constant n) stride) = is_scalar f32 (inner_at types base) && nat_le n.value 8
is_distances types _ = false

-- a type is the one that a built-in has
abbrev pub has_built_in_type : List IrType → TypeInner → BuiltInType → Bool
has_built_in_type types given (built_in_type.Inner wanted) = is_same_inner given wanted
has_built_in_type types given built_in_type.Distances = is_distances types given
has_built_in_type types given built_in_type.Any = true

-- nothing is required, or the target has it
abbrev pub has_required : Capabilities → Option Capabilities → Bool
has_required capabilities None = true
has_required capabilities (Some required) = has_capability capabilities required

-- what the rule of a built-in asks of what is bound to it
abbrev pub rule_points : VaryingPlace → List IrType → TypeInner → BuiltIn → BuiltInRule → List (Point VaryingError)
rule_points place types given b rule =
    (has_required place.capabilities rule.required, UnsupportedCapability (unwrap_or rule.required NO_CAPABILITY))
    ∷ (not (is_of_one_dimension b) || has_one_dimension place, InvalidMultiDimensionalSubgroupBuiltIn)
    ∷ (not rule.mesh_shader || has_capability place.capabilities MESH_SHADER, UnsupportedCapability MESH_SHADER)
    ∷ (rule.visible, InvalidBuiltInStage b)
    ∷ (has_built_in_type types given rule.ty, InvalidBuiltInType b given)
    ∷ []

-- what is bound to a built-in, where this was seen before and this is its rule
abbrev pub ruled_points : VaryingPlace → List IrType → Seen → TypeInner → BuiltIn → BuiltInRule → List (Point VaryingError)
ruled_points place types seen given b rule =
    (not (seen.built_ins (canonical b)), DuplicateBuiltIn b) ∷ rule_points place types given b rule

-- the same by its rule, where the type is there
abbrev pub built_in_points : VaryingPlace → List IrType → Seen → Option TypeInner → BuiltIn → List (Point VaryingError)
built_in_points place types seen None b = (not (seen.built_ins (canonical b)), DuplicateBuiltIn b) ∷ []
built_in_points place types seen (Some given) b = ruled_points place types seen given b (built_in_rule b place)

-- what is bound, where this was seen before
abbrev pub bound_points : VaryingPlace → List IrType → List TypeInfo → Seen → ℕ → Binding → List (Point VaryingError)
bound_points place types infos seen ty (binding.BuiltIn b) = built_in_points place types seen (inner_at types ty) b
bound_points place types infos seen ty (binding.Location location interpolation sampling blend_src per_primitive) =
    location_points place types infos seen ty location interpolation sampling blend_src per_primitive

-- the two sources of a blend: an output of a fragment stage, which takes location 0
abbrev pub blend_points : VaryingPlace → Seen → List (Point VaryingFault)
blend_points place seen =
    (is_stage place.stage Fragment, InvalidAttribute (codes "blend_src") place.stage)
    ∷ (place.output, InvalidInputAttribute (codes "blend_src") place.stage)
    ∷ (may_take place seen 0, Itself (BindingCollision 0))
    ∷ []

-- a part, where this was seen before
abbrev pub part_points : VaryingPlace → List IrType → List TypeInfo → Seen → VaryingPart → List (Point VaryingFault)
part_points place types infos seen (Bound ty given) = within Itself (bound_points place types infos seen ty given)
part_points place types infos seen (UnboundMember index) =
    (not (checks_bindings place.flags), Itself (MemberMissingBinding index)) ∷ []
part_points place types infos seen Unbound = (not (checks_bindings place.flags), Itself MissingBinding) ∷ []
part_points place types infos seen BlendSources = blend_points place seen

-- The judgement by position.

-- an item of a group, and a part of one, with the place of the item
pub record Item : Type 0 where
  pub place : VaryingPlace
  pub ty : ℕ
  pub binding : Option Binding

pub record Placed : Type 0 where
  pub place : VaryingPlace
  pub part : VaryingPart

-- both true, or both false
abbrev pub is_same_bool : Bool → Bool → Bool
is_same_bool true b = b
is_same_bool false b = not b

-- two places go the same way: both in, or both out, and as the same output of a mesh
abbrev pub go_same_way : VaryingPlace → VaryingPlace → Bool
go_same_way p q = is_same_bool p.output q.output && (mesh_output.ghosts).eq p.mesh_output q.mesh_output

-- what is seen at a place after these parts of a group: their locations, and the built-ins of those that go the same way
abbrev pub seen_at : VaryingPlace → List Placed → Seen
seen_at place earlier =
    record {
      locations = λ location. list_any (λ p. is_at location p.part) earlier;
      built_ins = λ b. list_any (λ p. go_same_way place p.place && is_built_in b p.part) earlier;
    }

-- these parts, at this place
abbrev pub placed : VaryingPlace → List VaryingPart → List Placed
placed place parts = map (λ part. record { place = place; part = part }) parts

module _ (types : List IrType) (infos : List TypeInfo) where
  -- the parts of an item, with its place
  abbrev pub placed_parts : Item → List Placed
  placed_parts item = placed item.place (parts_of types infos item.ty item.binding)

  -- the points of parts after others, each part after those before it
  abbrev pub placed_points : List Placed → List Placed → List (Point VaryingFault)
  placed_points earlier [] = []
  placed_points earlier (p ∷ ps) =
      part_points p.place types infos (seen_at p.place earlier) p.part ++ placed_points (earlier ++ p ∷ []) ps

  -- the points of an item after these parts of its group
  abbrev pub item_points : List Placed → Item → List (Point VaryingFault)
  item_points earlier item = placed_points earlier (placed_parts item)

  -- the points of items after these parts, the first of which has this index; each fault stands in what its item makes of it
  abbrev pub group_points_from : {Fault : Type 0} → (ℕ → VaryingFault → Fault) → List Placed → ℕ → List Item → List (Point Fault)
  group_points_from fault earlier index [] = []
  group_points_from fault earlier index (item ∷ items) =
      within (fault index) (item_points earlier item) ++ group_points_from fault (earlier ++ placed_parts item) (suc index) items

  -- the parts of items
  abbrev pub group_parts : List Item → List Placed
  group_parts [] = []
  group_parts (item ∷ items) = placed_parts item ++ group_parts items

  -- the points of a group
  abbrev pub group_points : {Fault : Type 0} → (ℕ → VaryingFault → Fault) → List Item → List (Point Fault)
  group_points fault items = group_points_from fault [] 0 items

-- The judgement from a state.

-- nothing was seen
abbrev pub nothing_seen : Seen
nothing_seen = record { locations = λ location. false; built_ins = λ b. false }

-- what is seen, where the locations below 64 and the built-ins are kept so, and these are the other locations
abbrev pub seen_by : Near → (ℕ → Bool) → Seen
seen_by near far =
    record {
      locations = λ location. if nat_lt location 64 then has_number near.locations location else far location;
      built_ins = λ b. has_number near.built_ins (number_of b);
    }

-- the locations from 64 on, as a state keeps them
abbrev pub far_in : VaryingState → ℕ → Bool
far_in state location = set_contains nat_cmp state.far location

-- what a state has seen
abbrev pub seen_in : VaryingState → Seen
seen_in state = seen_by state.near (far_in state)

-- what was seen, and parts after it
abbrev pub seen_with : Seen → List VaryingPart → Seen
seen_with seen parts =
    record {
      locations = λ location. seen.locations location || list_any (is_at location) parts;
      built_ins = λ b. seen.built_ins b || list_any (is_built_in b) parts;
    }

-- what was seen, without the built-ins
abbrev pub without_built_ins : Seen → Seen
without_built_ins seen = record { locations = seen.locations; built_ins = λ b. false }

module _ (place : VaryingPlace) (types : List IrType) (infos : List TypeInfo) where
  -- the points of parts after others, where this was seen before
  abbrev pub points_behind : Seen → List VaryingPart → List VaryingPart → List (Point VaryingFault)
  points_behind seen earlier [] = []
  points_behind seen earlier (p ∷ ps) =
      part_points place types infos (seen_with seen earlier) p ++ points_behind seen (earlier ++ p ∷ []) ps

  -- the points of an item's parts, where this was seen before
  abbrev pub points_from : Seen → ℕ → Option Binding → List (Point VaryingFault)
  points_from seen ty given = points_behind seen [] (parts_of types infos ty given)

-- How the two hang together.

-- nothing is seen after no part
abbrev pub StartsEmpty : Type 0
StartsEmpty = (place : VaryingPlace) → seen_at place [] ≡ nothing_seen

-- after a state that has seen what is seen by position, the points are those by position
abbrev pub PointsAreByPosition : Type 0
PointsAreByPosition =
    (types : List IrType) (infos : List TypeInfo) (earlier : List Placed) (item : Item) →
    points_from item.place types infos (seen_at item.place earlier) item.ty item.binding ≡ item_points types infos earlier item

-- what is left after an item is what is seen by position after its parts, at each place that goes its way
abbrev pub LeavesTheNext : Type 0
LeavesTheNext =
    (place : VaryingPlace) (earlier : List Placed) (parts : List VaryingPart) →
    seen_with (seen_at place earlier) parts ≡ seen_at place (earlier ++ placed place parts)

-- where these parts go another way, their locations alone are seen
abbrev pub SeesLocationsAlone : Type 0
SeesLocationsAlone =
    (place other : VaryingPlace) (parts : List VaryingPart) → go_same_way place other ≡ false →
    seen_at place (placed other parts) ≡ without_built_ins (seen_at other (placed other parts))
