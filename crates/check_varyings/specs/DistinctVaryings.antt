-- What is known of a group where no point of it fails: no location is taken twice, and no built-in is there twice.
use Rattle.std.specs.Prelude.{◌≡◌, ℕ, true, false, ◌&&◌, List, ◌∷◌, ◌++◌, None, []}
use Rattle.std.specs.List.{list_any}
use Rattle.ir_arena.specs.Points.{first_fault}
use Rattle.ir_leaves.specs.declared.built_in.BuiltIn.{BuiltIn}
use Rattle.ir_types.specs.declared.types.Type.{«Type» as IrType}
use Rattle.ir_types.specs.declared.type_info.TypeInfo.{TypeInfo}
use Rattle.ir_facts.specs.WhatIsChecked.{checks_bindings}
use Rattle.check_varyings.specs.Varyings.{Placed, go_same_way, is_at, is_built_in, placed_points}

-- where bindings are checked, no part has the location of an earlier one
abbrev pub NoLocationTwice : List Placed → Type 0
NoLocationTwice parts =
    (before behind : List Placed) (p : Placed) (location : ℕ) → parts ≡ before ++ p ∷ behind →
    checks_bindings p.place.flags ≡ true → is_at location p.part ≡ true → list_any (λ q. is_at location q.part) before ≡ false

-- no part is the built-in that an earlier one is, once both are cleared, which goes the same way
abbrev pub NoBuiltInTwice : List Placed → Type 0
NoBuiltInTwice parts =
    (before behind : List Placed) (p : Placed) (b : BuiltIn) → parts ≡ before ++ p ∷ behind →
    is_built_in b p.part ≡ true → list_any (λ q. go_same_way p.place q.place && is_built_in b q.part) before ≡ false

-- the locations of an accepted group are distinct
abbrev pub AcceptedHasNoLocationTwice : Type 0
AcceptedHasNoLocationTwice =
    (types : List IrType) (infos : List TypeInfo) (parts : List Placed) →
    first_fault (placed_points types infos [] parts) ≡ None → NoLocationTwice parts

-- so are its built-ins, under every set of flags
abbrev pub AcceptedHasNoBuiltInTwice : Type 0
AcceptedHasNoBuiltInTwice =
    (types : List IrType) (infos : List TypeInfo) (parts : List Placed) →
    first_fault (placed_points types infos [] parts) ≡ None → NoBuiltInTwice parts
