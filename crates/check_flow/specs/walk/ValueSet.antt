-- A set of case values, as the check of a Switch keeps it: work of lemmas, cited by functions that the validator alone calls.
use Rattle.std.specs.Prelude.{ℕ, ◌≡◌, ◌+◌, ◌/◌, ◌%◌, ◌^◌, zero, suc, List, Bool, true, false, Option, Some, None, slice_get, if◌then◌else◌, bit_and}
use Rattle.std.specs.Int.{cast_unsigned, w32}
use Rattle.std.specs.List.{list_any}
use Rattle.std.specs.BTreeSet.{contains}
use Rattle.ir_statements.specs.declared.operations.SwitchValue.{SwitchValue}
use Rattle.ir_statements.specs.declared.operations.SwitchValue.TheVariants.{I32, U32, Default}
use Rattle.ir_statements.specs.contracts.operations.SwitchValueOrd.TheImpl as value_order
use Rattle.check_flow.specs.declared.value_set.ValueSet.{ValueSet}
use Rattle.check_flow.specs.declared.value_set.Found.{Found}
use Rattle.check_flow.specs.declared.value_set.Found.TheVariants.{Here, Free, Nowhere}
use Rattle.check_flow.specs.Switch.{is_default, same_value}

-- the number of a value, by which it is looked for
abbrev pub number_of : SwitchValue → ℕ
number_of (I32 n) = cast_unsigned w32 n
number_of (U32 n) = n
number_of Default = 0

-- the place that a number gives
abbrev pub start_of : ℕ → ℕ → ℕ → ℕ
start_of bits mask n =
    bit_and ((((n + n / 2 ^ (bits % 32)) % 2 ^ 32) + n / 2 ^ (bits % 32) / 2 ^ (bits % 32)) % 2 ^ 32) mask

-- what a place says of a value that is looked for there
abbrev pub found_at : Option SwitchValue → SwitchValue → ℕ → Found → Found
found_at None v place behind = Nowhere
found_at (Some stands) v place behind =
    if same_value stands v then Here else if is_default stands then Free place else behind

-- and so many places from one on
abbrev pub found_from : List SwitchValue → SwitchValue → ℕ → ℕ → Found
found_from places v place zero = Nowhere
found_from places v place (suc n) = found_at (slice_get places place) v place (found_from places v (suc place) n)

-- near the place of a value
abbrev pub found_near : ValueSet → SwitchValue → Found
found_near set v = found_from set.places.items v (start_of set.bits set.mask (number_of v)) 8

-- where a value is found; the default stands at no place
abbrev pub found : ValueSet → SwitchValue → Found
found set v = if is_default v then Nowhere else found_near set v

-- a value is one of others
abbrev pub IsAmong : SwitchValue → List SwitchValue → Type 0
IsAmong v values = list_any (same_value v) values ≡ true

-- a value is kept: near its place, or among the others where no place near it is free
abbrev pub kept_as : Found → Bool → Bool
kept_as Here other = true
kept_as (Free place) other = false
kept_as Nowhere other = other

abbrev pub IsKept : ValueSet → SwitchValue → Type 0
IsKept set v = kept_as (found set v) (contains (value_order.ghosts).cmp set.others v) ≡ true

-- the set has these values: what stands in it is one of them, and each of them is kept
pub record HasValues (set : ValueSet) (values : List SwitchValue) : Type 0 where
  pub placed : (place : ℕ) (v : SwitchValue) → slice_get set.places.items place ≡ Some v → is_default v ≡ false →
      IsAmong v values
  pub others : (v : SwitchValue) → contains (value_order.ghosts).cmp set.others v ≡ true → IsAmong v values
  pub all : (v : SwitchValue) → IsAmong v values → IsKept set v
