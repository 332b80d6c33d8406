-- What a state has seen, as the code changes it: work of lemmas, which private functions alone cite.
use Rattle.std.specs.Prelude.{ℕ, Bool, not, ◌==◌, ◌&&◌, ◌||◌, nat_lt, List, Option, None, Some, if◌then◌else◌}
use Rattle.std.specs.List.{list_any}
use Rattle.ir_leaves.specs.declared.bindings.Binding.{Binding}
use Rattle.ir_leaves.specs.declared.bindings.Binding.TheVariants as binding
use Rattle.check_varyings.specs.Seen.{Seen}
use Rattle.check_varyings.specs.Varyings.{is_bound_at, is_bound_to}

-- with a location
abbrev pub with_location : Seen → ℕ → Seen
with_location seen taken =
    record { locations = λ location. seen.locations location || (location == taken); built_ins = seen.built_ins }

-- with what is bound
abbrev pub seen_more : Seen → Binding → Seen
seen_more seen given =
    record {
      locations = λ location. seen.locations location || is_bound_at location given;
      built_ins = λ b. seen.built_ins b || is_bound_to b given;
    }

-- the location that is bound
abbrev pub location_of : Binding → Option ℕ
location_of (binding.BuiltIn b) = None
location_of (binding.Location location interpolation sampling blend_src per_primitive) = Some location

-- the location that is bound, where it is kept among those from 64 on
abbrev pub far_location : Binding → Option ℕ
far_location (binding.BuiltIn b) = None
far_location (binding.Location location interpolation sampling blend_src per_primitive) =
    if nat_lt location 64 then None else Some location

-- locations without these
abbrev pub far_less : (ℕ → Bool) → List ℕ → ℕ → Bool
far_less far given location = far location && not (list_any (λ l. location == l) given)
