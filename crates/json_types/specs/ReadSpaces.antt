-- Address spaces.
use Rattle.std.specs.Prelude.{ℕ, List, [], ◌∷◌, codes, Option, ⊤, option_map}
use Rattle.serde_json.specs.Data.{Data}
use Rattle.ir_types.specs.declared.types.AddressSpace.{AddressSpace}
use Rattle.ir_types.specs.declared.types.AddressSpace.TheVariants as address_space
use Rattle.json_values.specs.Form.{given, one_field}
use Rattle.json_values.specs.Sets.{storage_access_of}
use Rattle.json_values.specs.Variants.{variant_of, either}

-- the spaces of which no more is said
abbrev pub address_spaces : List (List ℕ × AddressSpace)
address_spaces =
    (codes "Function", address_space.Function) ∷ (codes "Private", address_space.Private) ∷
    (codes "WorkGroup", address_space.WorkGroup) ∷ (codes "Uniform", address_space.Uniform) ∷
    (codes "Handle", address_space.Handle) ∷ (codes "Immediate", address_space.Immediate) ∷
    (codes "TaskPayload", address_space.TaskPayload) ∷ (codes "RayPayload", address_space.RayPayload) ∷
    (codes "IncomingRayPayload", address_space.IncomingRayPayload) ∷ []

-- the space of which more is said
abbrev pub storage_space : List (List ℕ × ⊤)
storage_space = (codes "Storage", tt) ∷ []

-- what a variant that holds something stands for
abbrev pub address_space_from : ⊤ → Data → Option AddressSpace
address_space_from x d = option_map address_space.Storage (one_field (codes "access") storage_access_of d)

abbrev pub address_space_of : Data → Option AddressSpace
address_space_of d = given (variant_of address_spaces storage_space d) (either address_space_from)
