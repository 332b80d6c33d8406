-- Sets of named bits: the list of their names, by ascending bit.
use Rattle.std.specs.Prelude.{ℕ, Bool, not, ◌&&◌, List, [], ◌∷◌, codes, if◌then◌else◌}
use Rattle.std.specs.Str.{bytes_eq}
use Rattle.bitflags.specs.Sets.{Row}
use Rattle.json.specs.Json.{Json, array, string, Items, no_items, item}
use Rattle.ir_flags.specs.Bits.{contains}
use Rattle.ir_flags.specs.declared.ir.StorageAccess.{StorageAccess}
use Rattle.ir_flags.specs.contracts.ir.StorageAccessFlags.TheImpl as storage_access
use Rattle.ir_flags.specs.declared.valid.GlobalUse.{GlobalUse}
use Rattle.ir_flags.specs.contracts.valid.GlobalUseFlags.TheImpl as global_use
use Rattle.ir_flags.specs.declared.valid.TypeFlags.{TypeFlags}
use Rattle.ir_flags.specs.contracts.valid.TypeFlagsFlags.TheImpl as type_flags
use Rattle.ir_flags.specs.declared.valid.SubgroupOperationSet.{SubgroupOperationSet}
use Rattle.ir_flags.specs.contracts.valid.SubgroupOperationSetFlags.TheImpl as subgroup_operations
use Rattle.ir_flags.specs.declared.valid.ShaderStages.{ShaderStages}
use Rattle.ir_flags.specs.contracts.valid.ShaderStagesFlags.TheImpl as stages
use Rattle.ir_flags.specs.declared.capabilities.Capabilities.{Capabilities}
use Rattle.ir_flags.specs.contracts.capabilities.CapabilitiesFlags.TheImpl as capabilities

-- whether the set has the bits of a row of its table; the joined name, of several bits, is not written
abbrev pub has_row : List ℕ → ℕ → Row → Bool
has_row joined bits row = not (bytes_eq row.0 joined) && contains bits row.1

abbrev pub item_if : Bool → List ℕ → Items → Items
item_if has name more = if has then item (string name) more else more

-- the names of a set's bits, by the rows of its table
abbrev pub names_in : List ℕ → ℕ → List Row → Items
names_in joined bits [] = no_items
names_in joined bits (row ∷ rows) = item_if (has_row joined bits row) row.0 (names_in joined bits rows)

unfoldable pub set_form : List ℕ → List Row → ℕ → Json
set_form joined table bits = array (names_in joined bits table)

abbrev pub storage_access_form : StorageAccess → Json
storage_access_form set = set_form [] (storage_access.ghosts).table set.0

abbrev pub global_use_form : GlobalUse → Json
global_use_form set = set_form [] (global_use.ghosts).table set.0

abbrev pub type_flags_form : TypeFlags → Json
type_flags_form set = set_form [] (type_flags.ghosts).table set.0

abbrev pub subgroup_operations_form : SubgroupOperationSet → Json
subgroup_operations_form set = set_form [] (subgroup_operations.ghosts).table set.0

abbrev pub stages_form : ShaderStages → Json
stages_form set = set_form (codes "COMPUTE_LIKE") (stages.ghosts).table set.0

abbrev pub capabilities_form : Capabilities → Json
capabilities_form set = set_form [] (capabilities.ghosts).table set.0
