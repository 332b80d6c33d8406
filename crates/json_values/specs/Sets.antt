-- Sets of named bits: lists of names, each at most once. The names and their bits are those that the sets have themselves.
use Rattle.std.specs.Int.RustNames.{bit_or}
use Rattle.std.specs.Prelude.{ℕ, List, [], codes, Option, Some, None, option_map, if◌then◌else◌}
use Rattle.std.specs.Str.{bytes_eq}
use Rattle.bitflags.specs.Sets.{Row, find_name}
use Rattle.serde_json.specs.Data.{Data, Items, no_items, item}
use Rattle.serde_json.specs.Find.{as_array, as_str}
use Rattle.ir_flags.specs.Bits.{contains}
use Rattle.json_values.specs.Form.{given}
use Rattle.ir_flags.specs.declared.valid.ValidationFlags.{ValidationFlags}
use Rattle.ir_flags.specs.contracts.valid.ValidationFlagsFlags.TheImpl as validation_flags
use Rattle.ir_flags.specs.declared.capabilities.Capabilities.{Capabilities}
use Rattle.ir_flags.specs.contracts.capabilities.CapabilitiesFlags.TheImpl as capabilities
use Rattle.ir_flags.specs.declared.valid.SubgroupOperationSet.{SubgroupOperationSet}
use Rattle.ir_flags.specs.contracts.valid.SubgroupOperationSetFlags.TheImpl as subgroup_operations
use Rattle.ir_flags.specs.declared.valid.TypeFlags.{TypeFlags}
use Rattle.ir_flags.specs.contracts.valid.TypeFlagsFlags.TheImpl as type_flags
use Rattle.ir_flags.specs.declared.valid.GlobalUse.{GlobalUse}
use Rattle.ir_flags.specs.contracts.valid.GlobalUseFlags.TheImpl as global_use
use Rattle.ir_flags.specs.declared.ir.StorageAccess.{StorageAccess}
use Rattle.ir_flags.specs.contracts.ir.StorageAccessFlags.TheImpl as storage_access
use Rattle.ir_flags.specs.declared.ir.Barrier.{Barrier}
use Rattle.ir_flags.specs.contracts.ir.BarrierFlags.TheImpl as barrier
use Rattle.ir_flags.specs.declared.ir.MemoryDecorations.{MemoryDecorations}
use Rattle.ir_flags.specs.contracts.ir.MemoryDecorationsFlags.TheImpl as memory_decorations
use Rattle.ir_flags.specs.declared.valid.ShaderStages.{ShaderStages}
use Rattle.ir_flags.specs.contracts.valid.ShaderStagesFlags.TheImpl as stages

-- the bit that a text names in a table; a name of several bits, which may be given, is none
abbrev pub bit_named : List Row → List ℕ → List ℕ → Option ℕ
bit_named table joined name = if bytes_eq name joined then None else find_name table name

abbrev pub bit_of : List Row → List ℕ → Data → Option ℕ
bit_of table joined d = given (as_str d) (bit_named table joined)

-- these bits and the one more
abbrev pub with_bit : ℕ → ℕ → Option ℕ
with_bit bits bit = if contains bits bit then None else Some (bit_or bits bit)

-- these bits and those that the items name, of which none is there before
abbrev pub bits_with : List Row → List ℕ → ℕ → Items → Option ℕ
bits_with table joined bits no_items = Some bits
bits_with table joined bits (item d ds) =
    given (bit_of table joined d) (λ bit. given (with_bit bits bit) (λ more. bits_with table joined more ds))

-- the bits of a list of names
abbrev pub bits_of : List Row → List ℕ → Data → Option ℕ
bits_of table joined d = given (as_array d) (bits_with table joined 0)

abbrev pub validation_flags_of : Data → Option ValidationFlags
validation_flags_of d = option_map (λ bits. record { 0 = bits }) (bits_of (validation_flags.ghosts).table [] d)

abbrev pub capabilities_of : Data → Option Capabilities
capabilities_of d = option_map (λ bits. record { 0 = bits }) (bits_of (capabilities.ghosts).table [] d)

abbrev pub subgroup_operations_of : Data → Option SubgroupOperationSet
subgroup_operations_of d = option_map (λ bits. record { 0 = bits }) (bits_of (subgroup_operations.ghosts).table [] d)

abbrev pub type_flags_of : Data → Option TypeFlags
type_flags_of d = option_map (λ bits. record { 0 = bits }) (bits_of (type_flags.ghosts).table [] d)

abbrev pub global_use_of : Data → Option GlobalUse
global_use_of d = option_map (λ bits. record { 0 = bits }) (bits_of (global_use.ghosts).table [] d)

abbrev pub storage_access_of : Data → Option StorageAccess
storage_access_of d = option_map (λ bits. record { 0 = bits }) (bits_of (storage_access.ghosts).table [] d)

abbrev pub barrier_of : Data → Option Barrier
barrier_of d = option_map (λ bits. record { 0 = bits }) (bits_of (barrier.ghosts).table [] d)

abbrev pub memory_decorations_of : Data → Option MemoryDecorations
memory_decorations_of d = option_map (λ bits. record { 0 = bits }) (bits_of (memory_decorations.ghosts).table [] d)

-- the text of all stages
abbrev pub all_stages : List ℕ → Option ShaderStages
all_stages name = if bytes_eq name (codes "ALL") then Some (record { 0 = 511 }) else None

abbrev pub stages_from : Option (List ℕ) → Data → Option ShaderStages
stages_from (Some name) d = all_stages name
stages_from None d = option_map (λ bits. record { 0 = bits }) (bits_of (stages.ghosts).table (codes "COMPUTE_LIKE") d)

-- a list of stages, or the text of all
abbrev pub stages_of : Data → Option ShaderStages
stages_of d = stages_from (as_str d) d
