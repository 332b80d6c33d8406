-- Why a reading fails.
use Rattle.json_values.specs.declared.error.ReadError.{ReadError}
use Rattle.json_values.specs.declared.error.ReadError.TheVariants.{Unreadable, Memory}

-- the document is at fault, and not want of memory
abbrev pub IsUnreadable : ReadError → Type 0
IsUnreadable (Unreadable where_and_what) = Unit {0}
IsUnreadable Memory = ⊥
