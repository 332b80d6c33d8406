-- Types by their handles, and pointers to them. The module has so many types.
use Rattle.std.specs.Prelude.{ℕ, Option, None, Some, nat_lt, if◌then◌else◌}
use Rattle.ir_types.specs.declared.types.AddressSpace.{AddressSpace}
use Rattle.ir_types.specs.declared.types.TypeInner.TheVariants as inner
use Rattle.ir_types.specs.declared.typifier.TypeResolution.{TypeResolution}
use Rattle.ir_types.specs.declared.typifier.TypeResolution.TheVariants.{Handle, Value}

-- the type with this handle, where it is there
abbrev pub type_at : ℕ → ℕ → Option TypeResolution
type_at count t = if nat_lt t count then Some (Handle t) else None

-- a pointer to it
abbrev pub pointer_to : ℕ → ℕ → AddressSpace → Option TypeResolution
pointer_to count t p = if nat_lt t count then Some (Value (inner.Pointer t p)) else None
