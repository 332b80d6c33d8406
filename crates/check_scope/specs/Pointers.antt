-- What pointers point to.
use Rattle.std.specs.Prelude.{ℕ, Bool, false, Option, None, Some, option_and_then}
use Rattle.ir_flags.specs.Bits.{STORE, contains}
use Rattle.ir_types.specs.Types.{access_of, pointer_base_of, pointer_space_of}
use Rattle.ir_types.specs.declared.types.AddressSpace.{AddressSpace}
use Rattle.ir_types.specs.declared.typifier.TypeResolution.{TypeResolution}
use Rattle.check_scope.specs.Context.{Context}
use Rattle.check_scope.specs.ExpressionTypes.{type_at}

-- the type that a pointer points to
abbrev pub base_type_at : Context → ℕ → Option TypeResolution
base_type_at context pointer = option_and_then pointer_base_of (type_at context pointer)

-- the space that a pointer points into
abbrev pub space_at : Context → ℕ → Option AddressSpace
space_at context pointer = option_and_then pointer_space_of (type_at context pointer)

-- whether a space, if it is known, takes stores
abbrev pub takes_stores : Option AddressSpace → Bool
takes_stores None = false
takes_stores (Some p) = contains (access_of p).0 STORE.0

-- whether the space that a pointer points into takes stores
abbrev pub is_writable : Context → ℕ → Bool
is_writable context pointer = takes_stores (space_at context pointer)
