-- What the laws of a lower layer say of a type.
use Rattle.std.specs.Prelude.{⊤}
use Rattle.ir_types.specs.declared.types.TypeInner.TheVariants.{Struct}
use Rattle.ir_types.specs.declared.typifier.TypeResolution.{TypeResolution}
use Rattle.ir_types.specs.declared.typifier.TypeResolution.TheVariants.{Value}

-- not a struct that is given as a value
abbrev pub IsNoStruct : TypeResolution → Type 0
IsNoStruct (Value (Struct members span)) = ⊥
IsNoStruct _ = ⊤
