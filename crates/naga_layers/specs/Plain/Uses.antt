-- The uses of globals that the plain layer finds: each that an expression names is read.
use Rattle.std.specs.Prelude.{List, [], ◌∷◌, replicate, slice_set, length}
use Rattle.ir_flags.specs.Bits.{READ, NO_USE}
use Rattle.ir_module.specs.declared.expressions.Expression.{Expression}
use Rattle.ir_module.specs.declared.expressions.Expression.TheVariants as e
use Rattle.ir_module.specs.declared.functions.Function.{Function}
use Rattle.ir_module.specs.declared.module.Module.{Module}
use Rattle.ir_flags.specs.declared.valid.GlobalUse.{GlobalUse}

-- the uses, with that of the global that an expression names, if it names one
abbrev pub with_named : List GlobalUse → Expression → List GlobalUse
with_named uses (e.GlobalVariable h) = slice_set uses h READ
with_named uses _ = uses

-- with those of the globals that these expressions name
unfoldable pub with_all_named : List GlobalUse → List Expression → List GlobalUse
with_all_named uses [] = uses
with_all_named uses (x ∷ rest) = with_all_named (with_named uses x) rest

-- one use for each global
abbrev pub uses_of : Module → Function → List GlobalUse
uses_of m f = with_all_named (replicate (length m.global_variables) NO_USE) f.expressions
