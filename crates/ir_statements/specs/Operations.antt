-- Tests of operations that several check lists ask for.
use Rattle.std.specs.Prelude.{Bool, true, false}
use Rattle.ir_statements.specs.declared.operations.AtomicFunction.{AtomicFunction}
use Rattle.ir_statements.specs.declared.operations.AtomicFunction.TheVariants.{Min, Max}

-- the smaller or the larger of two values
abbrev pub is_min_or_max : AtomicFunction → Bool
is_min_or_max Min = true
is_min_or_max Max = true
is_min_or_max _ = false
