-- Which checks the flags of a validation ask for.
use Rattle.std.specs.Prelude.{Bool}
use Rattle.ir_flags.specs.Bits.{contains, BLOCKS, EXPRESSIONS, STRUCT_LAYOUTS, BINDINGS}
use Rattle.ir_flags.specs.declared.valid.ValidationFlags.{ValidationFlags}

-- whether bodies are checked
abbrev pub checks_blocks : ValidationFlags → Bool
checks_blocks flags = contains flags.0 BLOCKS.0

-- whether expressions are, and with them which results a body fills
abbrev pub checks_expressions : ValidationFlags → Bool
checks_expressions flags = contains flags.0 EXPRESSIONS.0

-- whether layouts are checked, and whether bindings are
abbrev pub checks_layouts : ValidationFlags → Bool
checks_layouts flags = contains flags.0 STRUCT_LAYOUTS.0

abbrev pub checks_bindings : ValidationFlags → Bool
checks_bindings flags = contains flags.0 BINDINGS.0
