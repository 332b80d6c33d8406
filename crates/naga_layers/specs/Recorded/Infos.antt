-- What is answered of a function and of its expressions, of the fact that is recorded.
use Rattle.std.specs.Prelude.{ℕ, Bool, true, false, ◌&&◌, ◌==◌, Option, None, Some, Result, Ok, Err, length, nat_lt, slice_get, if◌then◌else◌}
use Rattle.std.specs.List.{list_all}
use Rattle.ir_module.specs.declared.functions.Function.{Function}
use Rattle.ir_module.specs.declared.module.Module.{Module}
use Rattle.ir_types.specs.declared.types.TypeInner.TheVariants as inner
use Rattle.ir_types.specs.declared.typifier.TypeResolution.{TypeResolution}
use Rattle.ir_types.specs.declared.typifier.TypeResolution.TheVariants.{Handle, Value}
use Rattle.ir_errors.specs.declared.expression.ExpressionError.{ExpressionError}
use Rattle.ir_errors.specs.declared.expression.ExpressionError.TheVariants.{Lower}
use Rattle.ir_flags.specs.declared.valid.ShaderStages.{ShaderStages}
use Rattle.ir_facts.specs.declared.valid.info.FunctionInfo.{FunctionInfo}
use Rattle.ir_errors.specs.declared.function.FunctionError.{FunctionError}
use Rattle.ir_errors.specs.declared.function.FunctionError.TheVariants.{Expression as InExpression}
use Rattle.ir_facts.specs.Facts.{info_of}
use Rattle.ir_facts.specs.Facts.{fault_of}
use Rattle.ir_facts.specs.declared.facts.ExpressionFact.{ExpressionFact}
use Rattle.ir_facts.specs.declared.facts.ExpressionFact.TheVariants.{Stages, Error as ExpressionRefused}
use Rattle.ir_facts.specs.declared.facts.FunctionFact.{FunctionFact}
use Rattle.ir_facts.specs.declared.facts.FunctionFact.TheVariants.{Info, Error as FunctionRefused}
use Rattle.ir_facts.specs.declared.facts.InfoFact.{InfoFact}

-- what the type names is one of n types, also inside a value, and it is no struct as a value
abbrev pub is_lawful_type : ℕ → TypeResolution → Bool
is_lawful_type n (Handle t) = nat_lt t n
is_lawful_type n (Value (inner.Pointer base space)) = nat_lt base n
is_lawful_type n (Value (inner.Array base size stride)) = nat_lt base n
is_lawful_type n (Value (inner.BindingArray base size)) = nat_lt base n
is_lawful_type n (Value (inner.Struct members span)) = false
is_lawful_type n (Value _) = true

-- one type for each expression, one use for each global, and lawful types
abbrev pub is_lawful_info : InfoFact → Function → Module → Bool
is_lawful_info i f m =
    (length i.types == length f.expressions) && (length i.uses == length m.global_variables)
    && list_all (is_lawful_type (length m.types)) i.types

-- the fault where nothing useful is recorded
abbrev pub USELESS : FunctionError
USELESS = InExpression 0 (Lower 0)

-- of an error it, of a lawful info it, else that nothing useful is recorded
abbrev pub recorded_info : Option FunctionFact → Function → Module → Result FunctionInfo FunctionError
recorded_info (Some (Info i)) f m = if is_lawful_info i f m then Ok (info_of i) else Err USELESS
recorded_info (Some (FunctionRefused e)) f m = Err (fault_of e)
recorded_info None f m = Err USELESS

abbrev pub expression_said : Option ExpressionFact → Result ShaderStages ExpressionError
expression_said (Some (Stages s)) = Ok s
expression_said (Some (ExpressionRefused e)) = Err e
expression_said None = Err (Lower 0)

-- what the info has for this expression; where there is none, `Lower(0)`
abbrev pub recorded_stages : Option FunctionFact → ℕ → Result ShaderStages ExpressionError
recorded_stages (Some (Info i)) h = expression_said (slice_get i.expressions h)
recorded_stages _ h = Err (Lower 0)
