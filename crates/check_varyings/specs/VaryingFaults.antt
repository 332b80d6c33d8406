-- Faults of inputs and outputs as contracts see them: two of the errors name an attribute by a reference to a text, and
-- contracts compare the text, not where it lies.
use Rattle.std.specs.Prelude.{ℕ, List}
use Rattle.ir_leaves.specs.declared.stage.ShaderStage.{ShaderStage}
use Rattle.ir_errors.specs.declared.interface.VaryingError.{VaryingError}
use Rattle.ir_errors.specs.declared.interface.VaryingError.TheVariants.{InvalidInputAttributeInStage, InvalidAttributeInStage}

-- an error that names an attribute, by its text; or any other error
pub data VaryingFault : Type 0 where
  InvalidInputAttribute : (attribute : List ℕ) (stage : ShaderStage) → VaryingFault
  InvalidAttribute : (attribute : List ℕ) (stage : ShaderStage) → VaryingFault
  Itself : (error : VaryingError) → VaryingFault

-- the fault that an error is
abbrev pub varying_fault_of : VaryingError → VaryingFault
varying_fault_of (InvalidInputAttributeInStage attribute stage) = InvalidInputAttribute attribute.now stage
varying_fault_of (InvalidAttributeInStage attribute stage) = InvalidAttribute attribute.now stage
varying_fault_of error = Itself error
