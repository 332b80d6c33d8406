-- Faults of entry points as contracts see them: faults of inputs and outputs name an attribute by a text.
use Rattle.std.specs.Prelude.{ℕ}
use Rattle.check_varyings.specs.VaryingFaults.{VaryingFault, varying_fault_of}
use Rattle.check_faults.specs.declared.entry.EntryPointError.{EntryPointError}
use Rattle.check_faults.specs.declared.entry.EntryPointError.TheVariants.{Argument, Result}

-- a fault of an argument, counted from 0; one of the result or of an output of a mesh; or any other fault
pub data EntryFault : Type 0 where
  OfArgument : (index : ℕ) (fault : VaryingFault) → EntryFault
  OfResult : (fault : VaryingFault) → EntryFault
  Other : (error : EntryPointError) → EntryFault

-- the fault that an error is
abbrev pub fault_of : EntryPointError → EntryFault
fault_of (Argument index error) = OfArgument index (varying_fault_of error)
fault_of (Result error) = OfResult (varying_fault_of error)
fault_of error = Other error
