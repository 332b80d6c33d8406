-- A refusal whose fault lies on the heap, as the refusal that it is, and which fault it is for: work of lemmas, cited by
-- functions that the validator alone calls.
use Rattle.std.specs.Prelude.{◌≡◌, Option, Some, None, Box, ⊤}
use Rattle.std.specs.declared.alloc.Global.{Global}
use Rattle.ir_arena.specs.declared.span.Refusal.{Refusal}
use Rattle.ir_arena.specs.declared.span.Refusal.TheVariants.{Fault, Memory}

abbrev pub refusal_in : {E : Type 0} → Option (Box E Global) → Refusal E
refusal_in (Some fault) = Fault fault.value
refusal_in None = Memory

-- the refusal is for this fault, or there was no memory
abbrev pub IsRefusalFor : {E : Type 0} → E → Refusal E → Type 0
IsRefusalFor fault (Fault given) = given ≡ fault
IsRefusalFor fault Memory = ⊤
