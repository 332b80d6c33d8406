-- The bindings of the globals that an entry point uses, by its uses of each global.
use Rattle.std.specs.Prelude.{ℕ, zero, suc, Bool, false, not, ◌&&◌, ◌||◌, ◌==◌, List, Option, None, Some, slice_get, option_and_then}
use Rattle.ir_flags.specs.Bits.{NO_USE}
use Rattle.ir_flags.specs.declared.valid.GlobalUse.{GlobalUse}
use Rattle.ir_module.specs.declared.module.GlobalVariable.{GlobalVariable}
use Rattle.ir_module.specs.declared.module.ResourceBinding.{ResourceBinding}

-- some use is made of a global
abbrev pub is_some_use : Option GlobalUse → Bool
is_some_use None = false
is_some_use (Some uses) = not (uses.0 == NO_USE.0)

-- the global with this handle is used
abbrev pub is_used : List GlobalUse → ℕ → Bool
is_used uses h = is_some_use (slice_get uses h)

abbrev pub is_same_binding : ResourceBinding → ResourceBinding → Bool
is_same_binding a b = (a.group == b.group) && (a.binding == b.binding)

abbrev pub is_bound_to : ResourceBinding → Option ResourceBinding → Bool
is_bound_to b None = false
is_bound_to b (Some given) = is_same_binding b given

abbrev pub binding_at : List GlobalVariable → ℕ → Option ResourceBinding
binding_at globals h = option_and_then (λ g. g.binding) (slice_get globals h)

-- a global before this handle is used and has this binding
abbrev pub is_taken_before : List GlobalUse → List GlobalVariable → ResourceBinding → ℕ → Bool
is_taken_before uses globals b zero = false
is_taken_before uses globals b (suc h) =
    is_taken_before uses globals b h || (is_used uses h && is_bound_to b (binding_at globals h))
