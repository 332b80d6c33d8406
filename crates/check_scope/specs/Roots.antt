-- Where the walk from an expression stops that goes from each access to its base.
use Rattle.std.specs.Prelude.{ℕ, zero, suc, List, Option, None, Some, slice_get, unwrap_or}
use Rattle.std.specs.Option.{option_map}
use Rattle.ir_module.specs.declared.expressions.Expression.{Expression}
use Rattle.ir_module.specs.Operands.{access_base}
use Rattle.check_scope.specs.Context.{Context}

-- what an expression takes a part of, where there is one
abbrev pub access_base_in : Option Expression → Option ℕ
access_base_in None = None
access_base_in (Some x) = access_base x

-- where n steps from an expression lead, each from an access to its base
unfoldable pub root_within : List Expression → ℕ → ℕ → ℕ
root_within expressions zero h = h
root_within expressions (suc n) h =
    unwrap_or (option_map (root_within expressions n) (access_base_in (slice_get expressions h))) h

-- where the walk from an expression stops. A base stands before its access, so that h steps reach the end
abbrev pub root_at : Context → ℕ → ℕ
root_at context h = root_within context.fun.expressions h h
