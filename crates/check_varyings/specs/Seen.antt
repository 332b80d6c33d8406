-- What a group of inputs or outputs has taken so far, as two sets.
use Rattle.std.specs.Prelude.{ℕ, Bool}
use Rattle.ir_leaves.specs.declared.built_in.BuiltIn.{BuiltIn}

-- the locations that are taken, and the built-ins that are there, each with `invariant` and `perspective` cleared
pub record Seen : Type 0 where
  pub locations : ℕ → Bool
  pub built_ins : BuiltIn → Bool
