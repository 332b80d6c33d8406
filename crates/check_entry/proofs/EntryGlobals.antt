-- The points of a global that is used, as the code checks them.
use Rattle.std.proofs.Common.{◌≡◌, ℕ, ◌==◌, false, List, [], None, Some, Result, slice_get, sym, ap, ◌∙◌}
use Rattle.std.specs.Prelude.{IsErr, if◌then◌else◌}
use Rattle.std.specs.Result.{result_err}
use Rattle.ir_arena.specs.Points.{first_fault}
use Rattle.ir_module.specs.declared.module.EntryPoint.{EntryPoint}
use Rattle.ir_module.specs.declared.module.GlobalVariable.{GlobalVariable}
use Rattle.ir_module.specs.declared.module.Module.{Module}
use Rattle.ir_flags.specs.declared.valid.GlobalUse.{GlobalUse}
use Rattle.ir_flags.specs.declared.valid.ValidationFlags.{ValidationFlags}
use Rattle.ir_facts.specs.Meaning.{Meaning}
use Rattle.check_entry.specs.UsedGlobals.{binding_points, use_points, used_global_points, points_if_used, global_points}
use Rattle.check_faults.specs.declared.entry.EntryPointError.{EntryPointError}
use Rattle.ir_facts.proofs.Refusals.{fault_first, fault_second}
use Rattle.ir_facts.specs.Answers.{Finds, FirstOf}

module _ (below : Meaning) (flags : ValidationFlags) (program : Module) (ep : EntryPoint) (uses : List GlobalUse) (h : ℕ) (g : GlobalVariable) (given : GlobalUse) (is : slice_get uses h ≡ Some given) (some : (given.0 == 0) ≡ false) where
  pub points_are : global_points below flags program ep uses h g ≡ used_global_points below flags program ep uses h g given
  points_are =
      ap (points_if_used below flags program ep uses h g) is
      ∙ ap (λ b. if b then [] else used_global_points below flags program ep uses h g given) some

  -- a fault of how it is used
  pub use_refused : {T : Type 0} (r : Result T EntryPointError) → IsErr r → Finds (FirstOf (use_points below flags program ep [] h g given)) r → Finds (FirstOf (global_points below flags program ep uses h g)) r
  use_refused r err e =
      fault_first r (use_points below flags program ep uses h g given) (binding_points flags uses program.global_variables h g.binding) err e
      ∙ ap first_fault (sym points_are)

  -- its binding
  pub binding_decides : {T : Type 0} (r : Result T EntryPointError) → first_fault (use_points below flags program ep [] h g given) ≡ None → Finds (FirstOf (binding_points flags uses program.global_variables h g.binding)) r → Finds (FirstOf (global_points below flags program ep uses h g)) r
  binding_decides r none e =
      fault_second (result_err r) (use_points below flags program ep uses h g given) (binding_points flags uses program.global_variables h g.binding) none e
      ∙ ap first_fault (sym points_are)
