-- The globals that are used, where no point of them fails.
use Rattle.std.proofs.Common.{◌≡◌, ◌≤◌, ℕ, ◌==◌, Bool, true, false, List, [], None, Some, slice_get, ap, ◌∙◌, arith}
use Rattle.std.specs.Prelude.{if◌then◌else◌}
use Rattle.ir_arena.specs.Points.{first_fault}
use Rattle.ir_module.specs.declared.module.EntryPoint.{EntryPoint}
use Rattle.ir_module.specs.declared.module.GlobalVariable.{GlobalVariable}
use Rattle.ir_module.specs.declared.module.Module.{Module}
use Rattle.ir_flags.specs.declared.valid.GlobalUse.{GlobalUse}
use Rattle.ir_flags.specs.declared.valid.ValidationFlags.{ValidationFlags}
use Rattle.ir_facts.specs.Meaning.{Meaning}
use Rattle.check_entry.specs.UsedGlobals.{binding_points, global_points, points_if_used, use_points, used_global_points}
use Rattle.check_entry.proofs.EntrySteps.{both_pass}

module _ (below : Meaning) (flags : ValidationFlags) (program : Module) (ep : EntryPoint) (uses : List GlobalUse) where
  -- a global without uses, with none of them, and one that is used
  pub not_there : (h : ℕ) (g : GlobalVariable) → slice_get uses h ≡ None → first_fault (global_points below flags program ep uses h g) ≡ None
  not_there h g is = ap (λ o. first_fault (points_if_used below flags program ep uses h g o)) is

  pub unused : (h : ℕ) (g : GlobalVariable) (given : GlobalUse) → slice_get uses h ≡ Some given → (given.0 == 0) ≡ true →
      first_fault (global_points below flags program ep uses h g) ≡ None
  unused h g given is none =
      ap (λ o. first_fault (points_if_used below flags program ep uses h g o)) is
      ∙ ap (λ b. first_fault (if b then [] else used_global_points below flags program ep uses h g given)) none

  pub used_holds : (h : ℕ) (g : GlobalVariable) (given : GlobalUse) → slice_get uses h ≡ Some given → (given.0 == 0) ≡ false →
      first_fault (use_points below flags program ep [] h g given) ≡ None → first_fault (binding_points flags uses program.global_variables h g.binding) ≡ None →
      first_fault (global_points below flags program ep uses h g) ≡ None
  used_holds h g given is some allowed bound =
      ap (λ o. first_fault (points_if_used below flags program ep uses h g o)) is
      ∙ ap (λ b. first_fault (if b then [] else used_global_points below flags program ep uses h g given)) some
      ∙ both_pass (use_points below flags program ep uses h g given) (binding_points flags uses program.global_variables h g.binding) allowed bound

pub ruleset holding = (not_there, unused, used_holds)

pub at_most_one : (b : Bool) → (if b then 1 else 0) ≤ 1
at_most_one true = omega arith
at_most_one false = omega arith
