-- The bindings that are taken, as the code keeps them: work of lemmas, which private functions alone cite.
use Rattle.std.specs.Prelude.{◌≡◌, ℕ, List}
use Rattle.std.specs.BTreeSet.{BTreeSet, contains}
use Rattle.ir_module.specs.contracts.module.ResourceBindingOrd.TheImpl as binding_order
use Rattle.ir_module.specs.declared.module.GlobalVariable.{GlobalVariable}
use Rattle.ir_module.specs.declared.module.ResourceBinding.{ResourceBinding}
use Rattle.ir_flags.specs.declared.valid.GlobalUse.{GlobalUse}
use Rattle.check_variables.specs.UsedBindings.{is_taken_before}

-- a set has the bindings of the globals before this handle that are used
abbrev pub AreTaken : BTreeSet ResourceBinding → List GlobalUse → List GlobalVariable → ℕ → Type 0
AreTaken set uses globals h =
    (b : ResourceBinding) → contains (binding_order.ghosts).cmp set b ≡ is_taken_before uses globals b h
