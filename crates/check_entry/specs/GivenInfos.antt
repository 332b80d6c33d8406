-- The infos of a module's types, as entry points need them.
use Rattle.std.specs.Prelude.{ℕ, ◌≡◌, ◌<◌, List, All, IfErr, length}
use Rattle.ir_module.specs.declared.module.Module.{Module}
use Rattle.ir_types.specs.declared.type_info.TypeInfo.{TypeInfo}

-- the types that an info names as the cause of a bad layout are there
abbrev pub NamesTypes : ℕ → TypeInfo → Type 0
NamesTypes n info = IfErr info.storage_layout (λ e. e.0 < n) × IfErr info.uniform_layout (λ e. e.0 < n)

-- there is one info for each type of the module, and what the infos name is there
pub record AreInfosOf (m : Module) (infos : List TypeInfo) : Type 0 where
  pub one_each : length infos ≡ length m.types
  pub named : All (NamesTypes (length m.types)) infos
