-- The steps of the globals that an entry point uses, where these are its uses of each global, its own joined in.
use Rattle.std.specs.Prelude.{ℕ, zero, suc, ◌+◌, Bool, false, not, ◌&&◌, ◌==◌, nat_le, List, [], ◌∷◌, ◌++◌, Option, None, Some, slice_get, length, unwrap_or, if◌then◌else◌}
use Rattle.ir_flags.specs.Bits.{contains, NO_USE}
use Rattle.ir_arena.specs.Points.{points_of_each}
use Rattle.ir_types.specs.TypeTests.{is_handle}
use Rattle.ir_types.specs.Types.{inner_at}
use Rattle.ir_flags.specs.declared.ir.StorageAccess.{StorageAccess}
use Rattle.ir_module.specs.declared.module.EntryPoint.{EntryPoint}
use Rattle.ir_module.specs.declared.module.GlobalVariable.{GlobalVariable}
use Rattle.ir_module.specs.declared.module.Module.{Module}
use Rattle.ir_module.specs.declared.module.ResourceBinding.{ResourceBinding}
use Rattle.ir_leaves.specs.declared.stage.ShaderStage.{ShaderStage}
use Rattle.ir_types.specs.declared.types.AddressSpace.{AddressSpace}
use Rattle.ir_types.specs.declared.types.AddressSpace.TheVariants as space
use Rattle.ir_types.specs.declared.types.ImageClass.TheVariants as class
use Rattle.ir_types.specs.declared.types.Type.{«Type» as IrType}
use Rattle.ir_types.specs.declared.types.TypeInner.{TypeInner}
use Rattle.ir_types.specs.declared.types.TypeInner.TheVariants as inner
use Rattle.ir_flags.specs.declared.valid.GlobalUse.{GlobalUse}
use Rattle.ir_flags.specs.declared.valid.ValidationFlags.{ValidationFlags}
use Rattle.check_variables.specs.AllowedUses.{allowed_use, hands_payload, takes_payload}
use Rattle.check_variables.specs.UsedBindings.{is_used, is_taken_before}
use Rattle.ir_facts.specs.WhatIsChecked.{checks_bindings}
use Rattle.ir_facts.specs.Meaning.{Meaning}
use Rattle.check_entry.specs.EntryAnswers.{EntryPoints}
use Rattle.ir_types.specs.SpaceTests.{is_immediate}
use Rattle.check_faults.specs.declared.entry.EntryPointError.TheVariants as fault

-- Immediates.

abbrev pub is_immediate_at : Option GlobalVariable → Bool
is_immediate_at None = false
is_immediate_at (Some g) = is_immediate g.space

abbrev pub is_used_immediate : List GlobalUse → List GlobalVariable → ℕ → Bool
is_used_immediate uses globals h = is_immediate_at (slice_get globals h) && is_used uses h

-- how many of the globals before this handle are immediates that are used
abbrev pub used_immediates : List GlobalUse → List GlobalVariable → ℕ → ℕ
used_immediates uses globals zero = 0
used_immediates uses globals (suc h) = used_immediates uses globals h + (if is_used_immediate uses globals h then 1 else 0)

abbrev pub immediate_points : List GlobalUse → List GlobalVariable → EntryPoints
immediate_points uses globals = (nat_le (used_immediates uses globals (length globals)) 1, fault.MoreThanOneImmediateUsed) ∷ []

-- Bindings.

-- the binding of a global, if it has one: where bindings are checked, no earlier global that is used has it
abbrev pub binding_points : ValidationFlags → List GlobalUse → List GlobalVariable → ℕ → Option ResourceBinding → EntryPoints
binding_points flags uses globals h None = []
binding_points flags uses globals h (Some b) =
    (not (checks_bindings flags && is_taken_before uses globals b h), fault.BindingCollision h) ∷ []

-- Each global that is used.

-- the access of a storage image
abbrev pub image_access : Option TypeInner → Option StorageAccess
image_access (Some (inner.Image dim arrayed (class.Storage format access))) = Some access
image_access _ = None

-- the access of a storage image, or of a binding array of such images
abbrev pub access_in : List IrType → Option TypeInner → Option StorageAccess
access_in types (Some (inner.BindingArray base size)) = image_access (inner_at types base)
access_in types i = image_access i

-- the payload that is used is the entry point's, and large enough
abbrev pub used_payload_points : Option ℕ → Option ℕ → ℕ → AddressSpace → EntryPoints
used_payload_points payload size h space.TaskPayload =
    (is_handle h payload, fault.WrongTaskPayloadUsed)
    ∷ (nat_le 4 (unwrap_or size 0), fault.TaskPayloadTooSmall (unwrap_or size 0))
    ∷ []
used_payload_points payload size h space.Function = []
used_payload_points payload size h space.Private = []
used_payload_points payload size h space.WorkGroup = []
used_payload_points payload size h space.Uniform = []
used_payload_points payload size h (space.Storage access) = []
used_payload_points payload size h space.Handle = []
used_payload_points payload size h space.Immediate = []
used_payload_points payload size h space.RayPayload = []
used_payload_points payload size h space.IncomingRayPayload = []

-- a ray payload is used at a stage that has one
abbrev pub ray_points : ShaderStage → AddressSpace → EntryPoints
ray_points at space.RayPayload = (hands_payload at, fault.RayPayloadInInvalidStage at) ∷ []
ray_points at space.IncomingRayPayload = (takes_payload at, fault.IncomingRayPayloadInInvalidStage at) ∷ []
ray_points at space.Function = []
ray_points at space.Private = []
ray_points at space.WorkGroup = []
ray_points at space.Uniform = []
ray_points at (space.Storage access) = []
ray_points at space.Handle = []
ray_points at space.Immediate = []
ray_points at space.TaskPayload = []

-- every use is one that is allowed
abbrev pub is_within : Option GlobalUse → GlobalUse → Bool
is_within None uses = false
is_within (Some allowed) uses = contains allowed.0 uses.0

abbrev pub allowed_points : List IrType → ShaderStage → ℕ → GlobalVariable → GlobalUse → EntryPoints
allowed_points types at h g uses = (
  is_within (allowed_use g.space (access_in types (inner_at types g.ty)) at) uses,
  fault.InvalidGlobalUsage h uses,
) ∷ []

-- of a lower layer that means this
module _ (below : Meaning) (flags : ValidationFlags) (program : Module) (ep : EntryPoint) (uses : List GlobalUse) where
  -- how a global is used
  abbrev pub use_points : ℕ → GlobalVariable → GlobalUse → EntryPoints
  use_points h g given =
      used_payload_points ep.task_payload (below.size_of program g.ty) h g.space
      ++ (ray_points ep.stage g.space
      ++ allowed_points program.types ep.stage h g given)

  -- a global that is used so: how, and its binding
  abbrev pub used_global_points : ℕ → GlobalVariable → GlobalUse → EntryPoints
  used_global_points h g given = use_points h g given ++ binding_points flags uses program.global_variables h g.binding

  -- a global, where it is used
  abbrev pub points_if_used : ℕ → GlobalVariable → Option GlobalUse → EntryPoints
  points_if_used h g None = []
  points_if_used h g (Some given) = if given.0 == NO_USE.0 then [] else used_global_points h g given

  abbrev pub global_points : ℕ → GlobalVariable → EntryPoints
  global_points h g = points_if_used h g (slice_get uses h)

  -- the globals that are used: of immediates at most one; and then each in order
  abbrev pub globals_points : EntryPoints
  globals_points =
      immediate_points uses program.global_variables ++ points_of_each global_points program.global_variables
