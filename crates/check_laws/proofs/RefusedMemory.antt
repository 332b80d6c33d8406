-- What the points of Atomic, Store, WorkGroupUniformLoad and CooperativeStore say where they fail.
use Rattle.std.proofs.Common.{ℕ, Bool, List, [], ◌∷◌, None, Some, Option}
use Rattle.std.specs.Prelude.{⊤, is_some}
use Rattle.ir_statements.specs.Tree.{Act, Use, Put}
use Rattle.ir_statements.specs.View.{atomic_acts}
use Rattle.ir_statements.specs.declared.operations.AtomicFunction.{AtomicFunction}
use Rattle.ir_statements.specs.declared.operations.AtomicFunction.TheVariants as atomic
use Rattle.ir_flags.specs.declared.capabilities.Capabilities.{Capabilities}
use Rattle.ir_types.specs.declared.types.AddressSpace.{AddressSpace}
use Rattle.ir_leaves.specs.declared.scalars.Scalar.{Scalar}
use Rattle.naga_runs.specs.Handles.{Handles}
use Rattle.naga_runs.specs.Visits.{VisitPlace}
use Rattle.check_memory.specs.Atomic.{atomic_scalar, atomic_space, is_int64, is_float32, scalar_points, atomic_result_points, atomic_points}
use Rattle.check_memory.specs.Cooperative.{cooperative_points}
use Rattle.check_memory.specs.Load.{load_points}
use Rattle.check_memory.specs.Store.{store_points}
use Rattle.check_scope.specs.Context.{Context}
use Rattle.check_laws.proofs.Refused.{Answered, answered_both, answered_if, first_use, second_use, third_use}

module _ (context : Context) (place : VisitPlace) where
  scalar_answered : (acts : List Act) (capabilities : Capabilities) (s : Scalar) (p : AddressSpace)
      (fun : AtomicFunction) (has_result : Bool) →
      Answered place.must acts ⊤ (scalar_points capabilities s p fun has_result)
  scalar_answered acts capabilities s p fun has_result =
      answered_if place.must acts ⊤ (is_int64 s) _ _ (λ e. tt, tt)
      (answered_if place.must acts ⊤ (is_float32 s) _ _ (λ e. tt, (λ e. tt, (λ e. tt, tt))) tt)

  atomic_result_answered : (filled : Handles) (s : Scalar) (p : ℕ) (fun : AtomicFunction) (v : ℕ) (r : Option ℕ) →
      Answered place.must (Use p ∷ Use v ∷ atomic_acts fun r) ⊤
      (atomic_result_points context filled place s fun v r)
  atomic_result_answered filled s p fun v None = (λ e. tt, tt)
  atomic_result_answered filled s p (atomic.Exchange (Some c)) v (Some r) = (
    λ e. tt,
    (λ e. tt, (λ e. third_use place.must p v c (Put r ∷ []) e, (λ e. tt, (λ e. tt, (λ e. tt, (λ e. tt, tt)))))),
  )
  atomic_result_answered filled s p fun v (Some r) = (λ e. tt, (λ e. tt, (λ e. tt, (λ e. tt, (λ e. tt, tt)))))

  pub atomic_answered : (filled : Handles) (p : ℕ) (fun : AtomicFunction) (v : ℕ) (r : Option ℕ) →
      Answered place.must (Use p ∷ Use v ∷ atomic_acts fun r) ⊤ (atomic_points context filled place p fun v r)
  atomic_answered filled p fun v r = (
    λ e. first_use place.must (Use v ∷ atomic_acts fun r) p e,
    (
      λ e. tt,
      (
        λ e. second_use place.must p v (atomic_acts fun r) e,
        (
          λ e. tt,
          answered_both place.must (Use p ∷ Use v ∷ atomic_acts fun r) ⊤
              (scalar_points context.settings.capabilities (atomic_scalar context p) (atomic_space context p) fun (is_some r))
              (atomic_result_points context filled place (atomic_scalar context p) fun v r)
              (scalar_answered (Use p ∷ Use v ∷ atomic_acts fun r) context.settings.capabilities (atomic_scalar context p)
              (atomic_space context p) fun (is_some r))
              (atomic_result_answered filled (atomic_scalar context p) p fun v r),
        ),
      ),
    ),
  )

  pub store_answered : (p v : ℕ) → Answered place.must (Use v ∷ []) ⊤ (store_points context place p v)
  store_answered p v = (λ e. tt, (λ e. first_use place.must [] v e, (λ e. tt, (λ e. tt, (λ e. tt, tt)))))

  pub load_answered : (p r : ℕ) → Answered place.must (Use p ∷ Put r ∷ []) ⊤ (load_points context place p r)
  load_answered p r =
      (λ e. first_use place.must (Put r ∷ []) p e, (λ e. tt, (λ e. tt, (λ e. tt, (λ e. tt, tt)))))

  pub cooperative_answered : (t d : ℕ) → Answered place.must (Use t ∷ []) ⊤ (cooperative_points context place t d)
  cooperative_answered t d = (λ e. first_use place.must [] t e, (λ e. tt, (λ e. tt, (λ e. tt, tt))))
