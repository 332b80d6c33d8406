-- What the points of the subgroup statements and of barriers say where they fail.
use Rattle.std.proofs.Common.{ℕ, Bool, true, false, [], ◌∷◌, ◌++◌, None, Some, Option}
use Rattle.std.specs.Prelude.{⊤}
use Rattle.ir_statements.specs.Tree.{Use, Put}
use Rattle.ir_statements.specs.View.{used_if, mode_acts}
use Rattle.ir_statements.specs.declared.operations.GatherMode.{GatherMode}
use Rattle.ir_statements.specs.declared.operations.GatherMode.TheVariants as gather
use Rattle.ir_flags.specs.declared.ir.Barrier.{Barrier}
use Rattle.ir_statements.specs.declared.operations.CollectiveOperation.{CollectiveOperation}
use Rattle.ir_statements.specs.declared.operations.SubgroupOperation.{SubgroupOperation}
use Rattle.naga_runs.specs.Visits.{VisitPlace}
use Rattle.check_scope.specs.Context.{Context}
use Rattle.check_subgroups.specs.Barrier.{is_of_subgroup, barrier_points}
use Rattle.check_subgroups.specs.Subgroup.{ballot_points}
use Rattle.check_subgroups.specs.SubgroupCollective.{collective_points}
use Rattle.check_subgroups.specs.SubgroupGather.{index_points, gather_points}
use Rattle.check_subgroups.specs.walk.SubgroupParts.{gathered_points}
use Rattle.check_laws.proofs.Refused.{Answered, answered_if, first_use, second_use}

module _ (context : Context) (place : VisitPlace) where
  pub ballot_answered : (r : ℕ) (predicate : Option ℕ) →
      Answered place.must (used_if predicate ++ Put r ∷ []) ⊤ (ballot_points context place r predicate)
  ballot_answered r None = (λ e. tt, (λ e. tt, (λ e. tt, tt)))
  ballot_answered r (Some h) =
      (λ e. tt, (λ e. tt, (λ e. first_use place.must (Put r ∷ []) h e, (λ e. tt, (λ e. tt, tt)))))

  pub collective_answered : (o : SubgroupOperation) (part : CollectiveOperation) (a r : ℕ) →
      Answered place.must (Use a ∷ Put r ∷ []) ⊤ (collective_points context place o part a r)
  collective_answered o part a r = (
    λ e. tt,
    (λ e. tt, (λ e. first_use place.must (Put r ∷ []) a e, (λ e. tt, (λ e. tt, (λ e. tt, (λ e. tt, tt)))))),
  )

  indexed_answered : (broadcasts : Bool) (a r i : ℕ) → Answered place.must (Use i ∷ Use a ∷ Put r ∷ []) ⊤
      (index_points context place broadcasts a (Some i) ++ gathered_points context place a r)
  indexed_answered broadcasts a r i = (
    λ e. first_use place.must (Use a ∷ Put r ∷ []) i e,
    (λ e. tt, (λ e. tt, (λ e. second_use place.must i a (Put r ∷ []) e, (λ e. tt, (λ e. tt, (λ e. tt, tt)))))),
  )

  gathered_answered : (a r : ℕ) → Answered place.must (Use a ∷ Put r ∷ []) ⊤ (gathered_points context place a r)
  gathered_answered a r =
      (λ e. first_use place.must (Put r ∷ []) a e, (λ e. tt, (λ e. tt, (λ e. tt, tt))))

  pub gather_answered : (mode : GatherMode) (a r : ℕ) →
      Answered place.must (mode_acts mode ++ Use a ∷ Put r ∷ []) ⊤ (gather_points context place mode a r)
  gather_answered gather.BroadcastFirst a r = (λ e. tt, (λ e. tt, gathered_answered a r))
  gather_answered (gather.QuadSwap d) a r = (λ e. tt, (λ e. tt, gathered_answered a r))
  gather_answered (gather.Broadcast i) a r = (λ e. tt, (λ e. tt, indexed_answered true a r i))
  gather_answered (gather.Shuffle i) a r = (λ e. tt, (λ e. tt, indexed_answered false a r i))
  gather_answered (gather.ShuffleDown i) a r = (λ e. tt, (λ e. tt, indexed_answered false a r i))
  gather_answered (gather.ShuffleUp i) a r = (λ e. tt, (λ e. tt, indexed_answered false a r i))
  gather_answered (gather.ShuffleXor i) a r = (λ e. tt, (λ e. tt, indexed_answered false a r i))
  gather_answered (gather.QuadBroadcast i) a r = (λ e. tt, (λ e. tt, indexed_answered true a r i))

  pub barrier_answered : (b : Barrier) → Answered place.must [] ⊤ (barrier_points context.settings b)
  barrier_answered b = answered_if place.must [] ⊤ (is_of_subgroup b) _ _ (λ e. tt, (λ e. tt, tt)) tt
