-- The check lists of subgroup statements: what they say of uses and puts.
use Rattle.std.proofs.Common.{◌≡◌, ℕ, Bool, true, false, [], ◌∷◌, ◌++◌, Option, None, Some}
use Rattle.ir_arena.proofs.Points.{both_hold, not_holds}
use Rattle.ir_arena.specs.Points.{first_fault}
use Rattle.ir_statements.specs.Tree.{Use, Put}
use Rattle.ir_statements.specs.View.{used_if, mode_acts}
use Rattle.ir_statements.specs.declared.operations.CollectiveOperation.{CollectiveOperation}
use Rattle.ir_statements.specs.declared.operations.GatherMode.{GatherMode}
use Rattle.ir_statements.specs.declared.operations.GatherMode.TheVariants as gather
use Rattle.ir_statements.specs.declared.operations.SubgroupOperation.{SubgroupOperation}
use Rattle.naga_runs.specs.Soundness.{Fit}
use Rattle.naga_runs.specs.Visits.{VisitPlace}
use Rattle.check_subgroups.specs.walk.SubgroupParts.{gathered_points}
use Rattle.check_scope.specs.Context.{Context}
use Rattle.check_scope.specs.ScopePoints.{may_use, is_in_scope}
use Rattle.check_subgroups.specs.Subgroup.{ballot_points}
use Rattle.check_subgroups.specs.SubgroupCollective.{collective_points}
use Rattle.check_subgroups.specs.SubgroupGather.{index_of, is_broadcast, index_points, gather_points}
use Rattle.check_scope.proofs.Flat.{holds_at, holds_behind}

module _ (context : Context) (place : VisitPlace) where
  -- a ballot without a predicate puts its result; with one it uses that before
  pub ballot_fits : (r : ℕ) (predicate : Option ℕ) → first_fault (ballot_points context place r predicate) ≡ None → Fit (may_use place) (is_in_scope place) (used_if predicate ++ Put r ∷ [])
  ballot_fits r None e = (not_holds (is_in_scope place r) (holds_at 2 (ballot_points context place r None) e), tt)
  ballot_fits r (Some h) e =
      let points = ballot_points context place r (Some h) in
      (holds_at 2 points e, (not_holds (is_in_scope place r) (holds_at 4 points e), tt))

  pub ballot_is_new : (r : ℕ) (predicate : Option ℕ) → first_fault (ballot_points context place r predicate) ≡ None → is_in_scope place r ≡ false
  ballot_is_new r None e = (ballot_fits r None e).0
  ballot_is_new r (Some h) e = (ballot_fits r (Some h) e).1.0

  pub collective_fits : (o : SubgroupOperation) (part : CollectiveOperation) (argument r : ℕ) → first_fault (collective_points context place o part argument r) ≡ None → Fit (may_use place) (is_in_scope place) (Use argument ∷ Put r ∷ [])
  collective_fits o part argument r e =
      let points = collective_points context place o part argument r in
      (holds_at 2 points e, (not_holds (is_in_scope place r) (holds_at 5 points e), tt))

  pub collective_is_new : (o : SubgroupOperation) (part : CollectiveOperation) (argument r : ℕ) → first_fault (collective_points context place o part argument r) ≡ None → is_in_scope place r ≡ false
  collective_is_new o part argument r e = (collective_fits o part argument r e).1.0

  -- a gather without an index, and the part behind the index of one that has one
  gathered_fits : (argument r : ℕ) → first_fault (gathered_points context place argument r) ≡ None → Fit (may_use place) (is_in_scope place) (Use argument ∷ Put r ∷ [])
  gathered_fits argument r e =
      let points = gathered_points context place argument r in
      (holds_at 0 points e, (not_holds (is_in_scope place r) (holds_at 2 points e), tt))

  indexed_fits : (broadcasts : Bool) (argument r index : ℕ) → first_fault (index_points context place broadcasts argument (Some index) ++ gathered_points context place argument r) ≡ None → Fit (may_use place) (is_in_scope place) (Use index ∷ Use argument ∷ Put r ∷ [])
  indexed_fits broadcasts argument r index e =
      let parts = both_hold (index_points context place broadcasts argument (Some index)) (gathered_points context place argument r) e in
      (holds_at 0 (index_points context place broadcasts argument (Some index)) parts.0, gathered_fits argument r parts.1)

  pub gather_fits : (mode : GatherMode) (argument r : ℕ) → first_fault (gather_points context place mode argument r) ≡ None → Fit (may_use place) (is_in_scope place) (mode_acts mode ++ Use argument ∷ Put r ∷ [])
  gather_fits mode argument r e = by_mode mode (holds_behind 2 (gather_points context place mode argument r) e)
    where
      by_mode : (mode : GatherMode) → first_fault (index_points context place (is_broadcast mode) argument (index_of mode) ++ gathered_points context place argument r) ≡ None → Fit (may_use place) (is_in_scope place) (mode_acts mode ++ Use argument ∷ Put r ∷ [])
      by_mode gather.BroadcastFirst h = gathered_fits argument r h
      by_mode (gather.QuadSwap d) h = gathered_fits argument r h
      by_mode (gather.Broadcast i) h = indexed_fits true argument r i h
      by_mode (gather.Shuffle i) h = indexed_fits false argument r i h
      by_mode (gather.ShuffleDown i) h = indexed_fits false argument r i h
      by_mode (gather.ShuffleUp i) h = indexed_fits false argument r i h
      by_mode (gather.ShuffleXor i) h = indexed_fits false argument r i h
      by_mode (gather.QuadBroadcast i) h = indexed_fits true argument r i h

  pub gather_is_new : (mode : GatherMode) (argument r : ℕ) → first_fault (gather_points context place mode argument r) ≡ None → is_in_scope place r ≡ false
  gather_is_new mode argument r e =
      let rest = holds_behind 2 (gather_points context place mode argument r) e in
      let parts = both_hold (index_points context place (is_broadcast mode) argument (index_of mode)) (gathered_points context place argument r) rest in
      (gathered_fits argument r parts.1).1.0
